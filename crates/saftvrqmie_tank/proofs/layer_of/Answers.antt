-- `saftvrqmie_tank::layer_of` meets its contract. Assumes nothing.
use Rattle.saftvrqmie_tank.proofs.Ways.{verdict_held, verdict_refused, layer_2, layer_table, layer_energies}
use Rattle.number.proofs.Walk.{told, handed_on}
use mathlib.Core.Path.{refl}
use Rattle.saftvrqmie_tank.proofs.layer_of.Goals as goal

pub returns-then-not-layer_within : goal.returns-then-not-layer_within
returns-then-not-layer_within g c = layer_2 _ _ _ _ (told c.layer_within.ensures c.if-not-layer_within.true)

pub returns-in_err-table_of : goal.returns-in_err-table_of
returns-in_err-table_of g c = rw (handed_on _ c.from_residual.ensures) (layer_table _ _ _ _ (told c.layer_within.ensures c.if-not-layer_within.false) _ _ (verdict_refused _ _ _ c.table_of.ensures.0 c.in_err-table_of.was) refl)

pub returns : goal.returns
returns g c = layer_energies _ _ _ _ (told c.layer_within.ensures c.if-not-layer_within.false) _ _ _ _ (verdict_held _ _ _ c.table_of.ensures.0 c.in_ok-table_of.was) c.table_of.ensures.1 c.from.ensures c.energies.ensures
