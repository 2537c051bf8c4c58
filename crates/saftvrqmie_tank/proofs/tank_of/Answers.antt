-- `saftvrqmie_tank::tank_of` meets its contract. Assumes nothing.
use mathlib.Core.Bool.{true}
use mathlib.Core.Path.{refl}
use Rattle.number.proofs.Walk.{via, told, handed_on}
use Rattle.number.specs.Answer.{answer_by}
use Rattle.saftvrqmie_energies.specs.Energies.{each_by}
use Rattle.saftvrqmie_tank.proofs.Ways.{layers_high, tank_14, tank_1, tank_layer, tank_7, tank_held}
use Rattle.saftvrqmie_tank.proofs.tank_of.Goals as goal

pub returns-then-not-layers_within : goal.returns-then-not-layers_within
returns-then-not-layers_within g c = tank_14 _ _ _ _ (told c.layers_within.ensures c.if-not-layers_within.true)

pub tank_lengths-requires : goal.tank_lengths-requires
tank_lengths-requires g c = layers_high _ (told c.layers_within.ensures c.if-not-layers_within.false)

pub returns-then-not-tank_lengths : goal.returns-then-not-tank_lengths
returns-then-not-tank_lengths g c = tank_1 _ _ _ _ (told c.layers_within.ensures c.if-not-layers_within.false) (told c.tank_lengths.ensures c.if-not-tank_lengths.true)

pub layers_of-requires : goal.layers_of-requires
layers_of-requires g c = (layers_high _ (told c.layers_within.ensures c.if-not-layers_within.false), (told c.tank_lengths.ensures c.if-not-tank_lengths.false))

pub returns-in_err-e : goal.returns-in_err-e
returns-in_err-e g c =
    let D = g.D.DualNum in
    rw (handed_on _ c.from_residual.ensures) (tank_layer (D.beside true) _ _ _ (told c.layers_within.ensures c.if-not-layers_within.false) (told c.tank_lengths.ensures c.if-not-tank_lengths.false) _ _ (via (answer_by (each_by (D.of true))) c.layers_of.ensures c.in_err-e.was) refl)

pub returns-then-not-all_finite : goal.returns-then-not-all_finite
returns-then-not-all_finite g c =
    let D = g.D.DualNum in
    tank_7 (D.beside true) _ _ _ (told c.layers_within.ensures c.if-not-layers_within.false) (told c.tank_lengths.ensures c.if-not-tank_lengths.false) _ (via (answer_by (each_by (D.of true))) c.layers_of.ensures c.in_ok-e.was) (told c.all_finite.ensures c.if-not-all_finite.true)

pub returns : goal.returns
returns g c =
    let D = g.D.DualNum in
    tank_held (D.beside true) _ _ _ (told c.layers_within.ensures c.if-not-layers_within.false) (told c.tank_lengths.ensures c.if-not-tank_lengths.false) _ (via (answer_by (each_by (D.of true))) c.layers_of.ensures c.in_ok-e.was) (told c.all_finite.ensures c.if-not-all_finite.false)
