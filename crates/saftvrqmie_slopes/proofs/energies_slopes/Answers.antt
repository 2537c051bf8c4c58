-- `saftvrqmie_slopes::energies_slopes` meets its contract. Assumes nothing.
use Rattle.slopes_lists.proofs.Laws.{right}
use Rattle.saftvrqmie_slopes.proofs.Ways.{slopes_1, slopes_2, slopes_7, slopes_table, slopes_energies}
use Rattle.mie_parameters.proofs.Laws.{held_at, refused_at}
use Rattle.dual.specs.Value.{dual_of}
use Rattle.number.proofs.Walk.{told, handed_on}
use mathlib.Core.Path.{refl}
use native.Mathlib.Omega.{arith}
use Rattle.saftvrqmie_slopes.proofs.energies_slopes.Goals as goal

pub returns-then-not-sloped_lengths : goal.returns-then-not-sloped_lengths
returns-then-not-sloped_lengths c = slopes_1 _ _ _ (told c.sloped_lengths.ensures c.if-not-sloped_lengths.true)

pub state_within-requires : goal.state_within-requires
state_within-requires c = let h = right _ _ (told c.sloped_lengths.ensures c.if-not-sloped_lengths.false) in (h.fractions.values, h.densities.values)

pub returns-then-not-state_within : goal.returns-then-not-state_within
unfolding dual_of
returns-then-not-state_within c = slopes_2 _ _ _ (told c.sloped_lengths.ensures c.if-not-sloped_lengths.false) (told c.state_within.ensures c.if-not-state_within.true)

pub supplied_finite-requires : goal.supplied_finite-requires
supplied_finite-requires c = let h = right _ _ (told c.sloped_lengths.ensures c.if-not-sloped_lengths.false) in (h.fractions.slopes, h.densities.slopes)

pub returns-then-not-supplied_finite : goal.returns-then-not-supplied_finite
unfolding dual_of
returns-then-not-supplied_finite c = slopes_7 _ _ _ (told c.sloped_lengths.ensures c.if-not-sloped_lengths.false) (told c.state_within.ensures c.if-not-state_within.false) (told c.supplied_finite.ensures c.if-not-supplied_finite.true)

pub table_slopes-requires : goal.table_slopes-requires
table_slopes-requires c = (right _ _ (told c.sloped_lengths.ensures c.if-not-sloped_lengths.false)).high

pub returns-in_err-table_slopes : goal.returns-in_err-table_slopes
unfolding dual_of
returns-in_err-table_slopes c = rw (handed_on _ c.from_residual.ensures) (slopes_table _ _ _ (told c.sloped_lengths.ensures c.if-not-sloped_lengths.false) (told c.state_within.ensures c.if-not-state_within.false) (told c.supplied_finite.ensures c.if-not-supplied_finite.false) _ _ (refused_at _ _ _ _ c.table_slopes.ensures c.in_err-table_slopes.was) refl)

pub energies_of-requires : goal.energies_of-requires
energies_of-requires c = let h = right _ _ (told c.sloped_lengths.ensures c.if-not-sloped_lengths.false) in let l = h.low in (omega (arith, l), h.high, h.fractions.values, h.fractions.slopes, h.densities.values, h.densities.slopes)

pub returns : goal.returns
unfolding dual_of
returns c = slopes_energies _ _ _ (told c.sloped_lengths.ensures c.if-not-sloped_lengths.false) (told c.state_within.ensures c.if-not-state_within.false) (told c.supplied_finite.ensures c.if-not-supplied_finite.false) _ _ (held_at _ _ _ c.table_slopes.ensures c.in_ok-table_slopes.was) c.energies_of.ensures
