-- `saftvrqmie_dispersion_sums::alpha_row` meets its contract. Assumes nothing.
use borrow.Author.Rules.{rules}
use native.Mathlib.Omega.{arith}
use mathlib.Core.Bool.{true}
use mathlib.Core.Path.{refl}
use Rattle.number.specs.Answer.{answer_by}
use Rattle.number.proofs.Walk.{via, walk_none, walk_next, walk_stop, walk_end, handed_on}
use Rattle.saftvrqmie_dispersion_sums.specs.Dispersion.{alpha_row}
use Rattle.std.proofs.lemmas.List.{map-set}
use Rattle.saftvrqmie_dispersion_sums.proofs.Turns.{alpha_held_at, alpha_outside}
use Rattle.number.proofs.Turns.{of_none, from_start, from_next}
use Rattle.saftvrqmie_dispersion_sums.proofs.alpha_row.Goals as goal

pub loop-j-init : goal.loop-j-init
loop-j-init g c = (search rules, search rules, rw (of_none c.args.i) (walk_none _ _))

pub returns-in_err-a : goal.returns-in_err-a
unfolding alpha_row
returns-in_err-a g c =
    let D = g.D.DualNum in
    let a = rw (from_start _ _ c.loop-j.invariant.0) at c.alpha_at.ensures in
    rw (handed_on _ c.from_residual.ensures) (walk_stop _ _ _ _ _ _ (omega (arith, c.loop-j.invariant.0, c.loop-j-test.true)) c.loop-j.invariant.2 (alpha_outside (D.beside true) _ _ _ _ _ _ _ _ _ refl refl refl refl _ (via (answer_by (D.of true)) a c.in_err-a.was)))

pub loop-j-preserved : goal.loop-j-preserved
loop-j-preserved g c =
    let D = g.D.DualNum in
    let d = from_start _ _ c.loop-j.invariant.0 in
    let a = rw d at c.alpha_at.ensures in
    (omega (arith, c.loop-j.invariant.0), search rules, rw (map-set, map-set, from_next _ _ c.loop-j.invariant.0) (walk_next _ _ _ _ _ c.loop-j.invariant.2 (alpha_held_at (D.beside true) _ _ _ _ _ _ _ _ _ refl refl refl refl _ d _ (via (answer_by (D.of true)) a c.in_ok-a.was))))

pub returns : goal.returns
unfolding alpha_row
returns g c = walk_end _ _ _ _ _ (omega (arith, c.loop-j.invariant.1)) (omega (arith, c.loop-j-test.false)) c.loop-j.invariant.2
