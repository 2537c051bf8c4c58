-- `saftvrqmie_dispersion_sums::first_row` meets its contract. Assumes nothing.
use borrow.Author.Rules.{rules}
use Prim.Native.Nat.{◌+◌}
use native.Mathlib.Omega.{arith}
use mathlib.Core.Bool.{true}
use mathlib.Core.Path.{ap}
use Rattle.number.specs.Answer.{answer_by}
use Rattle.number.proofs.Walk.{handed_on}
use Rattle.saftvrqmie_hard_sphere.proofs.Sums.{walked_none, walked_next, walked_stop, walked_end}
use Rattle.saftvrqmie_dispersion_sums.specs.Dispersion.{first_row}
use Rattle.number.proofs.Turns.{of_none, from_start, from_next}
use Rattle.saftvrqmie_dispersion_sums.proofs.Turns.{first_held, first_outside}
use Rattle.saftvrqmie_dispersion_sums.proofs.first_row.Goals as goal

pub loop-j-init : goal.loop-j-init
loop-j-init g c = (search rules, search rules, λ x v q p. rw (of_none c.args.i) (walked_none _ _ _ _ _ p))

pub returns-in_err-v : goal.returns-in_err-v
unfolding first_row
returns-in_err-v g c x v q p =
    let D = g.D.DualNum in
    let t = c.loop-j.invariant.2 x v q p in
    rw (handed_on _ c.from_residual.ensures) (walked_stop _ _ _ _ _ _ _ _ (omega (arith, c.loop-j.invariant.0, c.loop-j-test.true)) t (first_outside (D.beside true) _ _ _ _ _ _ _ _ _ (rw (from_start _ _ c.loop-j.invariant.0) at (c.perturbed_pair-pair.ensures x)) (c.first_order_perturbation_ij.ensures true) _ (ap (answer_by (D.of true)) c.in_err-v.was)))

pub loop-j-preserved : goal.loop-j-preserved
loop-j-preserved g c =
    let D = g.D.DualNum in
    let m = g.met.D.DualNum in (
      omega (arith, c.loop-j.invariant.0),
      search rules,
      λ x v q p.
          let t = c.loop-j.invariant.2 x v q p in
          let lead = rw (c.entry-d.ensures true, c.item-xi.ensures true, q _ c.requires.1, c.item-xj.ensures true, q c.loop-j.j c.loop-j-test.true, from_start _ _ c.loop-j.invariant.0) at (c.lead.ensures true) in
          rw (from_next _ _ c.loop-j.invariant.0) (walked_next _ _ (m.taken_of_law true) _ _ _ _ _ t (first_held (D.beside true) _ _ _ _ _ _ _ _ _ (rw (from_start _ _ c.loop-j.invariant.0) at (c.perturbed_pair-pair.ensures x)) (c.first_order_perturbation_ij.ensures true) _ _ _ (ap (answer_by (D.of true)) c.in_ok-v.was) lead (rw (m.add_law true _ _ _ c.add-a1.ensures, ← t.holds.begun, m.add_taken_law true _ _, m.mul_law true _ _ _ c.mul.ensures)))),
    )

pub returns : goal.returns
unfolding first_row
returns g c x v q p = walked_end _ _ _ _ _ _ _ (omega (arith, c.loop-j.invariant.1)) (omega (arith, c.loop-j-test.false)) (omega (arith, c.requires.1)) (c.loop-j.invariant.2 x v q p)
