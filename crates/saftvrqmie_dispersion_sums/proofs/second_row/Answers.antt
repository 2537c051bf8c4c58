-- `saftvrqmie_dispersion_sums::second_row` meets its contract. Assumes nothing.
use borrow.Author.Rules.{rules}
use Prim.Native.Nat.{◌+◌, ◌<◌}
use native.Mathlib.Omega.{arith}
use lib.Ieee.{of_bits}
use mathlib.Core.Bool.{true}
use mathlib.Core.Path.{refl, ap}
use Rattle.number.specs.Arith.{decimal}
use Rattle.number.specs.Answer.{answer_by}
use Rattle.number.proofs.Walk.{handed_on}
use Rattle.saftvrqmie_hard_sphere.proofs.Sums.{walked_none, walked_next, walked_stop, walked_end}
use Rattle.saftvrqmie_dispersion_sums.specs.Dispersion.{second_row}
use Rattle.number.proofs.Turns.{of_none, from_start, from_next}
use Rattle.saftvrqmie_dispersion_sums.proofs.Turns.{second_held, second_outside}
use Rattle.saftvrqmie_dispersion_sums.proofs.second_row.Goals as goal

pub loop-j-init : goal.loop-j-init
loop-j-init g c = (search rules, search rules, λ x a v q r p. rw (of_none c.args.i) (walked_none _ _ _ _ _ p))

pub returns-in_err-v : goal.returns-in_err-v
unfolding second_row
returns-in_err-v g c x a v q r p =
    let D = g.D.DualNum in
    let t = c.loop-j.invariant.2 x a v q r p in
    rw (handed_on _ c.from_residual.ensures) (walked_stop _ _ _ _ _ _ _ _ (omega (arith, c.loop-j.invariant.0, c.loop-j-test.true)) t (second_outside (D.beside true) _ _ _ _ _ _ _ _ _ (rw (from_start _ _ c.loop-j.invariant.0) at (c.perturbed_pair-pair.ensures x)) a c.second_order_perturbation_ij.ensures _ (ap (answer_by (D.of true)) c.in_err-v.was)))

pub loop-j-preserved : goal.loop-j-preserved
unfolding decimal of_bits
loop-j-preserved g c =
    let D = g.D.DualNum in
    let m = g.met.D.DualNum in (
      omega (arith, c.loop-j.invariant.0),
      search rules,
      λ x a v q r p.
          let t = c.loop-j.invariant.2 x a v q r p in
          let lead = rw (c.entry-d.ensures true, c.item-xi.ensures true, q _ c.requires.1, c.item-xj.ensures true, q _ c.loop-j-test.true, from_start _ _ c.loop-j.invariant.0) at (c.lead-f.ensures true) in
          let chi = rw (c.item-a.ensures true, r _ _ c.requires.1 c.loop-j-test.true, from_start _ _ c.loop-j.invariant.0) at (c.chi-chi.ensures true) in
          rw (from_next _ _ c.loop-j.invariant.0) (walked_next _ _ (m.taken_of_law true) _ _ _ _ _ t (second_held (D.beside true) _ _ _ _ _ _ _ _ _ (rw (from_start _ _ c.loop-j.invariant.0) at (c.perturbed_pair-pair.ensures x)) a c.second_order_perturbation_ij.ensures _ _ _ _ _ (ap (answer_by (D.of true)) c.in_ok-v.was) lead chi refl (rw (m.add_law true _ _ _ c.add-a2.ensures, ← t.holds.begun, m.add_taken_law true _ _, m.mul_law true _ _ _ c.mul-in-loop-j.ensures, m.mul_law true _ _ _ c.mul.ensures, m.add_plain_law true _ _ _ c.add.ensures, m.plain_lit_law true _ _ c.lit.ensures)))),
    )

pub returns : goal.returns
unfolding second_row
returns g c x a v q r p = walked_end _ _ _ _ _ _ _ (omega (arith, c.loop-j.invariant.1)) (omega (arith, c.loop-j-test.false)) (omega (arith, c.requires.1)) (c.loop-j.invariant.2 x a v q r p)
