-- `saftvrqmie_dispersion_sums::third_row` meets its contract. Assumes nothing.
use borrow.Author.Rules.{rules}
use native.Mathlib.Omega.{arith}
use mathlib.Core.Bool.{true}
use mathlib.Core.Path.{refl, ap}
use Rattle.number.specs.Answer.{answer_by}
use Rattle.number.proofs.Walk.{handed_on}
use Rattle.saftvrqmie_hard_sphere.proofs.Sums.{walked_none, walked_next, walked_stop, walked_end}
use Rattle.saftvrqmie_dispersion_sums.specs.Dispersion.{third_row}
use Rattle.saftvrqmie_dispersion_sums.proofs.Turns.{third_held, third_outside}
use Rattle.saftvrqmie_dispersion_sums.proofs.third_row.Goals as goal

pub loop-j-init : goal.loop-j-init
loop-j-init g c = (search rules, λ x a v q r p. walked_none _ _ _ _ _ p)

pub returns-in_err-v : goal.returns-in_err-v
unfolding third_row
returns-in_err-v g c x a v q r p =
    let D = g.D.DualNum in
    let t = c.loop-j.invariant.1 x a v q r p in
    let worked = rw (c.entry-depth.ensures true, c.item-a.ensures true, r _ _ c.requires.1 c.loop-j-test.true) at (c.third_order_perturbation_ij.ensures true) in
    rw (handed_on _ c.from_residual.ensures) (walked_stop _ _ _ _ _ _ _ _ c.loop-j-test.true t (third_outside (D.beside true) _ _ _ _ _ _ _ _ _ _ _ refl worked _ (ap (answer_by (D.of true)) c.in_err-v.was)))

pub loop-j-preserved : goal.loop-j-preserved
loop-j-preserved g c =
    let D = g.D.DualNum in
    let m = g.met.D.DualNum in (
      search rules,
      λ x a v q r p.
          let t = c.loop-j.invariant.1 x a v q r p in
          let worked = rw (c.entry-depth.ensures true, c.item-a.ensures true, r _ _ c.requires.1 c.loop-j-test.true) at (c.third_order_perturbation_ij.ensures true) in
          walked_next _ _ (m.taken_of_law true) _ _ _ _ _ t (third_held (D.beside true) _ _ _ _ _ _ _ _ _ _ _ refl worked _ _ _ (ap (answer_by (D.of true)) c.in_ok-v.was) refl (rw (m.add_law true _ _ _ c.add-a3.ensures, ← t.holds.begun, m.add_taken_law true _ _, m.mul_law true _ _ _ c.mul-in-loop-j.ensures, m.mul_law true _ _ _ c.mul.ensures, c.item-xi.ensures true, q _ c.requires.1, c.item-xj.ensures true, q _ c.loop-j-test.true))),
    )

pub returns : goal.returns
unfolding third_row
returns g c x a v q r p = walked_end _ _ _ _ _ _ _ c.loop-j.invariant.0 c.loop-j-test.false (omega (arith, c.requires.1)) (c.loop-j.invariant.1 x a v q r p)
