-- `saftvrmie_energies::sums::pair_row` meets its contract. Assumes nothing.
use borrow.Author.Rules.{rules}
use native.Mathlib.Omega.{arith}
use Prim.Native.Nat.{◌+◌}
use Rattle.number.specs.Answer.{answer_by}
use Rattle.number.proofs.Walk.{via, walk_none, walk_next, walk_stop, walk_end, handed_on}
use Rattle.saftvrmie_dispersion.specs.Answer.{sums_by}
use Rattle.saftvrmie_energies.specs.Dispersion.{pair_row}
use Rattle.number.proofs.Turns.{of_none, from_start, from_next}
use Rattle.saftvrmie_energies.proofs.sums.pair_row.Goals as goal

pub loop-j-init : goal.loop-j-init
loop-j-init g c = (search rules, search rules, λ w. rw (of_none (c.args.i + 1)) (walk_none _ _))

pub returns-in_err-sum : goal.returns-in_err-sum
unfolding pair_row
returns-in_err-sum g c w =
    let t = rw (from_start _ _ c.loop-j.invariant.0) at (c.pair_turn.ensures w) in
    rw (handed_on _ c.from_residual.ensures) (walk_stop _ _ _ _ _ _ (omega (arith, c.loop-j.invariant.0, c.loop-j-test.true)) (c.loop-j.invariant.2 w) (via (answer_by (sums_by (g.D.DualNum.of w))) t c.in_err-sum.was))

pub loop-j-preserved : goal.loop-j-preserved
loop-j-preserved g c = (
  omega (arith, c.loop-j.invariant.0),
  search rules,
  λ w.
      let t = rw (from_start _ _ c.loop-j.invariant.0) at (c.pair_turn.ensures w) in
      rw (from_next _ _ c.loop-j.invariant.0) (walk_next _ _ _ _ _ (c.loop-j.invariant.2 w) (via (answer_by (sums_by (g.D.DualNum.of w))) t c.in_ok-sum.was)),
)

pub returns : goal.returns
unfolding pair_row
returns g c w = walk_end _ _ _ _ _ (omega (arith, c.loop-j.invariant.1)) (omega (arith, c.loop-j-test.false)) (c.loop-j.invariant.2 w)
