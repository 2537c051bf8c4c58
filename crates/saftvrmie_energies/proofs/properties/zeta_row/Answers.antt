-- `saftvrmie_energies::properties::zeta_row` meets its contract. Assumes nothing.
use borrow.Author.Rules.{rules}
use native.Mathlib.Omega.{arith}
use Prim.Native.Nat.{◌+◌, ◌-◌, ◌≤◌}
use Rattle.number.proofs.Walk.{turns_none, turns_next, turns_end}
use lib.Ieee.{of_bits}
use Rattle.number.specs.Arith.{decimal}
use Rattle.saftvrmie_energies.specs.Properties.{zeta_turn, zeta_row}
use Rattle.number.proofs.Turns.{of_none, from_start, from_next}
use Rattle.saftvrmie_energies.proofs.properties.zeta_row.Goals as goal

pub loop-j-init : goal.loop-j-init
loop-j-init g c = (search rules, search rules, λ w f h. rw (of_none (c.args.i + 1)) (turns_none _ _))

pub loop-j-preserved : goal.loop-j-preserved
unfolding zeta_turn decimal of_bits
loop-j-preserved g c =
    let m = g.met.D.DualNum in
    let d = from_start _ _ c.loop-j.invariant.0 in
    (omega (arith, c.loop-j.invariant.0), search rules, λ w f h. rw (from_next _ _ c.loop-j.invariant.0) (turns_next _ _ _ _ _ (c.loop-j.invariant.2 w f h) (rw (m.add_law w _ _ _ c.add-s-in-loop-j.ensures, m.mul_plain_law w _ _ _ c.mul-in-loop-j-3.ensures, m.mul_law w _ _ _ c.mul-in-loop-j-2.ensures, m.mul_law w _ _ _ c.mul-in-loop-j.ensures, c.item.ensures w, c.item-xi.ensures w, h _ _ _ c.requires.inside.1 c.loop-j-test.true c.cube-in-loop-j.ensures, m.plain_lit_law w _ _ c.lit-two.ensures, ← d))))

pub returns : goal.returns
unfolding zeta_row decimal of_bits
returns g c w f h =
    let m = g.met.D.DualNum in
    let p : c.loop-j.j - (c.args.i + 1) ≤ c.args.n - (c.args.i + 1) = omega (arith, c.loop-j.invariant.1) in
    let q : c.args.n - (c.args.i + 1) ≤ c.loop-j.j - (c.args.i + 1) = omega (arith, c.loop-j-test.false) in
    rw (
      turns_end _ _ _ _ _ p q (c.loop-j.invariant.2 w f h),
      m.add_law w _ _ _ c.add-s.ensures,
      m.mul_law w _ _ _ c.mul.ensures,
      c.square.ensures w,
      c.item-xi.ensures w,
      h _ _ _ (search rules) (search rules) c.cube.ensures,
    )
