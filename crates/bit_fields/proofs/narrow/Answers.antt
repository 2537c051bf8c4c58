-- `bit_fields::narrow` meets its contract. Assumes nothing.
use Prim.Native.Nat.{◌+◌, ◌<◌}
use native.Mathlib.Omega.{arith}
use mathlib.Core.Path.{refl}
use Rattle.bit_fields.specs.Bits.{numeral, bits_of}
use Rattle.bit_fields.proofs.Bytes.{bit_below, narrow_next, narrow_fits}
use borrow.Author.Rules.{rules}
use Rattle.bit_fields.proofs.narrow.Goals as goal

pub loop-i-init : goal.loop-i-init
unfolding numeral
loop-i-init c = (search rules, refl)

pub overflow_mul-value : goal.overflow_mul-value
overflow_mul-value c = let h : c.loop-i.i < 63 = omega arith in omega (arith, narrow_fits c.args.l.now c.args.at c.loop-i.i c.loop-i.value h c.loop-i.invariant.1)

pub overflow_add-value : goal.overflow_add-value
overflow_add-value c = let h : c.loop-i.i < 63 = omega arith in omega (arith, narrow_fits c.args.l.now c.args.at c.loop-i.i c.loop-i.value h c.loop-i.invariant.1, bit_below (bits_of c.args.l.now) (c.args.at + c.loop-i.i) _ c.bit_at.ensures)

pub loop-i-preserved : goal.loop-i-preserved
loop-i-preserved c = (search rules, narrow_next _ _ _ _ _ _ c.requires.1.0 c.loop-i-test.true c.loop-i.invariant.1 c.bit_at.ensures)
