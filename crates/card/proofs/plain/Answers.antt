use Prim.Native.Nat.{◌+◌, ◌/◌, ◌≤◌}
use native.Mathlib.Omega.{arith}
use lib.ListN.{length}
use Rattle.card.proofs.Reading.{plain_short, plain_held}
use borrow.Author.Rules.{rules}
use Rattle.card.proofs.plain.Goals as goal

pub returns-then-card-div_ceil : goal.returns-then-card-div_ceil
returns-then-card-div_ceil c = (plain_short _ _ _ c.requires.1.0 (omega (arith, c.if-card-div_ceil.true, c.div_ceil.ensures)), search rules)

pub returns : goal.returns
returns c = let h : (c.args.at + c.args.width + 7) / 8 ≤ length c.args.card.now = omega (arith, c.if-card-div_ceil.false, c.div_ceil.ensures) in (plain_held _ _ _ _ h c.field-value.ensures, search rules)
