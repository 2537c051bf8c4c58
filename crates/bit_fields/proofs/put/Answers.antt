-- `bit_fields::put` meets its contract. Assumes nothing.
use native.Mathlib.Omega.{arith}
use lib.ListN.{length-set}
use Rattle.bit_fields.proofs.Written.{put_start, put_next}
use borrow.Author.Rules.{rules}
use Rattle.bit_fields.proofs.put.Goals as goal

pub loop-left-init : goal.loop-left-init
loop-left-init c = (search rules, search rules, put_start c.args.l.now c.args.at c.args.width c.args.value)

pub loop-left-preserved : goal.loop-left-preserved
loop-left-preserved c = (omega (arith, c.loop-left.invariant.0, c.min-n.ensures), simp length-set c.loop-left.invariant.1, put_next c.args.l.now c.loop-left.l c.args.at c.args.width c.loop-left.left c.args.value _ c.loop-left.invariant.2 _ c.loop-left.invariant.0 c.requires.0 c.loop-left.invariant.1 c.min-n.ensures c.loop-left-test.true c.placed.ensures)
