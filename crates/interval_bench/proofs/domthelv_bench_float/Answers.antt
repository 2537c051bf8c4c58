-- `interval_bench::domthelv_bench_float` meets its contract. Assumes nothing.
use borrow.Author.Rules.{rules}
use Rattle.number.proofs.Walk.{turns_none, turns_next, turns_end}
use Rattle.interval_bench.proofs.domthelv_bench_float.Goals as goal

pub loop-init : goal.loop-init
loop-init c = (search rules, turns_none _ _)

pub loop-preserved : goal.loop-preserved
loop-preserved c = (search rules, turns_next _ _ _ _ _ c.loop.invariant.1 c.float_step-s.ensures)

pub returns : goal.returns
returns c = rw c.from-operation.ensures at (turns_end _ _ _ _ _ c.loop.invariant.0 c.loop-test.false c.loop.invariant.1)
