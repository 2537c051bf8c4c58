-- `power_bench::domthelv_bench_powers` meets its contract. Assumes nothing.
use Rattle.power_bench.specs.Powers.{fourteen_powers}
use Rattle.number.proofs.Walk.{turns_none, turns_next, turns_end}
use borrow.Author.Rules.{rules}
use Rattle.power_bench.proofs.domthelv_bench_powers.Goals as goal

pub loop-y-init : goal.loop-y-init
loop-y-init c = (search rules, turns_none _ _)

pub loop-y-preserved : goal.loop-y-preserved
loop-y-preserved c = (search rules, turns_next _ _ _ _ _ c.loop-y.invariant.1 (rw (c.raise-s.ensures, c.exponent.ensures)))

pub returns : goal.returns
unfolding fourteen_powers
returns c = rw (← c.log_base-log.ensures) (turns_end _ _ _ _ _ c.loop-y.invariant.0 c.loop-y-test.false c.loop-y.invariant.1)
