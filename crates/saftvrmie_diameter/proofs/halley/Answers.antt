-- `saftvrmie_diameter::halley` meets its contract. Assumes nothing.
use Rattle.saftvrmie_diameter.proofs.Laws.{ends, outside, below, on, left, none_left, next_left}
use Rattle.number.proofs.Walk.{via, handed_on}
use Rattle.saftvrmie_diameter.specs.Answer.{halley_answer}
use borrow.Author.Rules.{rules}
use Rattle.saftvrmie_diameter.proofs.halley.Goals as goal

pub returns-in_err-f : goal.returns-in_err-f
returns-in_err-f c = rw (handed_on _ c.from_residual.ensures) (outside _ _ _ _ _ _ c.loop.invariant.1 (left _ c.loop-test.true) _ (via halley_answer c.halley_step.ensures c.in_err-f.was))

pub returns-then-f : goal.returns-then-f
returns-then-f c = below _ _ _ _ _ _ c.loop.invariant.1 (left _ c.loop-test.true) _ (via halley_answer c.halley_step.ensures c.in_ok-f.was) c.if-f.true

pub loop-preserved : goal.loop-preserved
loop-preserved c = (search rules, rw (next_left c.loop.counter) (on _ _ _ _ _ _ c.loop.invariant.1 (left _ c.loop-test.true) _ (via halley_answer c.halley_step.ensures c.in_ok-f.was) c.if-f.false))

pub returns : goal.returns
returns c = ends _ _ _ _ _ _ c.loop.invariant.1 (none_left _ c.loop-test.false)
