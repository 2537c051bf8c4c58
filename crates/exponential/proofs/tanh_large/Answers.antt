-- `exponential::tanh_large` meets its contract. Assumes nothing.
use Rattle.fixed_point.proofs.Sign.{set, not_set}
use Rattle.exponential.proofs.TanhLarge.{large_positive, large_negative}
use Rattle.exponential.proofs.tanh_large.Goals as goal

pub returns-then-is_negative : goal.returns-then-is_negative
returns-then-is_negative c = large_negative c.args.b c.requires.0 c.requires.1 (set _ _ c.is_negative.ensures c.if-is_negative.true)

pub returns-else-is_negative : goal.returns-else-is_negative
returns-else-is_negative c = large_positive c.args.b c.requires.0 c.requires.1 (not_set _ _ c.is_negative.ensures c.if-is_negative.false)
