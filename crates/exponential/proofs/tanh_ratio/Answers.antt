-- `exponential::tanh_ratio` meets its contract. Assumes nothing.
use Rattle.exponential.proofs.TanhPart.{tanh_ratio_is}
use Rattle.exponential.proofs.tanh_ratio.Goals as goal

pub returns : goal.returns
returns c = tanh_ratio_is c.args.w c.significand.result c.saturating_sub.result c.saturating_sub-2.result c.shift_right-part.result c.shift_right-one.result c.significand.ensures c.saturating_sub.ensures c.shift_right-part.ensures c.saturating_sub-2.ensures c.shift_right-one.ensures
