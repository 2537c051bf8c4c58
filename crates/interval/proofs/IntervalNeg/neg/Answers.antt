-- `interval::IntervalNeg::neg` meets its contract. Assumes nothing.
use Rattle.interval.specs.Interval.{neg_i}
use mathlib.Core.Path.{refl}
use Rattle.interval.proofs.IntervalNeg.neg.Goals as goal

pub returns : goal.returns
unfolding neg_i
returns c =
    refl
