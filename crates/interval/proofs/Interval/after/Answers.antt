-- `interval::Interval::after` meets its contract. Assumes nothing.
use Rattle.interval.specs.Interval.{after_i}
use mathlib.Core.Path.{refl}
use Rattle.interval.proofs.Interval.after.Goals as goal

pub returns : goal.returns
unfolding after_i
returns c =
    refl
