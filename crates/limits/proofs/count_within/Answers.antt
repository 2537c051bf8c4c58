-- `limits::count_within` meets its contract. Assumes nothing.
use Rattle.limits.specs.Limits.{count_within}
use mathlib.Core.Path.{refl}
use Rattle.limits.proofs.count_within.Goals as goal

pub returns : goal.returns
unfolding count_within
returns c = refl
