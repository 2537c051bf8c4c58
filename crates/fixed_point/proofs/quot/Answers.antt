use mathlib.Core.Path.{refl}
use Rattle.fixed_point.specs.Quotient.{quotient}
use Rattle.fixed_point.proofs.quot.Goals as goal

pub returns : goal.returns
unfolding quotient
returns c = refl
