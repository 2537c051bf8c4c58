-- `desk::right_desk` meets its contract. Assumes nothing.
use mathlib.Core.Path.{refl}
use Rattle.desk.specs.Desk.{right_desk}
use Rattle.desk.proofs.right_desk.Goals as goal

pub returns : goal.returns
unfolding right_desk
returns c = refl
