-- `desk::right_state` meets its contract. Assumes nothing.
use mathlib.Core.Path.{refl}
use Rattle.desk.specs.Desk.{state_lengths}
use Rattle.desk.proofs.right_state.Goals as goal

pub returns : goal.returns
unfolding state_lengths
returns c = refl
