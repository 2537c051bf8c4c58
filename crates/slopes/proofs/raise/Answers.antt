-- `slopes::raise` meets its contract. Assumes nothing.
use Rattle.slopes.specs.Staged.{raised_of}
use Rattle.dual.specs.Value.{dual_of}
use Rattle.slopes.proofs.raise.Goals as goal

pub returns : goal.returns
unfolding raised_of dual_of
returns c = rw (c.raise-below.ensures, c.raise-value.ensures)
