-- `enclosure::answered_two` meets its contract. Assumes nothing.
use Rattle.std.proofs.Common.{rules}
use Rattle.number.specs.Functions.{answered₂}
use Rattle.number.specs.Ans.{◌>>=◌}
use Rattle.enclosure.proofs.answered_two.Goals as goal

pub returns-in_err-v : goal.returns-in_err-v
unfolding answered₂ ◌>>=◌
returns-in_err-v c = search rules

pub returns : goal.returns
unfolding answered₂ ◌>>=◌
returns c = rw (c.in_ok-v.was, c.after-2.ensures, c.after.ensures, c.point.ensures)
