-- `enclosure::answered` meets its contract. Assumes nothing.
use Rattle.std.proofs.Common.{rules}
use Rattle.number.specs.Functions.{answered}
use Rattle.number.specs.Ans.{◌>>=◌}
use Rattle.enclosure.proofs.answered.Goals as goal

pub returns-in_err-v : goal.returns-in_err-v
unfolding answered ◌>>=◌
returns-in_err-v c = search rules

pub returns : goal.returns
unfolding answered ◌>>=◌
returns c = search rules
