-- `saftvrmie_parameters::lr_ij` meets its contract. Assumes nothing.
use Rattle.std.proofs.Common.{rules}
use Rattle.saftvrmie_parameters.specs.Combine.{lr_ij}
use lib.Ieee.{of_bits}
use Rattle.number.specs.Arith.{decimal}
use Rattle.number.specs.Answer.{answer}
use Rattle.number.specs.Functions.{answered}
use Rattle.number.proofs.Walk.{via}
use Rattle.number.specs.Ans.{◌>>=◌}
use Rattle.saftvrmie_parameters.proofs.lr_ij.Goals as goal

pub returns-in_err-r : goal.returns-in_err-r
unfolding lr_ij answered ◌>>=◌ decimal of_bits
returns-in_err-r c = search rules

pub returns : goal.returns
unfolding lr_ij answered ◌>>=◌ decimal of_bits
returns c = rw (via answer c.sqrt.ensures c.in_ok-r.was)
