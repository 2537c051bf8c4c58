-- `mie_parameters::lambda_ij` meets its contract. Assumes nothing.
use Rattle.std.proofs.Common.{rules}
use Rattle.mie_parameters.specs.Combine.{lambda_ij}
use lib.Ieee.{of_bits}
use Rattle.number.specs.Arith.{decimal}
use Rattle.number.specs.Answer.{answer}
use Rattle.number.specs.Functions.{answered}
use Rattle.number.proofs.Walk.{via}
use Rattle.number.specs.Ans.{◌>>=◌}
use Rattle.mie_parameters.proofs.lambda_ij.Goals as goal

pub returns-in_err-r : goal.returns-in_err-r
unfolding lambda_ij answered ◌>>=◌ decimal of_bits
returns-in_err-r c = search rules

pub returns : goal.returns
unfolding lambda_ij answered ◌>>=◌ decimal of_bits
returns c = rw (via answer c.sqrt.ensures c.in_ok-r.was)
