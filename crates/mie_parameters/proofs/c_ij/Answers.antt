-- `mie_parameters::c_ij` meets its contract. Assumes nothing.
use Rattle.std.proofs.Common.{rules}
use Rattle.mie_parameters.specs.Combine.{c_ij}
use lib.Ieee.{of_bits}
use Rattle.number.specs.Arith.{decimal}
use Rattle.number.specs.Answer.{answer}
use Rattle.number.specs.Functions.{answered₂}
use Rattle.number.proofs.Walk.{via}
use Rattle.number.specs.Ans.{◌>>=◌}
use Rattle.mie_parameters.proofs.c_ij.Goals as goal

pub returns-in_err-p : goal.returns-in_err-p
unfolding c_ij answered₂ ◌>>=◌ decimal of_bits
returns-in_err-p c = search rules

pub returns : goal.returns
unfolding c_ij answered₂ ◌>>=◌ decimal of_bits
returns c = rw (via answer c.powf.ensures c.in_ok-p.was)
