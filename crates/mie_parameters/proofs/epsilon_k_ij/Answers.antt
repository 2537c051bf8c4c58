-- `mie_parameters::epsilon_k_ij` meets its contract. Assumes nothing.
use Rattle.std.proofs.Common.{rules}
use Rattle.mie_parameters.specs.Combine.{epsilon_k_ij}
use lib.Ieee.{of_bits}
use Rattle.number.specs.Arith.{decimal}
use Rattle.number.specs.Answer.{answer}
use Rattle.number.specs.Functions.{answered}
use Rattle.number.proofs.Walk.{via}
use Rattle.number.specs.Ans.{◌>>=◌}
use Rattle.mie_parameters.proofs.epsilon_k_ij.Goals as goal

pub returns-in_err-cubes : goal.returns-in_err-cubes
unfolding epsilon_k_ij answered ◌>>=◌ decimal of_bits
returns-in_err-cubes c = search rules

pub returns-in_err-energies : goal.returns-in_err-energies
unfolding epsilon_k_ij answered ◌>>=◌ decimal of_bits
returns-in_err-energies c = search rules

pub returns : goal.returns
unfolding epsilon_k_ij answered ◌>>=◌ decimal of_bits
returns c = rw (c.pow_up-3.ensures, ← c.pow_up-2.ensures, ← c.pow_up.ensures, via answer c.sqrt.ensures c.in_ok-cubes.was, via answer c.sqrt-2.ensures c.in_ok-energies.was)
