-- `saftvrqmie_parameters::pair_parameters` meets its contract. Assumes nothing.
use Rattle.std.proofs.Common.{rules}
use Rattle.saftvrqmie_parameters.specs.Parameters.{pair_parameters}
use Rattle.number.specs.Answer.{answer}
use Rattle.number.proofs.Walk.{via}
use Rattle.number.specs.Ans.{◌>>=◌}
use Rattle.saftvrqmie_parameters.proofs.pair_parameters.Goals as goal

pub returns-in_err-epsilon_k : goal.returns-in_err-epsilon_k
unfolding pair_parameters ◌>>=◌
returns-in_err-epsilon_k c = search rules

pub returns-in_err-lr : goal.returns-in_err-lr
unfolding pair_parameters ◌>>=◌
returns-in_err-lr c = search rules

pub returns-in_err-la : goal.returns-in_err-la
unfolding pair_parameters ◌>>=◌
returns-in_err-la c = search rules

pub returns-in_err-c : goal.returns-in_err-c
unfolding pair_parameters ◌>>=◌
returns-in_err-c c = search rules

pub returns : goal.returns
unfolding pair_parameters ◌>>=◌
returns c = rw (c.mass_ij-mass.ensures, ← c.sigma_ij-sigma.ensures, via answer c.epsilon_k_ij.ensures c.in_ok-epsilon_k.was, via answer c.lambda_ij.ensures c.in_ok-lr.was, via answer c.lambda_ij-2.ensures c.in_ok-la.was, via answer c.c_ij.ensures c.in_ok-c.was)
