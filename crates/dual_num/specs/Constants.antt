-- A constant as the formulas see it, in each run.
use Rattle.number.specs.Arith.{Constant, pi, frac_pi_6, tau, node}
use Rattle.number.specs.Functions.{Functions}

abbrev pub constant_of : {N : Type 0} → Functions N → Constant → N
constant_of F pi = F.pi
constant_of F frac_pi_6 = F.frac_pi_6
constant_of F tau = F.tau
constant_of F (node s digits places) = F.node s digits places
