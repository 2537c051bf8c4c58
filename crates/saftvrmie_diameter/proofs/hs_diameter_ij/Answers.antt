-- `saftvrmie_diameter::hs_diameter_ij` meets its contract. Assumes nothing.
use mathlib.Core.Bool.{true}
use Rattle.saftvrmie_diameter.specs.Diameter.{hs_diameter}
use Rattle.number.specs.Answer.{answer}
use Rattle.number.proofs.Walk.{via, handed_on}
use Rattle.number.specs.Ans.{◌>>=◌}
use Rattle.saftvrmie_diameter.proofs.hs_diameter_ij.Goals as goal

pub returns-in_err-r0 : goal.returns-in_err-r0
unfolding hs_diameter ◌>>=◌
returns-in_err-r0 c = rw (handed_on _ c.from_residual.ensures, ← c.c_eps_t-e.ensures true, via answer c.lower_integratal_limit.ensures c.in_err-r0.was)

pub returns : goal.returns
unfolding hs_diameter ◌>>=◌
returns c = rw (← c.c_eps_t-e.ensures true, via answer c.lower_integratal_limit.ensures c.in_ok-r0.was, c.diameter_from.ensures)
