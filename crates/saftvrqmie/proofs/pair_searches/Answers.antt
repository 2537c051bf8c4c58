-- `saftvrqmie::pair_searches` meets its contract. Assumes nothing.
use Rattle.saftvrqmie.specs.Pairs.{pair_searches}
use Rattle.number.specs.Ans.{◌>>=◌}
use Rattle.number.proofs.Walk.{via, handed_on}
use Rattle.saftvrqmie_searches.specs.Searches.{search_answer}
use Rattle.saftvrqmie.proofs.pair_searches.Goals as goal

pub returns-in_err-sigma : goal.returns-in_err-sigma
unfolding pair_searches ◌>>=◌
returns-in_err-sigma c = rw (handed_on _ c.from_residual.ensures, via search_answer c.calc_sigma_eff.ensures c.in_err-sigma.was)

pub returns-in_err-zero : goal.returns-in_err-zero
unfolding pair_searches ◌>>=◌
returns-in_err-zero c = rw (handed_on _ c.from_residual-in_err-zero.ensures, via search_answer c.calc_sigma_eff.ensures c.in_ok-sigma.was, via search_answer (rw c.radius-sigma_eff.ensures at c.zero_integrand.ensures) c.in_err-zero.was)

pub returns-in_err-depth : goal.returns-in_err-depth
unfolding pair_searches ◌>>=◌
returns-in_err-depth c = rw (handed_on _ c.from_residual-in_err-depth.ensures, via search_answer c.calc_sigma_eff.ensures c.in_ok-sigma.was, via search_answer (rw c.radius-sigma_eff.ensures at c.zero_integrand.ensures) c.in_ok-zero.was, via search_answer c.calc_epsilon_k_eff.ensures c.in_err-depth.was)

pub returns : goal.returns
unfolding pair_searches ◌>>=◌
returns c = rw (via search_answer c.calc_sigma_eff.ensures c.in_ok-sigma.was, via search_answer (rw c.radius-sigma_eff.ensures at c.zero_integrand.ensures) c.in_ok-zero.was, via search_answer c.calc_epsilon_k_eff.ensures c.in_ok-depth.was)
