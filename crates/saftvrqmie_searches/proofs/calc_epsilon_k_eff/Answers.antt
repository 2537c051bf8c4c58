-- `saftvrqmie_searches::calc_epsilon_k_eff` meets its contract. Assumes nothing.
use mathlib.Core.Path.{subst}
use mathlib.Core.Bool.{true}
use lib.Ieee.{of_bits}
use Rattle.number.specs.Arith.{decimal}
use Rattle.number.proofs.Walk.{handed_on}
use Rattle.saftvrqmie_potential.specs.Potential.{pair_in}
use Rattle.saftvrqmie_potential.specs.Shared.{FloatShares}
use Rattle.saftvrqmie_searches.specs.Searches.{epsilon_k_eff}
use Rattle.saftvrqmie_searches.proofs.Loops.{no_epsilon_k_eff}
use Rattle.saftvrqmie_searches.proofs.calc_epsilon_k_eff.Goals as goal

pub returns-in_err-w : goal.returns-in_err-w
returns-in_err-w c = rw (handed_on _ c.from_residual.ensures) (no_epsilon_k_eff _ _ (subst (FloatShares (pair_in c.args.pair)) c.in_err-w.was (c.share.ensures.shares true)).0)

pub returns : goal.returns
unfolding epsilon_k_eff decimal of_bits
returns c = c.depth_search.ensures.formula _ (subst (FloatShares (pair_in c.args.pair)) c.in_ok-w.was (c.share.ensures.shares true))
