-- `saftvrqmie_searches::hs_diameter` meets its contract. Assumes nothing.
use mathlib.Core.Path.{subst}
use mathlib.Core.Bool.{true}
use Rattle.number.proofs.Walk.{handed_on}
use Rattle.saftvrqmie_potential.specs.Potential.{pair_in}
use Rattle.saftvrqmie_potential.specs.Shared.{FloatShares}
use Rattle.saftvrqmie_searches.specs.Diameter.{diameter}
use Rattle.saftvrqmie_searches.proofs.Nodes.{no_diameter}
use Rattle.saftvrqmie_searches.proofs.hs_diameter.Goals as goal

pub returns-in_err-w : goal.returns-in_err-w
returns-in_err-w c = rw (handed_on _ c.from_residual.ensures) (no_diameter _ _ (subst (FloatShares (pair_in c.args.pair)) c.in_err-w.was (c.share.ensures.shares true)).0 _ _)

pub returns : goal.returns
unfolding diameter
returns c = c.diameter_by.ensures.formula _ (subst (FloatShares (pair_in c.args.pair)) c.in_ok-w.was (c.share.ensures.shares true))
