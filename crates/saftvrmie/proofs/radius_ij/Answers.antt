-- `saftvrmie::radius_ij` meets its contract. Assumes nothing.
use mathlib.Core.Bool.{true}
use Rattle.number.proofs.Walk.{handed_on}
use Rattle.saftvrmie.proofs.Pairs.{radius_asked, radius_is}
use Rattle.saftvrmie.proofs.radius_ij.Goals as goal

pub returns-in_err-pair_asked : goal.returns-in_err-pair_asked
returns-in_err-pair_asked c = rw (handed_on _ c.from_residual.ensures) (radius_asked _ _ _ _ _ c.pair_asked.ensures.asked _ c.in_err-pair_asked.was)

pub returns : goal.returns
returns c = radius_is _ _ _ _ _ c.pair_asked.ensures.asked c.in_ok-pair_asked.was _ c.pair_at-p.ensures _ (c.c_eps_of.ensures true) _ c.lower_integratal_limit.ensures
