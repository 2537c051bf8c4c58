-- `saftvrqmie::radii_ij` meets its contract. Assumes nothing.
use Rattle.number.proofs.Walk.{handed_on}
use Rattle.saftvrqmie.proofs.Pairs.{searches_asked, searches_are}
use Rattle.saftvrqmie.proofs.radii_ij.Goals as goal

pub returns-in_err-pair_asked : goal.returns-in_err-pair_asked
returns-in_err-pair_asked c = rw (handed_on _ c.from_residual.ensures) (searches_asked _ _ _ _ _ c.pair_asked.ensures.asked _ c.in_err-pair_asked.was)

pub returns : goal.returns
returns c = searches_are _ _ _ _ _ c.pair_asked.ensures.asked _ _ c.in_ok-pair_asked.was c.pair_at-pair.ensures c.pair_searches.ensures
