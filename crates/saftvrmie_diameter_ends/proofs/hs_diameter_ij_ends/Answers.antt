-- `saftvrmie_diameter_ends::hs_diameter_ij_ends` meets its contract. Assumes nothing.
use mathlib.Core.Bool.{true}
use Rattle.elementary.specs.Port.{port}
use Rattle.number.proofs.Walk.{handed_on}
use Rattle.saftvrmie_diameter_ends.proofs.Encloses.{ends_asked, ends_on}
use Rattle.saftvrmie_diameter_ends.proofs.hs_diameter_ij_ends.Goals as goal

pub returns-in_err-pair_asked : goal.returns-in_err-pair_asked
returns-in_err-pair_asked c = rw (handed_on _ c.from_residual.ensures) (ends_asked port _ _ _ _ _ _ c.pair_asked.ensures.asked _ c.in_err-pair_asked.was)

pub returns : goal.returns
returns c = ends_on port _ _ _ _ _ _ c.pair_asked.ensures.asked c.in_ok-pair_asked.was _ _ _ _ _ _ _ _ c.pair_at-p.ensures c.point-la.ensures c.point-lr.ensures (c.c_eps_of-c_eps_t.ensures true) c.point-sigma.ensures c.point-r.ensures c.diameter_from.ensures c.ends_of.ensures
