-- `saftvrqmie_dispersion_sums::alpha_at` meets its contract. Assumes nothing.
use mathlib.Core.Bool.{true}
use Rattle.saftvrqmie_dispersion_sums.proofs.alpha_at.Goals as goal

pub returns : goal.returns
returns g c = rw (c.entry-sigma.ensures true, c.entry-depth.ensures true, c.points-pair.ensures true, c.pair_at-p.ensures) at (c.alpha_ij.ensures true)
