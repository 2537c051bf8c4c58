-- `saftvrqmie_dispersion_sums::perturbed_pair` meets its contract. Assumes nothing.
use mathlib.Core.Bool.{true}
use Rattle.saftvrqmie_dispersion_sums.proofs.perturbed_pair.Goals as goal

pub returns : goal.returns
returns g c x = rw (c.entry-d.ensures true, c.entry-sigma.ensures true, c.entry-q.ensures true, c.points-pair.ensures true, c.pair_at-p.ensures) at (c.dispersion_pair.ensures true)
