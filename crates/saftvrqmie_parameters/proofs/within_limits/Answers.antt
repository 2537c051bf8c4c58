-- `saftvrqmie_parameters::within_limits` meets its contract. Assumes nothing.
use Rattle.saftvrqmie_parameters.specs.Parameters.{within_limits}
use Rattle.saftvrqmie_parameters.proofs.within_limits.Goals as goal

pub returns : goal.returns
unfolding within_limits
returns c = rw (c.pairs_within-2.ensures, c.pairs_within.ensures, c.masses_within.ensures, c.requires.5, c.components_within.ensures)
