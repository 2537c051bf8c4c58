-- `saftvrmie_parameters::within_limits` meets its contract. Assumes nothing.
use Rattle.saftvrmie_parameters.specs.Parameters.{within_limits}
use Rattle.saftvrmie_parameters.proofs.within_limits.Goals as goal

pub returns : goal.returns
unfolding within_limits
returns c = rw (c.pairs_within-2.ensures, c.pairs_within.ensures, c.segments_within.ensures, c.requires.0, c.components_within.ensures)
