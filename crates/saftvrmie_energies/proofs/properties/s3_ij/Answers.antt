-- `saftvrmie_energies::properties::s3_ij` meets its contract. Assumes nothing.
use Rattle.saftvrmie_energies.specs.Properties.{s3_ij}
use Rattle.saftvrmie_energies.proofs.properties.s3_ij.Goals as goal

pub returns : goal.returns
unfolding s3_ij
returns g c w = rw (c.cube.ensures w, c.entered.ensures w)
