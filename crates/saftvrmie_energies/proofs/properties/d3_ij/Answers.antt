-- `saftvrmie_energies::properties::d3_ij` meets its contract. Assumes nothing.
use Rattle.saftvrmie_energies.specs.Properties.{d3_ij}
use Rattle.saftvrmie_energies.proofs.properties.d3_ij.Goals as goal

pub returns : goal.returns
unfolding d3_ij
returns g c w = rw (c.cube.ensures w, c.d_ij.ensures w)
