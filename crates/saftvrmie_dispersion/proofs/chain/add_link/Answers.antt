-- `saftvrmie_dispersion::chain::add_link` meets its contract. Assumes nothing.
use Rattle.saftvrmie_dispersion.specs.Chain.{add_link}
use Rattle.saftvrmie_dispersion.proofs.chain.add_link.Goals as goal

pub returns : goal.returns
unfolding add_link
returns g c w = let m = g.met.D.DualNum in rw (m.add_law w _ _ _ c.add.ensures)
