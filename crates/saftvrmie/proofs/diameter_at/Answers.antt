-- `saftvrmie::diameter_at` meets its contract. Assumes nothing.
use Rattle.saftvrmie.specs.Diameters.{diameter_at}
use Rattle.saftvrmie.proofs.diameter_at.Goals as goal

pub returns : goal.returns
unfolding diameter_at
returns c = rw c.pair_at-p.ensures at c.hs_diameter_ij.ensures
