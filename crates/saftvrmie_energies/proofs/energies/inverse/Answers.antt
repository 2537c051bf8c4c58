-- `saftvrmie_energies::energies::inverse` meets its contract. Assumes nothing.
use lib.Ieee.{of_bits}
use Rattle.number.specs.Arith.{decimal}
use Rattle.saftvrmie_energies.proofs.energies.inverse.Goals as goal

pub returns : goal.returns
unfolding decimal of_bits
returns g c w = let m = g.met.D.DualNum in rw (m.div_law w _ _ _ c.div.ensures, c.entered.ensures w, c.entered-2.ensures w)
