-- `saftvrmie_energies::properties::d_ij` meets its contract. Assumes nothing.
use lib.Ieee.{of_bits}
use Rattle.number.specs.Arith.{decimal}
use Rattle.saftvrmie_energies.specs.Properties.{d_ij}
use Rattle.saftvrmie_energies.proofs.properties.d_ij.Goals as goal

pub returns : goal.returns
unfolding d_ij decimal of_bits
returns g c w =
    let m = g.met.D.DualNum in
    rw (
      m.mul_plain_law w _ _ _ c.mul.ensures,
      m.plain_lit_law w _ _ c.lit.ensures,
      m.add_law w _ _ _ c.add.ensures,
      c.entered-2.ensures w,
      c.entered.ensures w,
    )
