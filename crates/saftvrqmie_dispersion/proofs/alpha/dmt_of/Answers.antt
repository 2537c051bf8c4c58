-- `saftvrqmie_dispersion::alpha::dmt_of` meets its contract. Assumes nothing.
use lib.Ieee.{of_bits, neg}
use Rattle.number.specs.Arith.{decimal}
use Rattle.saftvrqmie_dispersion.specs.Alpha.{dmt_of}
use Rattle.saftvrqmie_dispersion.proofs.alpha.dmt_of.Goals as goal

pub returns : goal.returns
unfolding dmt_of decimal of_bits neg
returns g c w =
    let m = g.met.D.DualNum in
    rw (
      m.div_plain_law w _ _ _ c.div.ensures,
      m.plain_pow_law w _ _ 2 c.square.ensures,
      c.quantum_d.ensures w,
    )
