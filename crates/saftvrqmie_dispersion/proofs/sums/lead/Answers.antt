-- `saftvrqmie_dispersion::sums::lead` meets its contract. Assumes nothing.
use lib.Ieee.{of_bits, neg}
use Rattle.number.specs.Arith.{decimal}
use Rattle.saftvrqmie_dispersion.specs.Sums.{lead}
use Rattle.saftvrqmie_dispersion.proofs.sums.lead.Goals as goal

pub returns : goal.returns
unfolding lead decimal of_bits neg
returns g c w =
    let m = g.met.D.DualNum in
    rw (
      m.mul_law w _ _ _ c.mul-5.ensures,
      c.cube.ensures w,
      m.mul_law w _ _ _ c.mul-4.ensures,
      m.mul_plain_law w _ _ _ c.mul-3.ensures,
      c.frac_pi_6.ensures w,
      m.mul_plain_law w _ _ _ c.mul-2.ensures,
      c.fac.ensures w,
      m.mul_law w _ _ _ c.mul.ensures,
    )
