-- `saftvrqmie_dispersion::alpha::alpha_q1` meets its contract. Assumes nothing.
use lib.Ieee.{of_bits, neg}
use Rattle.number.specs.Arith.{decimal}
use Rattle.saftvrqmie_dispersion.specs.Alpha.{alpha_q1}
use Rattle.saftvrqmie_dispersion.proofs.alpha.alpha_q1.Goals as goal

pub returns : goal.returns
unfolding alpha_q1 decimal of_bits neg
returns g c w =
    let m = g.met.D.DualNum in
    rw (
      m.mul_plain_law w _ _ _ c.mul-2.ensures,
      m.mul_law w _ _ _ c.mul.ensures,
      c.square.ensures w,
    )
