-- `saftvrqmie_dispersion::alpha::ratio` meets its contract. Assumes nothing.
use lib.Ieee.{of_bits, neg}
use Rattle.number.specs.Arith.{decimal}
use Rattle.saftvrqmie_dispersion.specs.Alpha.{ratio}
use Rattle.saftvrqmie_dispersion.proofs.alpha.ratio.Goals as goal

pub returns : goal.returns
unfolding ratio decimal of_bits neg
returns g c w =
    let m = g.met.D.DualNum in
    rw (
      m.div_law w _ _ _ c.div.ensures,
      c.lift.ensures w,
      m.div_taken_law w,
      m.plain_mul_law w _ _ _ c.mul.ensures,
      m.plain_lit_law w _ _ c.lit.ensures,
    )
