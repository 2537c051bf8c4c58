-- `saftvrqmie_dispersion::perturbation::second_closed` meets its contract. Assumes nothing.
use lib.Ieee.{of_bits, neg}
use Rattle.number.specs.Arith.{decimal}
use Rattle.saftvrqmie_dispersion.specs.Perturbation.{second_closed}
use Rattle.saftvrqmie_dispersion.proofs.perturbation.second_closed.Goals as goal

pub returns : goal.returns
unfolding second_closed decimal of_bits neg
returns g c w =
    let m = g.met.D.DualNum in
    rw (
      c.after-4.ensures w,
      c.after-3.ensures w,
      c.after-2.ensures w,
      c.after.ensures w,
      m.mul_plain_law w _ _ _ c.mul-v.ensures,
      m.plain_pow_law w _ _ 2 c.square.ensures,
      m.mul_plain_law w _ _ _ c.mul-2.ensures,
      m.mul_plain_law w _ _ _ c.mul.ensures,
      m.plain_lit_law w _ _ c.lit.ensures,
    )
