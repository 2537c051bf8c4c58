-- `saftvrqmie_dispersion::alpha::chi` meets its contract. Assumes nothing.
use lib.Ieee.{of_bits, neg}
use Rattle.number.specs.Arith.{decimal}
use Rattle.saftvrqmie_dispersion.specs.Alpha.{chi, f}
use Rattle.saftvrqmie_dispersion.proofs.alpha.chi.Goals as goal

pub returns : goal.returns
unfolding chi f decimal of_bits neg
returns g c w =
    let m = g.met.D.DualNum in
    rw (
      m.add_law w _ _ _ c.add-2.ensures,
      m.mul_law w _ _ _ c.mul-3.ensures,
      c.powi-2.ensures w,
      m.add_law w _ _ _ c.add.ensures,
      m.mul_law w _ _ _ c.mul-2.ensures,
      c.powi.ensures w,
      m.mul_law w _ _ _ c.mul.ensures,
      c.f-f2.ensures w,
      c.f-f1.ensures w,
      c.f-f0.ensures w,
      c.cube-a3.ensures w,
      c.square-a2.ensures w,
    )
