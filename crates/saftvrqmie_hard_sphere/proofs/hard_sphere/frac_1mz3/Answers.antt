-- `saftvrqmie_hard_sphere::hard_sphere::frac_1mz3` meets its contract. Assumes nothing.
use lib.Ieee.{of_bits, neg}
use Rattle.number.specs.Arith.{decimal}
use Rattle.saftvrqmie_hard_sphere.specs.HardSphere.{frac1mz3}
use Rattle.saftvrqmie_hard_sphere.proofs.hard_sphere.frac_1mz3.Goals as goal

pub returns : goal.returns
unfolding frac1mz3 decimal of_bits neg
returns g c w =
    let m = g.met.D.DualNum in
    rw (
      m.neg_law w _ _ c.neg.ensures,
      c.recip.ensures w,
      m.sub_plain_law w _ _ _ c.sub.ensures,
      m.plain_lit_law w _ _ c.lit.ensures,
    )
