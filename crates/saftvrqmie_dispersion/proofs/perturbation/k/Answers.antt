-- `saftvrqmie_dispersion::perturbation::k` meets its contract. Assumes nothing.
use lib.Ieee.{of_bits, neg}
use Rattle.number.specs.Arith.{decimal}
use Rattle.saftvrqmie_dispersion.specs.Perturbation.{k_factor}
use Rattle.saftvrqmie_dispersion.proofs.perturbation.k.Goals as goal

pub returns : goal.returns
unfolding k_factor decimal of_bits neg
returns g c w =
    let m = g.met.D.DualNum in
    rw (
      m.div_law w _ _ _ c.div.ensures,
      c.powi-2.ensures w,
      m.add_plain_law w _ _ _ c.add-3.ensures,
      m.neg_law w _ _ c.neg.ensures,
      m.add_plain_law w _ _ _ c.add-under.ensures,
      m.add_law w _ _ _ c.add-2.ensures,
      c.powi.ensures w,
      m.sub_law w _ _ _ c.sub.ensures,
      m.mul_plain_law w _ _ _ c.mul-3.ensures,
      c.cube.ensures w,
      m.add_law w _ _ _ c.add.ensures,
      m.mul_plain_law w _ _ _ c.mul-2.ensures,
      c.square.ensures w,
      m.mul_plain_law w _ _ _ c.mul.ensures,
      m.plain_lit_law w _ _ c.lit-four.ensures,
      m.plain_lit_law w _ _ c.lit-one.ensures,
    )
