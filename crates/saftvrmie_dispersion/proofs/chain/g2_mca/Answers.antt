-- `saftvrmie_dispersion::chain::g2_mca` meets its contract. Assumes nothing.
use lib.Ieee.{of_bits}
use Rattle.number.specs.Arith.{decimal}
use Rattle.slope_num.specs.Value.{slope_by}
use Rattle.saftvrmie_dispersion.specs.Chain.{g2_of}
use Rattle.saftvrmie_dispersion.proofs.chain.g2_mca.Goals as goal

pub returns : goal.returns
unfolding g2_of slope_by decimal of_bits
returns g c w =
    let n = g.met.S.Re.DualNum in
    rw (
      n.sub_law w _ _ _ c.sub.ensures,
      n.mul_law w _ _ _ c.mul-6.ensures,
      c.square.ensures w,
      c.entered-3.ensures w,
      n.mul_law w _ _ _ c.mul-5.ensures,
      n.div_law w _ _ _ c.div-slope.ensures,
      c.entered-2.ensures w,
      n.div_law w _ _ _ c.div.ensures,
      n.mul_law w _ _ _ c.mul-4.ensures,
      c.entered.ensures w,
      c.eps.ensures,
      n.add_law w _ _ _ c.add-sums.ensures,
      n.mul_law w _ _ _ c.mul-3.ensures,
      c.re-3.ensures,
      n.sub_law w _ _ _ c.sub-five.ensures,
      n.mul_law w _ _ _ c.mul-2.ensures,
      n.add_law w _ _ _ c.add.ensures,
      c.re-2.ensures,
      n.mul_law w _ _ _ c.mul.ensures,
      c.re.ensures,
      c.entered-lr.ensures w,
      c.entered-la.ensures w,
    )
