-- `saftvrmie_dispersion::chain::g1` meets its contract. Assumes nothing.
use lib.Ieee.{of_bits}
use Rattle.number.specs.Arith.{decimal}
use Rattle.slope_num.specs.Value.{slope_by}
use Rattle.saftvrmie_dispersion.specs.Chain.{g1_of}
use Rattle.saftvrmie_dispersion.proofs.chain.g1.Goals as goal

pub returns : goal.returns
unfolding g1_of slope_by decimal of_bits
returns g c w =
    let n = g.met.S.Re.DualNum in
    rw (
      n.sub_law w _ _ _ c.sub-2.ensures,
      n.mul_law w _ _ _ c.mul-2.ensures,
      c.entered-4.ensures w,
      n.sub_law w _ _ _ c.sub.ensures,
      n.div_law w _ _ _ c.div.ensures,
      n.mul_law w _ _ _ c.mul.ensures,
      c.entered-3.ensures w,
      c.eps.ensures,
      n.mul_law w _ _ _ c.mul-at_lr.ensures,
      c.entered-2.ensures w,
      c.re-2.ensures,
      n.mul_law w _ _ _ c.mul-at_la.ensures,
      c.entered.ensures w,
      c.re.ensures,
    )
