-- `saftvrqmie_dispersion::alpha::alpha_mie` meets its contract. Assumes nothing.
use lib.Ieee.{of_bits, neg}
use Rattle.number.specs.Arith.{decimal}
use Rattle.saftvrqmie_dispersion.specs.Alpha.{alpha_mie}
use Rattle.saftvrqmie_dispersion.proofs.alpha.alpha_mie.Goals as goal

pub returns : goal.returns
unfolding alpha_mie decimal of_bits neg
returns g c w =
    let m = g.met.D.DualNum in
    rw (
      m.sub_law w _ _ _ c.sub-3.ensures,
      m.div_plain_law w _ _ _ c.div-2.ensures,
      m.plain_sub_law w _ _ _ c.sub-2.ensures,
      m.div_plain_law w _ _ _ c.div.ensures,
      m.plain_sub_law w _ _ _ c.sub.ensures,
      m.plain_lit_law w _ _ c.lit-three.ensures,
    )
