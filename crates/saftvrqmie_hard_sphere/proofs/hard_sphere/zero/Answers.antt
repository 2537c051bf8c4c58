-- `saftvrqmie_hard_sphere::hard_sphere::zero` meets its contract. Assumes nothing.
use lib.Ieee.{of_bits}
use Rattle.number.specs.Arith.{decimal}
use Rattle.saftvrqmie_hard_sphere.proofs.hard_sphere.zero.Goals as goal

pub returns : goal.returns
unfolding decimal of_bits
returns g c w = let m = g.met.D.DualNum in rw (c.lift.ensures w, m.plain_lit_law w _ _ c.lit.ensures)
