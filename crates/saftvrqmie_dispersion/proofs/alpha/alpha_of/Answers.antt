-- `saftvrqmie_dispersion::alpha::alpha_of` meets its contract. Assumes nothing.
use Rattle.number.proofs.Walk.{told}
use Rattle.saftvrqmie_dispersion.specs.Alpha.{alpha_of}
use Rattle.saftvrqmie_potential.proofs.Orders.{not_first}
use Rattle.saftvrqmie_dispersion.proofs.alpha.alpha_of.Goals as goal

pub returns-then-not-first_order : goal.returns-then-not-first_order
unfolding alpha_of
returns-then-not-first_order g c w =
    let h = told c.first_order.ensures c.if-not-first_order.true in
    rw (c.alpha_mie-v.ensures w, h, not_first _ h)

pub returns-then-not-second_order : goal.returns-then-not-second_order
unfolding alpha_of
returns-then-not-second_order g c w =
    let m = g.met.D.DualNum in
    rw (
      m.add_law w _ _ _ c.add-v1.ensures,
      m.mul_law w _ _ _ c.mul.ensures,
      m.sub_law w _ _ _ c.sub.ensures,
      c.alpha_q1-2.ensures w,
      c.alpha_q1.ensures w,
      c.alpha_mie-v.ensures w,
      told c.first_order.ensures c.if-not-first_order.false,
      told c.second_order.ensures c.if-not-second_order.true,
    )

pub returns : goal.returns
unfolding alpha_of
returns g c w =
    let m = g.met.D.DualNum in
    rw (
      m.add_law w _ _ _ c.add.ensures,
      m.mul_law w _ _ _ c.mul-2.ensures,
      m.sub_law w _ _ _ c.sub-2.ensures,
      c.alpha_q2-2.ensures w,
      c.alpha_q2.ensures w,
      c.square.ensures w,
      m.add_law w _ _ _ c.add-v1.ensures,
      m.mul_law w _ _ _ c.mul.ensures,
      m.sub_law w _ _ _ c.sub.ensures,
      c.alpha_q1-2.ensures w,
      c.alpha_q1.ensures w,
      c.alpha_mie-v.ensures w,
      told c.first_order.ensures c.if-not-first_order.false,
      told c.second_order.ensures c.if-not-second_order.false,
    )
