-- `saftvrqmie_potential::potential_at` meets its contract. Assumes nothing.
use mathlib.Core.Bool.{false}
use Rattle.number.proofs.Walk.{told}
use Rattle.saftvrqmie_potential.proofs.Alone.{outside, order_0, order_1, order_2, from_outside, from_0, from_1, from_2}
use Rattle.saftvrqmie_potential.proofs.potential_at.Goals as goal

pub returns-then-not-base_inside-s : goal.returns-then-not-base_inside-s
returns-then-not-base_inside-s g c =
    let d = g.D.DualNum in
    let out = rw c.base_inside.ensures at c.if-not-base_inside-s.true in
    record {
      formula = λ p h. rw (outside d.base_in (d.raised false) (g.met.D.DualNum.power_law false) h (c.base-base.ensures.power false) out);
      staged = from_outside _ (d.plain false) (d.of false) d.base_in (d.raised false) _ _ (rw c.base-base.ensures.value at out);
    }

pub returns-then-not-first_order : goal.returns-then-not-first_order
returns-then-not-first_order g c =
    let d = g.D.DualNum in
    let in-all = rw c.base_inside.ensures at c.if-not-base_inside-s.false in
    let k = told c.first_order.ensures c.if-not-first_order.true in
    record {
      formula = λ p h. order_0 d.base_in (d.raised false) (g.met.D.DualNum.power_law false) h (c.base-base.ensures.power false) in-all (c.line_at-l0.ensures false) (c.line_at-l1.ensures false) (c.line_at-l2.ensures false) (c.mie-v.ensures false) k (c.finished.ensures false);
      staged = rw c.base-base.ensures.value at (from_0 _ (d.plain false) (d.of false) d.base_in (d.raised false) _ _ in-all _ _ _ (c.line_at-l0.ensures false) (c.line_at-l1.ensures false) (c.line_at-l2.ensures false) _ _ (c.mie-v.ensures false) k (c.finished.ensures false));
    }

pub returns-then-not-second_order : goal.returns-then-not-second_order
returns-then-not-second_order g c =
    let d = g.D.DualNum in
    let in-all = rw c.base_inside.ensures at c.if-not-base_inside-s.false in
    let k = told c.first_order.ensures c.if-not-first_order.false in
    let k' = told c.second_order.ensures c.if-not-second_order.true in
    record {
      formula = λ p h. order_1 d.base_in (d.raised false) (g.met.D.DualNum.power_law false) h (c.base-base.ensures.power false) in-all (c.line_at-l0.ensures false) (c.line_at-l1.ensures false) (c.line_at-l2.ensures false) (c.mie-v.ensures false) k (c.line_at-l3.ensures false) (c.line_at-l4.ensures false) c.add_first-v1.ensures k' (c.finished-then-not-second_order.ensures false);
      staged = rw c.base-base.ensures.value at (from_1 _ (d.plain false) (d.of false) d.base_in (d.raised false) _ _ in-all _ _ _ (c.line_at-l0.ensures false) (c.line_at-l1.ensures false) (c.line_at-l2.ensures false) _ _ (c.mie-v.ensures false) k _ _ (c.line_at-l3.ensures false) (c.line_at-l4.ensures false) _ c.add_first-v1.ensures k' (c.finished-then-not-second_order.ensures false));
    }

pub returns : goal.returns
returns g c =
    let d = g.D.DualNum in
    let in-all = rw c.base_inside.ensures at c.if-not-base_inside-s.false in
    let k = told c.first_order.ensures c.if-not-first_order.false in
    let k' = told c.second_order.ensures c.if-not-second_order.false in
    record {
      formula = λ p h. order_2 d.base_in (d.raised false) (g.met.D.DualNum.power_law false) h (c.base-base.ensures.power false) in-all (c.line_at-l0.ensures false) (c.line_at-l1.ensures false) (c.line_at-l2.ensures false) (c.mie-v.ensures false) k (c.line_at-l3.ensures false) (c.line_at-l4.ensures false) c.add_first-v1.ensures k' (c.line_at-l5.ensures false) (c.line_at-l6.ensures false) (c.add_second.ensures false) (c.finished-2.ensures false);
      staged = rw c.base-base.ensures.value at (from_2 _ (d.plain false) (d.of false) d.base_in (d.raised false) _ _ in-all _ _ _ (c.line_at-l0.ensures false) (c.line_at-l1.ensures false) (c.line_at-l2.ensures false) _ _ (c.mie-v.ensures false) k _ _ (c.line_at-l3.ensures false) (c.line_at-l4.ensures false) _ c.add_first-v1.ensures k' _ _ (c.line_at-l5.ensures false) (c.line_at-l6.ensures false) _ (c.add_second.ensures false) (c.finished-2.ensures false));
    }
