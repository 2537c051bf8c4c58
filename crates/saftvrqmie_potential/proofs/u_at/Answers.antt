-- `saftvrqmie_potential::u_at` meets its contract. Assumes nothing.
use Rattle.number.specs.Ans.{◌>>=◌}
use Rattle.number.proofs.Walk.{told}
use Rattle.saftvrqmie_potential.proofs.Alone.{outside, alone_0, alone_1, alone_2, alone_from_outside, alone_from_0, alone_from_1, alone_from_2}
use Rattle.saftvrqmie_potential.proofs.u_at.Goals as goal

pub returns-then-not-base_inside-s : goal.returns-then-not-base_inside-s
unfolding ◌>>=◌
returns-then-not-base_inside-s g c =
    let d = g.D.DualNum in
    let out = rw c.base_inside.ensures at c.if-not-base_inside-s.true in
    record {
      formula = λ w p h. rw (outside d.base_in (d.raised w) (g.met.D.DualNum.power_law w) h (c.base-base.ensures.power w) out);
      staged = λ w. rw (← c.base-base.ensures.value) (alone_from_outside (d.beside w) (d.plain w) (d.of w) d.base_in (d.raised w) c.args.s.now _ out);
    }

pub returns-then-not-first_order : goal.returns-then-not-first_order
returns-then-not-first_order g c =
    let d = g.D.DualNum in
    let m = g.met.D.DualNum in
    let in-all = rw c.base_inside.ensures at c.if-not-base_inside-s.false in
    let k = told c.first_order.ensures c.if-not-first_order.true in
    record {
      formula = λ w p h. alone_0 d.base_in (d.raised w) (m.power_law w) h (c.base-base.ensures.power w) in-all (c.line_at-l0.ensures w) (c.u_mie-u.ensures w) k (rw (c.after_shared.ensures w, m.mul_plain_law w _ _ _ c.mul.ensures));
      staged = λ w. rw (← c.base-base.ensures.value) (alone_from_0 (d.beside w) (d.plain w) (d.of w) d.base_in (d.raised w) c.args.s.now _ in-all _ (c.line_at-l0.ensures w) _ _ (c.u_mie-u.ensures w) k (rw (c.after_shared.ensures w, m.mul_plain_law w _ _ _ c.mul.ensures)));
    }

pub returns-then-not-second_order : goal.returns-then-not-second_order
returns-then-not-second_order g c =
    let d = g.D.DualNum in
    let m = g.met.D.DualNum in
    let in-all = rw c.base_inside.ensures at c.if-not-base_inside-s.false in
    let k = told c.first_order.ensures c.if-not-first_order.false in
    let k' = told c.second_order.ensures c.if-not-second_order.true in
    record {
      formula = λ w p h. alone_1 d.base_in (d.raised w) (m.power_law w) h (c.base-base.ensures.power w) in-all (c.line_at-l0.ensures w) (c.u_mie-u.ensures w) k (c.line_at-l2.ensures w) (rw (m.mul_law w _ _ _ c.mul-2.ensures, c.u_quantum.ensures w) at (m.add_law w _ _ _ c.add-u1.ensures)) k' (rw (c.after_shared-then-not-second_order.ensures w, m.mul_plain_law w _ _ _ c.mul-then-not-second_order.ensures));
      staged = λ w. rw (← c.base-base.ensures.value) (alone_from_1 (d.beside w) (d.plain w) (d.of w) d.base_in (d.raised w) c.args.s.now _ in-all _ (c.line_at-l0.ensures w) _ _ (c.u_mie-u.ensures w) k _ (c.line_at-l2.ensures w) _ (rw (m.mul_law w _ _ _ c.mul-2.ensures, c.u_quantum.ensures w) at (m.add_law w _ _ _ c.add-u1.ensures)) k' (rw (c.after_shared-then-not-second_order.ensures w, m.mul_plain_law w _ _ _ c.mul-then-not-second_order.ensures)));
    }

pub returns : goal.returns
returns g c =
    let d = g.D.DualNum in
    let m = g.met.D.DualNum in
    let in-all = rw c.base_inside.ensures at c.if-not-base_inside-s.false in
    let k = told c.first_order.ensures c.if-not-first_order.false in
    let k' = told c.second_order.ensures c.if-not-second_order.false in
    record {
      formula = λ w p h. alone_2 d.base_in (d.raised w) (m.power_law w) h (c.base-base.ensures.power w) in-all (c.line_at-l0.ensures w) (c.u_mie-u.ensures w) k (c.line_at-l2.ensures w) (rw (m.mul_law w _ _ _ c.mul-2.ensures, c.u_quantum.ensures w) at (m.add_law w _ _ _ c.add-u1.ensures)) k' (c.line_at-l4.ensures w) (rw (m.mul_law w _ _ _ c.mul-3.ensures, c.u_quantum-2.ensures w) at (m.add_law w _ _ _ c.add-u2.ensures)) (rw (c.after_shared-2.ensures w, m.mul_plain_law w _ _ _ c.mul-4.ensures));
      staged = λ w. rw (← c.base-base.ensures.value) (alone_from_2 (d.beside w) (d.plain w) (d.of w) d.base_in (d.raised w) c.args.s.now _ in-all _ (c.line_at-l0.ensures w) _ _ (c.u_mie-u.ensures w) k _ (c.line_at-l2.ensures w) _ (rw (m.mul_law w _ _ _ c.mul-2.ensures, c.u_quantum.ensures w) at (m.add_law w _ _ _ c.add-u1.ensures)) k' _ (c.line_at-l4.ensures w) _ (rw (m.mul_law w _ _ _ c.mul-3.ensures, c.u_quantum-2.ensures w) at (m.add_law w _ _ _ c.add-u2.ensures)) (rw (c.after_shared-2.ensures w, m.mul_plain_law w _ _ _ c.mul-4.ensures)));
    }
