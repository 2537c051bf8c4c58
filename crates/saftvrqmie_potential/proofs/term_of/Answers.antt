-- `saftvrqmie_potential::term_of` meets its contract. Assumes nothing.
use lib.Ieee.{of_bits}
use mathlib.Core.Path.{refl}
use mathlib.Core.Bool.{Bool}
use Rattle.number.specs.Answer.{answer_by}
use Rattle.number.specs.Arith.{decimal}
use Rattle.number.proofs.Walk.{via, handed_on}
use Rattle.saftvrqmie_potential.specs.Shared.{term_of}
use Rattle.saftvrqmie_potential.proofs.Values.{step_refused, step_held}
use Rattle.saftvrqmie_potential.proofs.term_of.Goals as goal

pub returns-in_err-power-clause-value : goal.returns-in_err-power-clause-value
unfolding term_of
returns-in_err-power-clause-value g c w = rw (handed_on _ c.from_residual.ensures) (step_refused _ _ (via (answer_by (g.D.DualNum.plain w)) (c.plain_powf.ensures w) c.in_err-power.was))

pub returns : goal.returns
unfolding decimal of_bits term_of
returns g c =
    let m = g.met.D.DualNum in
    let power = λ (w : Bool). via (answer_by (g.D.DualNum.plain w)) (c.plain_powf.ensures w) c.in_ok-power.was in
    record {
      stands = λ w.
          record {
            lambda = refl;
            q1 = c.q1_of.ensures w;
            q2 = c.q2_of.ensures w;
            power = power w;
            e0 = c.exponent.ensures.power w;
            e1 = rw (m.plain_add_law w _ _ _ c.add.ensures, m.plain_lit_law w _ _ c.lit.ensures) at (c.exponent-2.ensures.power w);
            e2 = rw (m.plain_add_law w _ _ _ c.add-2.ensures, m.plain_lit_law w _ _ c.lit-2.ensures) at (c.exponent-3.ensures.power w);
            e3 = rw (m.plain_add_law w _ _ _ c.add-3.ensures, m.plain_lit_law w _ _ c.lit-3.ensures) at (c.exponent-4.ensures.power w);
            e4 = rw (m.plain_add_law w _ _ _ c.add-4.ensures, m.plain_lit_law w _ _ c.lit-4.ensures) at (c.exponent-5.ensures.power w);
            e5 = rw (m.plain_add_law w _ _ _ c.add-5.ensures, m.plain_lit_law w _ _ c.lit-5.ensures) at (c.exponent-6.ensures.power w);
            e6 = rw (m.plain_add_law w _ _ _ c.add-6.ensures, m.plain_lit_law w _ _ c.lit-6.ensures) at (c.exponent-7.ensures.power w);
          };
      value = λ w.
          step_held _ _ (power w)
          (rw (
            c.q1_of.ensures w,
            c.q2_of.ensures w,
            c.exponent.ensures.value w,
            rw (m.plain_add_law w _ _ _ c.add.ensures, m.plain_lit_law w _ _ c.lit.ensures) at (c.exponent-2.ensures.value w),
            rw (m.plain_add_law w _ _ _ c.add-2.ensures, m.plain_lit_law w _ _ c.lit-2.ensures) at (c.exponent-3.ensures.value w),
            rw (m.plain_add_law w _ _ _ c.add-3.ensures, m.plain_lit_law w _ _ c.lit-3.ensures) at (c.exponent-4.ensures.value w),
            rw (m.plain_add_law w _ _ _ c.add-4.ensures, m.plain_lit_law w _ _ c.lit-4.ensures) at (c.exponent-5.ensures.value w),
            rw (m.plain_add_law w _ _ _ c.add-5.ensures, m.plain_lit_law w _ _ c.lit-5.ensures) at (c.exponent-6.ensures.value w),
            rw (m.plain_add_law w _ _ _ c.add-6.ensures, m.plain_lit_law w _ _ c.lit-6.ensures) at (c.exponent-7.ensures.value w),
          ));
    }
