-- `saftvrqmie_potential::share` meets its contract. Assumes nothing.
use mathlib.Core.Path.{subst}
use Rattle.number.specs.Answer.{answer_by}
use Rattle.number.proofs.Walk.{via, told, handed_on}
use Rattle.saftvrqmie_potential.specs.Shared.{IsTerm, term_by}
use Rattle.saftvrqmie_potential.proofs.Lines.{first_outside, second_outside}
use Rattle.saftvrqmie_potential.proofs.Values.{value_first, value_second, value_outside, value_inside, unraised, exponent_outside}
use Rattle.saftvrqmie_potential.proofs.share.Goals as goal

pub returns-in_err-r : goal.returns-in_err-r
returns-in_err-r g c =
    let d = g.D.DualNum in
    record {
      shares = λ w.
          let q = subst (IsTerm (d.beside w) (d.functions w) (d.plain w) (d.power_at w) (d.power_by w) _ _) c.in_err-r.was (c.term_of.ensures.stands w) in
          let none = λ (x : (d.beside w).Num). first_outside (d.beside w) (d.functions w) (g.met.D.DualNum.powf_law w) _ x q in
          rw (handed_on _ c.from_residual.ensures) (λ x. none (d.of w x), λ u x. none x);
      value = λ w. rw (handed_on _ c.from_residual.ensures) (value_first _ _ (d.plain w) (d.of w) _ _ _ _ (via (answer_by (term_by (d.plain w))) (c.term_of.ensures.value w) c.in_err-r.was));
    }

pub returns-in_err-a : goal.returns-in_err-a
returns-in_err-a g c =
    let d = g.D.DualNum in
    record {
      shares = λ w.
          let q = subst (IsTerm (d.beside w) (d.functions w) (d.plain w) (d.power_at w) (d.power_by w) _ _) c.in_err-a.was (c.term_of-2.ensures.stands w) in
          let none = λ (x : (d.beside w).Num). second_outside (d.beside w) (d.functions w) (g.met.D.DualNum.powf_law w) _ x q in
          rw (handed_on _ c.from_residual-in_err-a.ensures) (λ x. none (d.of w x), λ u x. none x);
      value = λ w.
          let read = answer_by (term_by (d.plain w)) in
          rw (handed_on _ c.from_residual-in_err-a.ensures) (value_second _ _ (d.plain w) (d.of w) _ _ _ _ (via read (c.term_of.ensures.value w) c.in_ok-r.was) _ (via read (c.term_of-2.ensures.value w) c.in_err-a.was));
    }

pub returns-else-inside : goal.returns-else-inside
returns-else-inside g c =
    let d = g.D.DualNum in
    let m = g.met.D.DualNum in
    let out = told c.exponents_inside-inside.ensures c.if-inside.false in
    record {
      shares = λ w. (
        λ x. exponent_outside (d.beside w) (d.functions w) (d.plain w) (d.power_at w) (d.power_by w) d.exponent_in d.base_in (d.raised w) (m.power_law w) _ _ _ (subst (IsTerm (d.beside w) (d.functions w) (d.plain w) (d.power_at w) (d.power_by w) _ _) c.in_ok-r.was (c.term_of.ensures.stands w)) (subst (IsTerm (d.beside w) (d.functions w) (d.plain w) (d.power_at w) (d.power_by w) _ _) c.in_ok-a.was (c.term_of-2.ensures.stands w)) out (d.of w x) (d.base_of x) (m.base_law w x),
        λ u x. unraised (d.beside w) (d.functions w) (m.powf_law w) _ _ u x,
      );
      value = λ w.
          let read = answer_by (term_by (d.plain w)) in
          value_outside _ _ (d.plain w) (d.of w) _ _ _ _ (via read (c.term_of.ensures.value w) c.in_ok-r.was) _ (via read (c.term_of-2.ensures.value w) c.in_ok-a.was) out;
    }

pub returns-then-inside-clause-value : goal.returns-then-inside-clause-value
returns-then-inside-clause-value g c w =
    let d = g.D.DualNum in
    let m = g.met.D.DualNum in
    let read = answer_by (term_by (d.plain w)) in
    let is-d = c.quantum_d-d.ensures w in
    value_inside _ _ (d.plain w) (d.of w) _ _ _ _ (via read (c.term_of.ensures.value w) c.in_ok-r.was) _ (via read (c.term_of-2.ensures.value w) c.in_ok-a.was) _ _ _ is-d (rw is-d at (c.powi.ensures w)) (m.plain_mul_law w _ _ _ c.mul.ensures) _ c.exponents_inside-inside.ensures (told c.exponents_inside-inside.ensures c.if-inside.true)
