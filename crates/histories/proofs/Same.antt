-- A relation between two arithmetics goes over to numbers with histories: the same history, and related numbers. Then calls of answers that look at histories keep it. Assumes nothing.
use lib.Ieee.{Float}
use mathlib.Core.Path.{◌≡◌, refl, ap, ap₂}
use Rattle.number.specs.Ans.{Ans, held, refused, ◌>>=◌}
use Rattle.number.specs.Arith.{Arith, pi, frac_pi_6, tau, node}
use Rattle.number.specs.Functions.{Answers, calls, call, call₂}
use Rattle.number.proofs.Rel.{Rel, FunRel, Both, both_held, both_refused, then_both, call_rel, call₂_rel}
use Rattle.histories.specs.History.{Elementary, History, HistoryAnswers, Traced, without_history, unlooking, histories, noted, ask, ask₂, asks}
use Rattle.histories.specs.History as Made

pub record Same {S T : Type 0} (R : S → T → Type 0) (x : Traced S) (u : Traced T) : Type 0 where
  pub same : x.history ≡ u.history
  pub number : R x.number u.number

-- what holds of two runs holds of their numbers
pub numbers : {S T : Type 0} {R : S → T → Type 0} {a : Ans (Traced S)} {b : Ans (Traced T)} → Both (Same R) a b → Both R (without_history a) (without_history b)
numbers K = then_both K (λ _ _ r. both_held r.number)

module _ (A B : Arith) (K : Rel A B) where
  open K use {R, r_add, r_sub, r_mul, r_div, r_neg, r_pow, r_down, r_lit, r_constant, r_val, r_after}

  abbrev pub histories_rel : Rel (histories A) (histories B)
  histories_rel =
      record {
        R = Same R;
        r_add = λ p q. record { same = ap₂ Made.add p.same q.same; number = r_add p.number q.number };
        r_sub = λ p q. record { same = ap₂ Made.sub p.same q.same; number = r_sub p.number q.number };
        r_mul = λ p q. record { same = ap₂ Made.mul p.same q.same; number = r_mul p.number q.number };
        r_div = λ p q. record { same = ap₂ Made.div p.same q.same; number = r_div p.number q.number };
        r_neg = λ p. record { same = ap Made.neg p.same; number = r_neg p.number };
        r_pow = λ n p. record { same = ap (λ (h : History). Made.pow h n) p.same; number = r_pow n p.number };
        r_down = λ n p. record { same = ap (λ (h : History). Made.pow_down h n) p.same; number = r_down n p.number };
        r_lit = λ f. record { same = refl; number = r_lit f };
        r_constant = λ c. record { same = refl; number = r_constant c };
        r_val = λ p. r_val p.number;
        r_after = λ p q. record { same = ap₂ Made.after p.same q.same; number = r_after p.number q.number };
      }

  module _ (E : HistoryAnswers) where
    ask_rel : (f : Elementary) {x : Traced A.Num} {u : Traced B.Num} → Same R x u → Both (Same R) (ask A E f x) (ask B E f u)
    ask_rel f {x = x} {u = u} p =
        then_both (rw (p.same, r_val p.number) (call_rel A B K (λ _. E.one f u.history (B.val u.number)) p.number)) (λ _ _ r. both_held (record { same = ap (Made.answer f) p.same; number = r }))

    ask₂_rel : {x y : Traced A.Num} {u v : Traced B.Num} → Same R x u → Same R y v → Both (Same R) (ask₂ A E x y) (ask₂ B E u v)
    ask₂_rel {u = u} {v = v} p q =
        then_both (rw (p.same, q.same, r_val p.number, r_val q.number) (call₂_rel A B K (λ _ _. E.powf u.history v.history (B.val u.number) (B.val v.number)) p.number q.number))
        (λ _ _ r. both_held (record { same = ap₂ Made.answer₂ p.same q.same; number = r }))

    pub asks_rel : FunRel (Same R) (asks A E) (asks B E)
    asks_rel =
        record {
          r_sqrt = λ p. ask_rel Made.sqrt p;
          r_ln = λ p. ask_rel Made.ln p;
          r_ln1p = λ p. ask_rel Made.ln1p p;
          r_exp = λ p. ask_rel Made.exp p;
          r_expm1 = λ p. ask_rel Made.expm1 p;
          r_tanh = λ p. ask_rel Made.tanh p;
          r_powf = λ p q. ask₂_rel p q;
          r_pi = histories_rel.r_constant pi;
          r_frac_pi_6 = histories_rel.r_constant frac_pi_6;
          r_tau = histories_rel.r_constant tau;
          r_node = λ s digits places. histories_rel.r_constant (node s digits places);
        }

-- ---- answers that look at the arguments alone: the run is the plain one
module _ (A : Arith) where
  abbrev pub Forgets : Traced A.Num → A.Num → Type 0
  Forgets x u = x.number ≡ u

  pub forgotten : {a : Ans (Traced A.Num)} {b : Ans A.Num} → Both Forgets a b → without_history a ≡ b
  unfolding ◌>>=◌
  forgotten (both_held p) = ap held p
  forgotten both_refused = refl

  abbrev pub forgets : Rel (histories A) A
  forgets =
      record {
        R = Forgets;
        r_add = λ p q. ap₂ A.add p q;
        r_sub = λ p q. ap₂ A.sub p q;
        r_mul = λ p q. ap₂ A.mul p q;
        r_div = λ p q. ap₂ A.div p q;
        r_neg = λ p. ap A.neg p;
        r_pow = λ n p. ap (λ (x : A.Num). A.pow x n) p;
        r_down = λ n p. ap (λ (x : A.Num). A.pow_down x n) p;
        r_lit = λ f. refl;
        r_constant = λ c. refl;
        r_val = λ p. ap A.val p;
        r_after = λ p q. ap₂ A.after p q;
      }

  noted_forgets : (h : History) (a : Ans A.Num) → Both Forgets (noted A h a) a
  unfolding ◌>>=◌
  noted_forgets h (held v) = both_held refl
  noted_forgets h (refused n) = both_refused

  module _ (E : Answers) where
    plain_rel : (f : Float → Ans Float) (h : History) {x u : A.Num} → x ≡ u → Both Forgets (noted A h (call A f x)) (call A f u)
    plain_rel f h {u = u} p = rw p (noted_forgets h (call A f u))

    pub unlooking_rel : FunRel Forgets (asks A (unlooking E)) (calls A E)
    unlooking_rel =
        record {
          r_sqrt = λ p. plain_rel E.sqrt _ p;
          r_ln = λ p. plain_rel E.ln _ p;
          r_ln1p = λ p. plain_rel E.ln1p _ p;
          r_exp = λ p. plain_rel E.exp _ p;
          r_expm1 = λ p. plain_rel E.expm1 _ p;
          r_tanh = λ p. plain_rel E.tanh _ p;
          r_powf = λ {u = u} {v = v} p q. rw (p, q) (noted_forgets _ (call₂ A E.powf u v));
          r_pi = refl;
          r_frac_pi_6 = refl;
          r_tau = refl;
          r_node = λ s digits places. refl;
        }
