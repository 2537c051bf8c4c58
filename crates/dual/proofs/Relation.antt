-- A relation between two arithmetics goes over to dual numbers over them, part by part. Assumes nothing.
use Prim.Native.Nat.{ℕ, zero, suc}
use Rattle.number.specs.Arith.{Arith}
use Rattle.number.proofs.Rel.{Rel}
use Rattle.dual.specs.Dual.{DualOf, duals, plain_d, add_d, sub_d, mul_d, div_d, neg_d, pow_d, down_d, after_d}

pub record Duals {S T : Type 0} (R : S → T → Type 0) (x : DualOf S) (u : DualOf T) : Type 0 where
  pub re : R x.re u.re
  pub eps : R x.eps u.eps

module _ (A B : Arith) (K : Rel A B) where
  open K use {R, r_add, r_sub, r_mul, r_div, r_neg, r_pow, r_down, r_lit, r_constant, r_val, r_after}

  pub plain_rel : {x : A.Num} {u : B.Num} → R x u → Duals R (plain_d A x) (plain_d B u)
  unfolding plain_d
  plain_rel p = record { re = p; eps = r_lit _ }

  module _ (x y : DualOf A.Num) (u v : DualOf B.Num) (p : Duals R x u) (q : Duals R y v) where
    pub add_rel : Duals R (add_d A x y) (add_d B u v)
    unfolding add_d
    add_rel = record { re = r_add p.re q.re; eps = r_add p.eps q.eps }

    pub sub_rel : Duals R (sub_d A x y) (sub_d B u v)
    unfolding sub_d
    sub_rel = record { re = r_sub p.re q.re; eps = r_sub p.eps q.eps }

    pub mul_rel : Duals R (mul_d A x y) (mul_d B u v)
    unfolding mul_d
    mul_rel = record { re = r_mul p.re q.re; eps = r_add (r_mul p.eps q.re) (r_mul p.re q.eps) }

    pub div_rel : Duals R (div_d A x y) (div_d B u v)
    unfolding div_d
    div_rel = record { re = r_div p.re q.re; eps = r_div (r_sub (r_mul p.eps q.re) (r_mul p.re q.eps)) (r_mul q.re q.re) }

    pub after_rel : Duals R (after_d A x y) (after_d B u v)
    unfolding after_d
    after_rel = record { re = r_after p.re (r_after p.eps q.re); eps = q.eps }

  module _ (x : DualOf A.Num) (u : DualOf B.Num) (p : Duals R x u) where
    pub neg_rel : Duals R (neg_d A x) (neg_d B u)
    unfolding neg_d
    neg_rel = record { re = r_neg p.re; eps = r_neg p.eps }

    pub pow_rel : (n : ℕ) → Duals R (pow_d A x n) (pow_d B u n)
    unfolding pow_d
    pow_rel zero = record { re = r_pow 0 p.re; eps = r_lit _ }
    pow_rel (suc n) = record { re = r_pow (suc n) p.re; eps = r_mul (r_mul (r_lit _) (r_pow n p.re)) p.eps }

    pub down_rel : (n : ℕ) → Duals R (down_d A x n) (down_d B u n)
    unfolding down_d
    down_rel zero = record { re = r_down 0 p.re; eps = r_lit _ }
    down_rel (suc n) = record { re = r_down (suc n) p.re; eps = r_mul (r_mul (r_lit _) (r_down _ p.re)) p.eps }

  abbrev pub duals_rel : Rel (duals A) (duals B)
  duals_rel =
      record {
        R = Duals R;
        r_add = λ p q. add_rel _ _ _ _ p q;
        r_sub = λ p q. sub_rel _ _ _ _ p q;
        r_mul = λ p q. mul_rel _ _ _ _ p q;
        r_div = λ p q. div_rel _ _ _ _ p q;
        r_neg = λ p. neg_rel _ _ p;
        r_pow = λ n p. pow_rel _ _ p n;
        r_down = λ n p. down_rel _ _ p n;
        r_lit = λ f. plain_rel (r_lit f);
        r_constant = λ c. plain_rel (r_constant c);
        r_val = λ p. r_val p.re;
        r_after = λ p q. after_rel _ _ _ _ p q;
      }
