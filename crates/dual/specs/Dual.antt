-- A value and a slope over any arithmetic: document 01's slope rules. (The literature says dual number: re is the value, eps the slope.)
use Rattle.std.specs.Prelude.{ℕ, zero, suc, pos}
use Rattle.std.specs.Float.Ieee as Ieee
use Rattle.std.specs.Float.{binary64}
use Rattle.number.specs.Arith.{Arith, zero64}

pub record DualOf (N : Type 0) : Type 0 where
  pub re : N
  pub eps : N

module _ (A : Arith) where
  open A use {Num, add as ◌⊕◌, sub as ◌⊖◌, mul as ◌⊗◌, div as ◌⊘◌, neg as ⊖◌, pow, pow_down, lit, constant, val, after}

  infixl 60 ◌⊕◌
  infixl 60 ◌⊖◌
  infixl 70 ◌⊗◌
  infixl 70 ◌⊘◌
  infix 80 ⊖◌
  -- a plain number has slope +0
  unfoldable pub plain_d : Num → DualOf Num
  plain_d x = record { re = x; eps = lit zero64 }

  -- sums and negations act on both parts
  unfoldable pub add_d : DualOf Num → DualOf Num → DualOf Num
  add_d x y = record { re = x.re ⊕ y.re; eps = x.eps ⊕ y.eps }

  unfoldable pub sub_d : DualOf Num → DualOf Num → DualOf Num
  sub_d x y = record { re = x.re ⊖ y.re; eps = x.eps ⊖ y.eps }

  unfoldable pub neg_d : DualOf Num → DualOf Num
  neg_d x = record { re = ⊖ x.re; eps = ⊖ x.eps }

  -- product (a, a')(b, b') has slope a'b + ab'
  unfoldable pub mul_d : DualOf Num → DualOf Num → DualOf Num
  mul_d x y = record { re = x.re ⊗ y.re; eps = x.eps ⊗ y.re ⊕ x.re ⊗ y.eps }

  -- quotient has slope (a'b − ab')/(bb), and value a/b
  unfoldable pub div_d : DualOf Num → DualOf Num → DualOf Num
  div_d x y = record { re = x.re ⊘ y.re; eps = (x.eps ⊗ y.re ⊖ x.re ⊗ y.eps) ⊘ (y.re ⊗ y.re) }

  -- power n (whole) has slope n·a^(n−1)·a' from the left (+0 if n is 0)
  unfoldable pub pow_d : DualOf Num → ℕ → DualOf Num
  pow_d x zero = record { re = pow x.re 0; eps = lit zero64 }
  pow_d x (suc n) = record { re = pow x.re (suc n); eps = lit (Ieee.of_int binary64 (pos (suc n))) ⊗ pow x.re n ⊗ x.eps }

  -- the same for the power −n
  unfoldable pub down_d : DualOf Num → ℕ → DualOf Num
  down_d x zero = record { re = pow_down x.re 0; eps = lit zero64 }
  down_d x (suc n) = record { re = pow_down x.re (suc n); eps = lit (Ieee.neg (Ieee.of_int binary64 (pos (suc n)))) ⊗ pow_down x.re (suc (suc n)) ⊗ x.eps }

  -- both parts of u were worked on the way
  unfoldable pub after_d : DualOf Num → DualOf Num → DualOf Num
  after_d u x = record { re = after u.re (after u.eps x.re); eps = x.eps }

  abbrev pub duals : Arith
  duals =
      record {
        Num = DualOf Num;
        add = add_d;
        sub = sub_d;
        mul = mul_d;
        div = div_d;
        neg = neg_d;
        pow = pow_d;
        pow_down = down_d;
        lit = λ v. plain_d (lit v);
        constant = λ c. plain_d (constant c);
        val = λ x. val x.re;
        after = after_d;
      }
