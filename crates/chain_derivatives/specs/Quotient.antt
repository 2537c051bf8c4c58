-- Quotients of two polynomials in the segment density, over fractions: one more reading of the formulas, beside floats, ends and the exact run; and the derivative of a quotient, taken on the coefficients.
use Rattle.std.specs.Prelude.{ℕ, ◌+◌, ◌*◌, ◌≡◌, List, [], ◌∷◌}
use Rattle.std.proofs.Math.Option.{Option, some, none}
use Rattle.number.specs.Frac.{Frac, frac, Pos, neg_f, add_f, mul_f, div_f}
use Rattle.number.specs.Power.{pow_up}
use Rattle.number.specs.Arith.{Arith, zero64}
use Rattle.enclosure.specs.Constants.{Choice}
use Rattle.enclosure.specs.Exact.{Exact, exactly, chosen}
use Rattle.chain_derivatives.specs.Polynomial.{Coefficients, evaluated, sum, negative, product, derivative}

-- fractions as coefficients
abbrev pub fractions : Coefficients Frac
fractions = record { add = add_f; mul = mul_f; neg = neg_f; whole = λ n. frac n 0 1 }

pub record Quotient : Type 0 where
  pub numerator : List Frac
  pub denominator : List Frac

abbrev zero : Frac
zero = frac 0 0 1

abbrev one : Frac
one = frac 1 0 1

unfoldable pub constant_of : Option Frac → Quotient
constant_of (some c) = record { numerator = c ∷ []; denominator = one ∷ [] }
constant_of none = record { numerator = []; denominator = [] }

-- A plain number does not hang on the density. One that has no result is 0/0, which has no value at any density.
unfoldable pub constant : Exact → Quotient
constant x = constant_of x.exact

-- the density itself
unfoldable pub variable : Quotient
variable = record { numerator = zero ∷ one ∷ []; denominator = one ∷ [] }

-- ---- the arithmetic: P/Q + U/V is (PV + UQ)/(QV), and so on; nothing is cancelled
unfoldable pub add_q : Quotient → Quotient → Quotient
add_q x y =
    record {
      numerator = sum fractions (product fractions x.numerator y.denominator) (product fractions y.numerator x.denominator);
      denominator = product fractions x.denominator y.denominator;
    }

unfoldable pub neg_q : Quotient → Quotient
neg_q x = record { numerator = negative fractions x.numerator; denominator = x.denominator }

unfoldable pub sub_q : Quotient → Quotient → Quotient
sub_q x y = add_q x (neg_q y)

unfoldable pub mul_q : Quotient → Quotient → Quotient
mul_q x y = record { numerator = product fractions x.numerator y.numerator; denominator = product fractions x.denominator y.denominator }

unfoldable pub div_q : Quotient → Quotient → Quotient
div_q x y = record { numerator = product fractions x.numerator y.denominator; denominator = product fractions x.denominator y.numerator }

unfoldable pub pow_q : Quotient → ℕ → Quotient
pow_q x n = pow_up mul_q (constant_of (some one)) x n

unfoldable pub down_q : Quotient → ℕ → Quotient
down_q x n = div_q (constant_of (some one)) (pow_q x n)

-- A number of the source is the fraction it stands for, one of the Rust's constants the fraction chosen for it. The terms of a component take no branch and make no call on a number that hangs on the density, so that nothing looks at `val`, and work no number that they leave unused.
abbrev pub quotients : Choice → Arith
quotients C =
    record {
      Num = Quotient;
      add = add_q;
      sub = sub_q;
      mul = mul_q;
      div = div_q;
      neg = neg_q;
      pow = pow_q;
      pow_down = down_q;
      lit = λ f. constant (exactly f);
      constant = λ c. constant (chosen C c);
      val = λ x. zero64;
      after = λ u x. x;
    }

-- ---- P(x)/Q(x), and the derivative
unfoldable pub value_at : Quotient → Frac → Frac
value_at q x = div_f (evaluated fractions q.numerator x) (evaluated fractions q.denominator x)

-- (P'Q − PQ')/(QQ), P' and Q' being taken on the coefficients
unfoldable pub derived : Quotient → Quotient
derived q =
    let p = q.numerator in
    let d = q.denominator in
    record {
      numerator = sum fractions (product fractions (derivative fractions p) d) (negative fractions (product fractions p (derivative fractions d)));
      denominator = product fractions d d;
    }

-- ---- equal fractions
-- by cross products
abbrev pub crosses : Frac → Frac → Type 0
crosses (frac p n d) (frac q m c) = p * c + m * d ≡ q * d + n * c

-- each over a positive whole number
pub record Equals (x y : Frac) : Type 0 where
  pub left : Pos x
  pub right : Pos y
  pub cross : crosses x y
