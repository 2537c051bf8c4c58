-- The exact run: the same operations in the same order on fractions, rounding nothing. A divisor of 0 ends it with no result; each elementary call gets the float run's answer, so that the float run goes beside it.
use Rattle.std.specs.Prelude.{ℕ, Bool, cond, eqb, Float}
use Rattle.std.proofs.Math.Option.{Option, some, none}
use Rattle.std.specs.Float.Ieee as Ieee
use Rattle.std.specs.Float.{binary64}
use Rattle.std.specs.Float.Ieee.Scale.{finite}
use Rattle.number.specs.Frac.{Frac, frac, add_f, sub_f, neg_f, mul_f, div_f, val_f}
use Rattle.number.specs.Power.{pow_up}
use Rattle.number.specs.Arith.{Arith, Constant, nearest, one64}
use Rattle.enclosure.specs.Constants.{Choice}

pub record Exact : Type 0 where
  pub value : Float
  pub exact : Option Frac

-- An input, a number of the source or an elementary answer is the fraction it stands for; an infinity or a NaN stands for none.
unfoldable pub exactly : Float → Exact
exactly x = record { value = x; exact = cond (finite x) (some (val_f x)) none }

-- A constant is the fraction chosen for it.
unfoldable pub chosen : Choice → Constant → Exact
chosen q c = record { value = nearest c; exact = some (q c) }

-- where both operands have a result
abbrev pub both : (Frac → Frac → Option Frac) → Option Frac → Option Frac → Option Frac
both f none y = none
both f (some p) none = none
both f (some p) (some q) = f p q

abbrev pub alone : (Frac → Frac) → Option Frac → Option Frac
alone f none = none
alone f (some p) = some (f p)

abbrev pub is_zero : Frac → Bool
is_zero (frac p n d) = eqb p n

abbrev pub quotient_x : Frac → Frac → Option Frac
quotient_x p q = cond (is_zero q) none (some (div_f p q))

unfoldable pub add_x : Exact → Exact → Exact
add_x x y = record { value = Ieee.add binary64 x.value y.value; exact = both (λ p q. some (add_f p q)) x.exact y.exact }

unfoldable pub sub_x : Exact → Exact → Exact
sub_x x y = record { value = Ieee.sub binary64 x.value y.value; exact = both (λ p q. some (sub_f p q)) x.exact y.exact }

unfoldable pub mul_x : Exact → Exact → Exact
mul_x x y = record { value = Ieee.mul binary64 x.value y.value; exact = both (λ p q. some (mul_f p q)) x.exact y.exact }

unfoldable pub div_x : Exact → Exact → Exact
div_x x y = record { value = Ieee.div binary64 x.value y.value; exact = both quotient_x x.exact y.exact }

unfoldable pub neg_x : Exact → Exact
neg_x x = record { value = Ieee.neg x.value; exact = alone neg_f x.exact }

-- u was worked on the way: if it ended with no result, so has the run
unfoldable pub after_x : Exact → Exact → Exact
after_x u x = record { value = x.value; exact = both (λ p q. some q) u.exact x.exact }

unfoldable pub pow_x : Exact → ℕ → Exact
pow_x x n = pow_up mul_x (exactly one64) x n

unfoldable pub down_x : Exact → ℕ → Exact
down_x x n = div_x (exactly one64) (pow_x x n)

-- the arithmetic of the exact run, the constants being those of q
abbrev pub exacts : Choice → Arith
exacts q =
    record {
      Num = Exact;
      add = add_x;
      sub = sub_x;
      mul = mul_x;
      div = div_x;
      neg = neg_x;
      pow = pow_x;
      pow_down = down_x;
      lit = exactly;
      constant = chosen q;
      val = λ x. x.value;
      after = after_x;
    }
