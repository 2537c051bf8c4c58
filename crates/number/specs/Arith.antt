-- The arithmetic that every formula is written over, once; and its reading in floats, which is the float run: the Rust's operations, each rounded.
use Rattle.std.specs.Float.Ieee as Ieee
use Rattle.std.specs.Float.{binary64}
use Rattle.std.specs.Prelude.{ℕ, suc, ◌^◌, Bool, false, ℤ, pos, negsuc, Float}
use Rattle.number.specs.Power.{pow_up}

-- the constants of the Rust that need not be floats: pi, pi / 6, twice pi, and a decimal of a quadrature rule (whether it is negative, its digits, and how many places they take)
pub data Constant : Type 0 where
  pi : Constant
  frac_pi_6 : Constant
  tau : Constant
  node : Bool → ℕ → ℕ → Constant

pub record Arith : Type 1 where
  pub Num : Type 0
  pub add : Num → Num → Num
  pub sub : Num → Num → Num
  pub mul : Num → Num → Num
  pub div : Num → Num → Num
  pub neg : Num → Num
  -- the whole power n, and minus n
  pub pow : Num → ℕ → Num
  pub pow_down : Num → ℕ → Num
  -- an input, a number of the source or an elementary answer
  pub lit : Float → Num
  -- one of the constants above
  pub constant : Constant → Num
  -- the float run's value: what branches and elementary calls look at
  pub val : Num → Float
  -- `after u x` is x; u was worked on the way, though x does not hang on it
  pub after : Num → Num → Num

-- the whole power of either sign
abbrev pub powi : (A : Arith) → A.Num → ℤ → A.Num
powi A x (pos n) = A.pow x n
powi A x (negsuc n) = A.pow_down x (suc n)

-- the f64 nearest to ± digits / 10 ^ places: what a decimal literal of the source stands for
unfoldable pub decimal : Bool → ℕ → ℕ → Float
unfolding Ieee.round
decimal s digits places = Ieee.round binary64 s digits (10 ^ places)

-- the f64 of a pattern of 64 bits
abbrev pub bits : ℕ → Float
bits n = Ieee.of_bits binary64 n

-- +0 and 1.0
abbrev pub zero64 : Float
zero64 = bits 0

abbrev pub one64 : Float
one64 = bits 0x3ff0_0000_0000_0000

-- f64::EPSILON, 2^-52
abbrev pub epsilon64 : Float
epsilon64 = bits 0x3cb0_0000_0000_0000

-- a whole number of the source, as a point
abbrev pub whole : (A : Arith) → ℕ → A.Num
whole A n = A.lit (decimal false n 0)

-- the f64 that the Rust has for a constant: std::f64::consts::{PI, FRAC_PI_6, TAU}, and the one nearest to a decimal
abbrev pub nearest : Constant → Float
nearest pi = bits 0x4009_21fb_5444_2d18
nearest frac_pi_6 = bits 0x3fe0_c152_382d_7366
nearest tau = bits 0x4019_21fb_5444_2d18
nearest (node s digits places) = decimal s digits places

-- the float run: each operation rounded; an input or answer is itself; unused work does not count
abbrev pub floats : Arith
floats =
    record {
      Num = Float;
      add = Ieee.add binary64;
      sub = Ieee.sub binary64;
      mul = Ieee.mul binary64;
      div = Ieee.div binary64;
      neg = Ieee.neg;
      pow = pow_up (Ieee.mul binary64) one64;
      pow_down = λ x n. Ieee.div binary64 one64 (pow_up (Ieee.mul binary64) one64 x n);
      lit = λ x. x;
      constant = nearest;
      val = λ x. x;
      after = λ u x. x;
    }
