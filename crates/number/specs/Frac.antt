-- Fractions as document 01 has them: a whole number over a positive whole number, two being compared by cross products.
use Rattle.std.specs.Prelude.{ℕ, ◌+◌, ◌-◌, ◌*◌, ◌<◌, ◌≤◌, Bool, true, false, cond, nat_lt, Float}
use Rattle.std.specs.Float.{nan, inf, fin}
use Rattle.std.specs.Float.Ieee.{up, down}

-- `frac p n d` is (p - n) / d: the whole number is a difference of natural numbers, so that every statement is one about ℕ
pub data Frac : Type 0 where
  frac : ℕ → ℕ → ℕ → Frac

-- the denominator is positive
abbrev pub Pos : Frac → Type 0
Pos (frac p n d) = 0 < d

-- at most, and less: by cross products
abbrev pub le_f : Frac → Frac → Type 0
le_f (frac p n d) (frac q m c) = p * c + m * d ≤ q * d + n * c

abbrev pub lt_f : Frac → Frac → Type 0
lt_f (frac p n d) (frac q m c) = p * c + m * d < q * d + n * c

abbrev pub zero_f : Frac
zero_f = frac 0 0 1

abbrev pub neg_f : Frac → Frac
neg_f (frac p n d) = frac n p d

abbrev pub add_f : Frac → Frac → Frac
add_f (frac p n d) (frac q m c) = frac (p * c + q * d) (n * c + m * d) (d * c)

abbrev pub sub_f : Frac → Frac → Frac
sub_f x y = add_f x (neg_f y)

abbrev pub mul_f : Frac → Frac → Frac
mul_f (frac p n d) (frac q m c) = frac (p * q + n * m) (p * m + n * q) (d * c)

-- 1 / y, for a y that is not zero (at zero the denominator is 0)
abbrev pub inv_f : Frac → Frac
inv_f (frac q m c) = cond (nat_lt m q) (frac c 0 (q - m)) (frac 0 c (m - q))

abbrev pub div_f : Frac → Frac → Frac
div_f x y = mul_f x (inv_f y)

-- a / c with a sign: `true` is minus
abbrev pub sgn : Bool → ℕ → ℕ → Frac
sgn false a c = frac a 0 c
sgn true a c = frac 0 a c

-- the fraction that a finite f64 stands for, either zero for 0 (what is not finite stands for none and is read as 0 here: a distance alone would not tell it from 0, so that promises say beside it that the float is finite)
abbrev pub val_f : Float → Frac
val_f nan = zero_f
val_f (inf s) = zero_f
val_f (fin s m e) = sgn s (m * up e) (down e)
