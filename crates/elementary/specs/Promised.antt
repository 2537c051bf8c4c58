-- What document 01 promises of the elementary functions: of each function's answer a to an argument x, which its contract at the boundary says too, and of all in one result.
-- Every f64 fits the format, so that `fits` is for the logic alone, whose floats need not.
use Rattle.std.specs.Prelude.{◌^◌, ◌≡◌, Bool, not, ◌&&◌, T, pos, Float}
use Rattle.std.specs.Float.{fin, binary64}
use Rattle.std.specs.Float.Ieee.{fits, of_bits}
use Rattle.std.specs.Float.Ieee.Scale.{finite}
use Rattle.number.specs.Ans.{Ans, held, refused}
use Rattle.number.specs.Frac.{Frac, le_f, lt_f, zero_f, val_f}
use Rattle.number.specs.Functions.{Answers}
use Rattle.number.specs.Domain.{ln_inside, ln1p_inside, exp_inside, tanh_inside, base_inside, exponent_inside}
use Rattle.series.specs.Exact.{LnValue, Ln1pValue, ExpValue, ExpM1Value, TanhValue, PowerValue}
use Rattle.series.specs.Distance.{within, near}
use Rattle.root.specs.Root.{Nearest}

-- An answer of the six: '6 if the argument is outside', else a finite value within the distance of every value in the bracket, which has one
pub record Keeps (isInside : Bool) (Value : Frac → Type 0) (Distance : Frac → Frac → Type 0) (a : Ans Float) : Type 0 where
  pub outside : T (not isInside) → a ≡ refused 6
  pub inside : T isInside → (r : Float) × (a ≡ held r) × T (finite r) × ((v : Frac) → Value v → Distance (val_f r) v)
  pub value : T isInside → (v : Frac) × Value v

-- '.. of ±0 give the argument', -0 for `true`
abbrev pub ZeroStays : Float → Ans Float → Type 0
ZeroStays x a = (minus : Bool) → x ≡ fin minus 0 (pos 0) → a ≡ held x

abbrev one : Float
one = of_bits binary64 0x3ff0_0000_0000_0000

-- ---- each function. 'Distance: at most 2^−48 of the exact value; for `tanh`, 2^−48 itself'
-- 'Square root: correctly rounded (IEEE 754); −0 gives −0; below zero or not finite is outside': no other f64 is as near to the exact root
pub record SqrtAt (x : Float) (a : Ans Float) : Type 0 where
  pub not_finite : T (not (finite x)) → a ≡ refused 6
  pub below : T (finite x) → lt_f (val_f x) zero_f → a ≡ refused 6
  pub inside : T (finite x) → le_f zero_f (val_f x) → (r : Float) × (a ≡ held r) × T (finite r) × Nearest r x
  pub zero : ZeroStays x a

-- ln 1 is +0
abbrev pub LnAt : Float → Ans Float → Type 0
LnAt x a = Keeps (ln_inside x) (LnValue (val_f x)) (within (2 ^ 48)) a × (x ≡ one → a ≡ held (of_bits binary64 0))

abbrev pub Ln1pAt : Float → Ans Float → Type 0
Ln1pAt x a = Keeps (ln1p_inside x) (Ln1pValue (val_f x)) (within (2 ^ 48)) a × ZeroStays x a

abbrev pub ExpAt : Float → Ans Float → Type 0
ExpAt x a = Keeps (exp_inside x) (ExpValue (val_f x)) (within (2 ^ 48)) a

abbrev pub ExpM1At : Float → Ans Float → Type 0
ExpM1At x a = Keeps (exp_inside x) (ExpM1Value (val_f x)) (within (2 ^ 48)) a × ZeroStays x a

abbrev pub TanhAt : Float → Ans Float → Type 0
TanhAt x a = Keeps (tanh_inside x) (TanhValue (val_f x)) (near (2 ^ 48)) a × ZeroStays x a

-- the power of x by y; more than document 01 asks are its exact corners, and 2^−50 at every exponent but 1
pub record PowfAt (x y : Float) (a : Ans Float) : Type 0 where
  pub keeps : Keeps (base_inside x && exponent_inside y) (PowerValue (val_f x) (val_f y)) (within (2 ^ 48)) a
  pub by_zero : T (base_inside x) → (minus : Bool) → y ≡ fin minus 0 (pos 0) → a ≡ held one
  pub by_one : T (base_inside x) → y ≡ one → a ≡ held x
  pub of_one : T (exponent_inside y) → x ≡ one → a ≡ held one
  pub else_50 : (y ≡ one → ⊥) → (r : Float) (v : Frac) → a ≡ held r → PowerValue (val_f x) (val_f y) v → within (2 ^ 50) (val_f r) v

-- ---- all functions, at every f64
pub record Promised (E : Answers) : Type 0 where
  pub sqrt : (x : Float) → T (fits binary64 x) → SqrtAt x (E.sqrt x)
  pub ln : (x : Float) → T (fits binary64 x) → LnAt x (E.ln x)
  pub ln1p : (x : Float) → T (fits binary64 x) → Ln1pAt x (E.ln1p x)
  pub exp : (x : Float) → T (fits binary64 x) → ExpAt x (E.exp x)
  pub expm1 : (x : Float) → T (fits binary64 x) → ExpM1At x (E.expm1 x)
  pub tanh : (x : Float) → T (fits binary64 x) → TanhAt x (E.tanh x)
  pub powf : (x y : Float) → T (fits binary64 x) → T (fits binary64 y) → PowfAt x y (E.powf x y)
