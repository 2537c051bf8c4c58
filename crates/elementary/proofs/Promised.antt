-- The port's elementary functions keep what document 01 promises of them. Assumes nothing.
use Prim.Native.Nat.{ℕ, zero, suc, ◌+◌, ◌*◌, ◌/◌, ◌^◌, ◌≤◌, ◌<◌}
use native.Mathlib.Nat.{zero-lt-suc, mul-pos}
use native.Mathlib.Omega.{arith}
use mathlib.Core.Path.{◌≡◌, refl, sym, ap, ◌∙◌}
use mathlib.Core.Bool.{Bool, true, false, not, ◌&&◌, cond}
use lib.IntN.{pos}
use lib.Dec.{T}
use lib.Ieee.{Float, nan, inf, fin, up, down, binary64, fits, to_bits, of_bits, of_fields, odd, le, lt, eq, neg, size, span, climb}
use lib.Ieee.Fits.{up_pos, and_l}
use lib.Ieee.Scale.{finite}
use Rattle.number.specs.Ans.{Ans, held, refused, ◌>>=◌, demand}
use Rattle.number.specs.Frac.{Frac, le_f, lt_f, zero_f, val_f}
use Rattle.number.proofs.Frac.{val_f_pos}
use Rattle.number.specs.Domain.{ln_inside, ln1p_inside, exp_inside, tanh_inside, base_inside, exponent_inside}
use Rattle.series.specs.Exact.{LnValue, Ln1pValue, ExpValue, ExpM1Value, TanhValue, PowerValue}
use Rattle.series.specs.Distance.{within}
use Rattle.series.proofs.Close.{Close}
use Rattle.root.specs.Root.{positive_root, root}
use Rattle.root.proofs.Correct.{nearest}
use Rattle.logarithm.specs.Logarithm.{ln_of, value1p, ln1p_of}
use Rattle.logarithm.proofs.LnNear.{ln_near}
use Rattle.logarithm.proofs.PlusNear.{ln_1p_near}
use Rattle.logarithm.proofs.Values.{ln_one}
use Rattle.logarithm.proofs.Exists.{ln_has_value, ln_1p_has_value}
use Rattle.exponential.specs.Exp.{exp_of}
use Rattle.exponential.specs.ExpM1.{exp_m1_of}
use Rattle.exponential.specs.Tanh.{tanh_of}
use Rattle.exponential.proofs.ExpNear.{exp_distance}
use Rattle.exponential.proofs.M1Distance.{exp_m1_distance}
use Rattle.exponential.proofs.TanhDistance.{tanh_distance}
use Rattle.exponential.proofs.Zeros.{exp_m1_zero, tanh_zero}
use Rattle.power.specs.Power.{powf_of}
use Rattle.power.proofs.Corners.{exponent_zero, exponent_minus_zero, exponent_one, base_one}
use Rattle.power.proofs.Distance.{power_distance, power_distance_50}
use Rattle.power.proofs.Exists.{exp_has_value, power_has_value}
use Rattle.elementary.specs.Port.{port}
use Rattle.elementary.specs.Promised.{Keeps, ZeroStays, SqrtAt, LnAt, Ln1pAt, ExpAt, ExpM1At, TanhAt, PowfAt, Promised}
use Rattle.elementary.proofs.Exists.{exp_m1_has_value, tanh_has_value}

-- ---- a function that tests its domain and then answers
outside_of : (t : Bool) (v : Float) → T (not t) → cond t (held v) (refused 6) ≡ refused 6
outside_of true v h = elim h [ ]
outside_of false v h = refl

inside_of : (t : Bool) (v : Float) → T t → cond t (held v) (refused 6) ≡ held v
inside_of false v h = elim h [ ]
inside_of true v h = refl

-- what is held lies close to every value, and there is one: so it is finite, too
module _ (Distance : Frac → Frac → Type 0) (t : Bool) (Value : Frac → Type 0) (a : Ans Float) (v : Float) where
  keeps_of : (T (not t) → a ≡ refused 6) → (T t → a ≡ held v) → (T t → (e : Frac) × Value e) → (a ≡ held v → (e : Frac) → Value e → Close Distance v e) → Keeps t Value Distance a
  keeps_of o i w c = record { outside = o; inside = λ h. (v, i h, (c (i h) (w h).0 (w h).1).0, λ e u. (c (i h) e u).1); value = w }

  tested : a ≡ cond t (held v) (refused 6) → (T t → (e : Frac) × Value e) → (a ≡ held v → (e : Frac) → Value e → Close Distance v e) → Keeps t Value Distance a
  tested q w c = keeps_of (λ h. q ∙ outside_of t v h) (λ h. q ∙ inside_of t v h) w c

-- an argument that the law knows
moved : (f : Float → Ans Float) (x y z : Float) → f y ≡ held z → x ≡ y → f x ≡ held z
moved f x y z h p = ap f p ∙ h

stays : (f : Float → Ans Float) → ((minus : Bool) → f (fin minus 0 (pos 0)) ≡ held (fin minus 0 (pos 0))) → (x : Float) → ZeroStays x (f x)
stays f h x minus p = ap f p ∙ h minus ∙ ap held (sym p)

ln_at : (x : Float) → T (fits binary64 x) → LnAt x (ln_of x)
unfolding ln_of
ln_at x f = (tested _ (ln_inside x) (LnValue (val_f x)) (ln_of x) _ refl (ln_has_value x f) (λ h e u. ln_near x f _ h e u), moved ln_of x _ _ ln_one)

ln1p_zero : (minus : Bool) → ln1p_of (fin minus 0 (pos 0)) ≡ held (fin minus 0 (pos 0))
unfolding ln1p_of value1p to_bits of_bits of_fields odd le lt eq neg size span climb
ln1p_zero false = refl
ln1p_zero true = refl

ln1p_at : (x : Float) → T (fits binary64 x) → Ln1pAt x (ln1p_of x)
unfolding ln1p_of
ln1p_at x f = (tested _ (ln1p_inside x) (Ln1pValue (val_f x)) (ln1p_of x) _ refl (ln_1p_has_value x f) (λ h e u. ln_1p_near x f _ h e u), stays ln1p_of ln1p_zero x)

exp_at : (x : Float) → T (fits binary64 x) → ExpAt x (exp_of x)
unfolding exp_of
exp_at x f = tested _ (exp_inside x) (ExpValue (val_f x)) (exp_of x) _ refl (λ _. let e = exp_has_value (val_f x) (val_f_pos x) in (e.0, e.1)) (λ h e u. exp_distance x _ e f h u)

expm1_at : (x : Float) → T (fits binary64 x) → ExpM1At x (exp_m1_of x)
unfolding exp_m1_of
expm1_at x f = (tested _ (exp_inside x) (ExpM1Value (val_f x)) (exp_m1_of x) _ refl (λ _. exp_m1_has_value (val_f x) (val_f_pos x)) (λ h e u. exp_m1_distance x _ e f h u), stays exp_m1_of exp_m1_zero x)

tanh_at : (x : Float) → T (fits binary64 x) → TanhAt x (tanh_of x)
unfolding tanh_of
tanh_at x f = (tested _ (tanh_inside x) (TanhValue (val_f x)) (tanh_of x) _ refl (λ _. tanh_has_value (val_f x) (val_f_pos x)) (λ h e u. tanh_distance x _ e f h u), stays tanh_of tanh_zero x)

-- ---- the power, with both tests
two_outside : (s t : Bool) (v : Float) → T (not (s && t)) → (demand 6 s >>= λ _. demand 6 t >>= λ _. held v) ≡ refused 6
unfolding demand ◌>>=◌
two_outside false t v h = refl
two_outside true true v h = elim h [ ]
two_outside true false v h = refl

two_inside : (s t : Bool) (v : Float) → T (s && t) → (demand 6 s >>= λ _. demand 6 t >>= λ _. held v) ≡ held v
unfolding demand ◌>>=◌
two_inside false t v h = elim h [ ]
two_inside true false v h = elim h [ ]
two_inside true true v h = refl

powf_keeps : (x y : Float) → T (fits binary64 x) → T (fits binary64 y) → Keeps (base_inside x && exponent_inside y) (PowerValue (val_f x) (val_f y)) (within (2 ^ 48)) (powf_of x y)
unfolding powf_of
powf_keeps x y f g =
    keeps_of _ (base_inside x && exponent_inside y) (PowerValue (val_f x) (val_f y)) (powf_of x y) _
    (two_outside (base_inside x) (exponent_inside y) _)
    (two_inside (base_inside x) (exponent_inside y) _)
    (λ h. power_has_value x y f (and_l (base_inside x) (exponent_inside y) h))
    (λ h e u. power_distance x y _ e f g h u)

powf_by_zero : (x : Float) → T (base_inside x) → (minus : Bool) → powf_of x (fin minus 0 (pos 0)) ≡ held (of_bits binary64 0x3ff0_0000_0000_0000)
unfolding of_bits of_fields odd
powf_by_zero x h false = exponent_zero x h
powf_by_zero x h true = exponent_minus_zero x h

powf_at : (x y : Float) → T (fits binary64 x) → T (fits binary64 y) → PowfAt x y (powf_of x y)
powf_at x y f g = record {
  keeps = powf_keeps x y f g;
  by_zero = λ h minus p. ap (powf_of x) p ∙ powf_by_zero x h minus;
  by_one = λ h p. ap (powf_of x) p ∙ exponent_one x h;
  of_one = λ h p. ap (λ (z : Float). powf_of z y) p ∙ base_one y h;
  else_50 = λ other r v h u. power_distance_50 x y r v f g other h u;
}

-- ---- the root
root_not_finite : (x : Float) → T (not (finite x)) → root x ≡ refused 6
unfolding root
root_not_finite nan h = refl
root_not_finite (inf s) h = refl
root_not_finite (fin s m e) h = absurd h

root_below : (x : Float) → T (finite x) → lt_f (val_f x) zero_f → root x ≡ refused 6
unfolding root
root_below nan f h = absurd f
root_below (inf s) f h = absurd f
root_below (fin false zero e) f h = absurd (none (0 * up e) (down e) h)
  where
    none : (n d : ℕ) → n * 1 + 0 * d < 0 * d + 0 * 1 → ⊥
    none n d h = omega arith
root_below (fin true zero e) f h = absurd (none (up e) (down e) h)
  where
    none : (n d : ℕ) → 0 * 1 + 0 * d < 0 * d + 0 * n * 1 → ⊥
    none n d h = omega arith
root_below (fin true (suc m) e) f h = refl
root_below (fin false (suc m) e) f h = absurd (none (suc m * up e) (down e) h)
  where
    none : (n d : ℕ) → n * 1 + 0 * d < 0 * d + 0 * 1 → ⊥
    none n d h = omega arith

root_inside : (x : Float) → T (finite x) → le_f zero_f (val_f x) → (r : Float) × (root x ≡ held r)
unfolding root
root_inside nan f h = absurd f
root_inside (inf s) f h = absurd f
root_inside (fin s zero e) f h = (fin s zero e, refl)
root_inside (fin false (suc m) e) f h = (positive_root (suc m * up e * 2 ^ 1074 / down e), refl)
root_inside (fin true (suc m) e) f h = absurd (some (suc m * up e) (down e) (mul-pos (zero-lt-suc m) (up_pos e)) h)
  where
    some : (n d : ℕ) → 0 < n → 0 * d + n * 1 ≤ 0 * 1 + 0 * d → ⊥
    some n d p h = omega arith

root_zero : (minus : Bool) → root (fin minus 0 (pos 0)) ≡ held (fin minus 0 (pos 0))
unfolding root
root_zero minus = refl

root_at : (x : Float) → T (fits binary64 x) → SqrtAt x (root x)
root_at x f = record {
  not_finite = root_not_finite x;
  below = root_below x;
  inside = λ g h. let r = root_inside x g h in let n = nearest x r.0 f r.1 in (r.0, r.1, n.is_finite, n);
  zero = stays root root_zero x;
}

pub promised : Promised port
promised = record { sqrt = root_at; ln = ln_at; ln1p = ln1p_at; exp = exp_at; expm1 = expm1_at; tanh = tanh_at; powf = powf_at }
