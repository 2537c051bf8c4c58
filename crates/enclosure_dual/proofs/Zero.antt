-- A product with +0 has ends next to zero, where the other operand's ends are finite. Assumes nothing.
use Prim.Native.Nat.compare
use Prim.Native.Nat.{ℕ, zero, suc, ◌-◌, ◌*◌, ◌/◌, ◌%◌, ◌^◌, ◌<◌, compare}
use native.Mathlib.Nat.{zero-mul, mul-zero, mul-one, zero-div, zero-mod, lt_irrefl, mul-pos}
use mathlib.Core.Path.{◌≡◌, refl}
use mathlib.Core.Bool.{Bool, true, false, ◌&&◌, false≢true, and-true}
use lib.IntN.{ℤ, pos}
use lib.Ieee as Ieee
use lib.Ieee.{Float, nan, inf, fin, binary64, of_bits, to_bits, round, units, odd, size, span, climb, nearest, low, up, down, unlike, lt, fits}
use lib.Ieee.Fits.{down_pos}
use lib.Ieee.Scale.{finite}
use Rattle.number.specs.Arith.{zero64}
use Rattle.number.specs.Neighbour.{next_up, next_down, step_up, step_down, least, greatest}
use Rattle.interval.specs.Interval as Interval
use Rattle.interval.specs.Interval.{mul_i, around, outward}
use Rattle.interval.specs.declared.Interval.{Interval}
use Rattle.enclosure.specs.declared.Enclosure.{Enclosure}
use Rattle.enclosure.specs.Enclosure.{mul_e, point}
use Rattle.enclosure_dual.specs.Value.{about_zero}

abbrev zero_of : Bool → Float
zero_of s = fin s 0 (pos 0)

-- rounding's last step, at 0
step : (s : Bool) (u v n k : ℕ) → n ≡ 0 → k ≡ 0 → u ≡ suc v → units binary64 s (nearest (n / u) (compare (n % u * 2) u)) k ≡ zero_of s
unfolding units odd
step s u v n k p q r = rw (p, q, r, zero-div, zero-mod, compare.zero-suc)

none : (t s : Bool) (num den : ℕ) → t ≡ s → num ≡ 0 → 0 < den → round binary64 t num den ≡ zero_of s
unfolding round size span climb
none t s num zero p q h = absurd (lt_irrefl 0 h)
none t s num (suc d) p q h =
    let n : num * 2 ^ low binary64 ≡ 0 = rw (q, zero-mul) in
    let k : size (num * 2 ^ low binary64 / suc d) - 53 ≡ 0 = rw (n, zero-div) in
    let u : suc d * 2 ^ (size (num * 2 ^ low binary64 / suc d) - 53) ≡ suc d = rw (k, mul-one) in
    rw (← p) (step t _ d _ _ n k u)

like : (s : Bool) → unlike s false ≡ s
like true = refl
like false = refl

like' : (s : Bool) → unlike false s ≡ s
like' true = refl
like' false = refl

right : (s : Bool) (m : ℕ) (e : ℤ) → Ieee.mul binary64 (fin s m e) zero64 ≡ zero_of s
unfolding Ieee.mul of_bits round
right s m e = none (unlike s false) s (m * up e * (0 * up (pos 0))) (down e * down (pos 0)) (like s) (mul-zero _) (mul-pos (down_pos e) (down_pos (pos 0)))

left : (s : Bool) (m : ℕ) (e : ℤ) → Ieee.mul binary64 zero64 (fin s m e) ≡ zero_of s
unfolding Ieee.mul of_bits round
left s m e = none (unlike false s) s (0 * up (pos 0) * (m * up e)) (down (pos 0) * down e) (like' s) (zero-mul _) (mul-pos (down_pos (pos 0)) (down_pos e))

least_zero : (s t : Bool) → least (zero_of s) (zero_of t) ≡ zero_of s
unfolding least lt
least_zero true true = refl
least_zero true false = refl
least_zero false true = refl
least_zero false false = refl

greatest_zero : (s t : Bool) → greatest (zero_of s) (zero_of t) ≡ zero_of s
unfolding greatest lt
greatest_zero true true = refl
greatest_zero true false = refl
greatest_zero false true = refl
greatest_zero false false = refl

moved : (g s : Bool) → outward g (zero_of s) (zero_of s) ≡ about_zero g
unfolding outward about_zero next_down next_up step_down step_up to_bits of_bits
moved true true = refl
moved true false = refl
moved false true = refl
moved false false = refl

zeros : (g a b c d : Bool) → around g (zero_of a) (zero_of b) (zero_of c) (zero_of d) ≡ about_zero g
unfolding around
zeros g a b c d = rw (least_zero a b, least_zero c d, least_zero a c, greatest_zero a b, greatest_zero c d, greatest_zero a c) (moved g a)

module _ (g : Bool) where
  right_ends : (l u : Float) → (finite l && finite u) ≡ true → mul_i (record { lower = l; upper = u; sound = g }) (Interval.point zero64) ≡ about_zero g
  unfolding mul_i Interval.point of_bits fits
  right_ends nan u h = absurd (false≢true h)
  right_ends (inf s) u h = absurd (false≢true h)
  right_ends (fin s m e) nan h = absurd (false≢true h)
  right_ends (fin s m e) (inf t) h = absurd (false≢true h)
  right_ends (fin s m e) (fin t n d) h = rw (right s m e, right t n d, and-true g) (zeros g s s t t)

  left_ends : (l u : Float) → (finite l && finite u) ≡ true → mul_i (Interval.point zero64) (record { lower = l; upper = u; sound = g }) ≡ about_zero g
  unfolding mul_i Interval.point of_bits fits
  left_ends nan u h = absurd (false≢true h)
  left_ends (inf s) u h = absurd (false≢true h)
  left_ends (fin s m e) nan h = absurd (false≢true h)
  left_ends (fin s m e) (inf t) h = absurd (false≢true h)
  left_ends (fin s m e) (fin t n d) h = rw (left s m e, left t n d) (zeros g s t s t)

module _ (x : Enclosure) {a b : Bool} (p : a ≡ finite x.ends.lower) (q : b ≡ finite x.ends.upper) (h : (a && b) ≡ true) where
  pub right_is : {e : Interval} → e ≡ about_zero x.ends.sound → record { value = Ieee.mul binary64 x.value zero64; ends = e } ≡ mul_e x (point zero64)
  unfolding mul_e point
  right_is r = rw (r, ← right_ends x.ends.sound x.ends.lower x.ends.upper (rw (p, q) at h))

  pub left_is : {e : Interval} → e ≡ about_zero x.ends.sound → record { value = Ieee.mul binary64 zero64 x.value; ends = e } ≡ mul_e (point zero64) x
  unfolding mul_e point
  left_is r = rw (r, ← left_ends x.ends.sound x.ends.lower x.ends.upper (rw (p, q) at h))
