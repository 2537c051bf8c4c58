-- Patterns of floats, a NaN's among them. Assumes nothing.
use Rattle.std.proofs.Common.{◌≡◌, ℕ, ◌*◌, ◌%◌, ◌<◌, Bool, true, false, not, eqb, ltb, sym, refl, ◌∙◌, true≢false, lt→ltb}
use lib.Ieee.{Float, nan, inf, fin, binary64, is_nan, eq, level, up, down, of_bits, to_bits}
use lib.Ieee.Fits.{eq→eqb}
use lib.Ieee.Bits.{is_true, nan_bits_is, nan_bits_above}

-- a NaN is all that is one
the_nan : (x : Float) → is_nan x ≡ true → nan ≡ x
unfolding is_nan
the_nan nan h = refl
the_nan (inf s) h = absurd (true≢false (sym h))
the_nan (fin s m e) h = absurd (true≢false (sym h))

pub nan_read : (n : ℕ) → 0x7ff0_0000_0000_0000 < n % 0x8000_0000_0000_0000 → nan ≡ of_bits binary64 n
nan_read n h = the_nan (of_bits binary64 n) (sym (nan_bits_is binary64 n) ∙ nan_bits_above binary64 n ∙ is_true (ltb 0x7ff0_0000_0000_0000 (n % 0x8000_0000_0000_0000)) (lt→ltb _ _ h))

self : (s : Bool) (a : ℕ) → level s a s a ≡ true
self true a = let e : eqb a a ≡ true = is_true (eqb a a) (eq→eqb {a = a} refl) in rw e
self false a = let e : eqb a a ≡ true = is_true (eqb a a) (eq→eqb {a = a} refl) in rw e

-- what does not equal itself is a NaN
pub own_no : (x : Float) → eq x x ≡ false → 0x7ff8_0000_0000_0000 ≡ to_bits binary64 x
unfolding eq to_bits
own_no nan h = refl
own_no (inf true) h = absurd (true≢false h)
own_no (inf false) h = absurd (true≢false h)
own_no (fin s m e) h = absurd (true≢false (sym (self s (m * up e * down e)) ∙ h))

pub own_is : (x : Float) → eq x x ≡ not (is_nan x)
unfolding eq is_nan
own_is nan = refl
own_is (inf true) = refl
own_is (inf false) = refl
own_is (fin s m e) = self s (m * up e * down e)
