-- Floats by their units: which a finite float has, which float a number of units is, and that an operation whose exact result is a float gives that float. Assumes nothing.
use mathlib.Core.Path.{◌≡◌, sym, ap, ◌∙◌, subst}
use mathlib.Core.Bool.{Bool, true, false, ◌&&◌}
use Prim.Native.Nat.{ℕ, zero, suc, ◌+◌, ◌-◌, ◌*◌, ◌/◌, ◌%◌, ◌^◌, ◌≤◌, ◌<◌}
use native.Mathlib.Nat.{le_of_lt, lt_of_not-le, zero-mul, zero-div, mul-div_cancel, mul-le-mul_right, le_of_mul-le-mul_right, mul-pos}
use native.Mathlib.Decide.{dec_le}
use native.Mathlib.Omega.{arith}
use lib.IntN.{ℤ}
use lib.Dec.{T, ltb, leb, eqb, ltb→lt, leb→le}
use lib.Pow.{pow-add, pow_pos}
use lib.Ieee.{Float, fin, Format, prec, emax, low, up, down, round, fits}
use lib.Ieee.Fits.{down_pos, and_l, and_r, round-fits}
use lib.Ieee.Exact.{HasValue, round_exact}
use lib.Ieee.Scale.{finite}
use Rattle.number.specs.Frac.{Frac, frac, Pos, le_f, sgn, val_f}
use Rattle.number.proofs.Frac.{ring}
use Rattle.number.proofs.Round.{Rounds, place, has_le, has_ge, has_finite, rounds_above, rounds_below, rounds_fits}
use Rattle.number.proofs.Finite.{rounds_finite}
use Rattle.number.proofs.Units.{in_units, known}
use Rattle.rounded_sum.specs.RoundedSum.{Same}
use Rattle.rounded_sum.proofs.Multiples.{Digits, held_zero}
use Rattle.rounded_sum.proofs.Nearest.{L, p, p_pos}
use Rattle.rounded_sum.proofs.Same.{same_trans}

-- below the infinities
abbrev pub Under : Format → ℕ → Type 0
Under f n = n < 2 ^ low f * 2 ^ suc (emax f)

module _ (f : Format) where
  -- ---- a finite float's units
  pub digits_of : (s : Bool) (m : ℕ) (e : ℤ) → T (fits f (fin s m e)) → Digits (p f) (in_units f m e)
  unfolding fits
  digits_of s zero e h =
      let z : 0 * up e * 2 ^ low f ≡ 0 = ap (λ (x : ℕ). x * 2 ^ low f) (zero-mul (up e)) ∙ zero-mul (2 ^ low f) in
      let u : in_units f 0 e ≡ 0 = ap (λ (x : ℕ). x / down e) z ∙ zero-div (down e) in
      subst (Digits (p f)) (sym u) (held_zero (p f) (p_pos f))
  digits_of s (suc m) e h =
      let A = eqb (suc m % 2) 1 in
      let B = ltb (suc m) (2 ^ prec f) in
      let C = leb (down e) (2 ^ low f) in
      let D = ltb (suc m * up e) (2 ^ suc (emax f) * down e) in
      let pl = place (low f) e (leb→le (down e) (2 ^ low f) (and_r (A && B) C (and_l (A && B && C) D h))) in
      record {
        digits = suc m;
        places = pl.0;
        few = ltb→lt (suc m) (2 ^ prec f) (and_r A B (and_l (A && B) C (and_l (A && B && C) D h)));
        is = ap (λ (x : ℕ). x / down e) (pl.1 (suc m)) ∙ mul-div_cancel (suc m * 2 ^ pl.0) (down_pos e);
      }

  same_units : (s : Bool) (X d n l : ℕ) → X * l ≡ n * d → Same (sgn s X d) (sgn s n l)
  same_units false X d n l e = (omega arith, omega arith)
  same_units true X d n l e = (omega arith, omega arith)

  pub units_of : (s : Bool) (m : ℕ) (e : ℤ) → T (fits f (fin s m e)) → Same (val_f (fin s m e)) (sgn s (in_units f m e) (L f))
  units_of s m e h = same_units s (m * up e) (down e) (in_units f m e) (L f) (known f s m e h).exact

  -- more units lie further from zero
  pub units_order : (s t : Bool) (m n : ℕ) (e d : ℤ) → T (fits f (fin s m e)) → T (fits f (fin t n d)) → n * up d * down e ≤ m * up e * down d → in_units f n d ≤ in_units f m e
  units_order s t m n e d h k l =
      go (n * up d) (down d) (m * up e) (down e) (in_units f n d) (in_units f m e) (L f) (down_pos d) (down_pos e) (known f t n d k).exact (known f s m e h).exact l
    where
      go : (Y b X c v u l : ℕ) → 0 < b → 0 < c → Y * l ≡ v * b → X * l ≡ u * c → Y * c ≤ X * b → v ≤ u
      go Y b X c v u l B C g h k =
          let a = simp ring at (mul-le-mul_right l k) in
          let g' = simp ring at (ap (λ (x : ℕ). x * c) g) in
          let h' = simp ring at (ap (λ (x : ℕ). x * b) h) in
          le_of_mul-le-mul_right {k = b * c} (simp ring (omega arith)) (mul-pos B C)

  -- ---- a float of the format that stands for q
  pub record Stands (q : Frac) : Type 0 where
    pub float : Float
    pub held : T (fits f float)
    pub whole : T (finite float)
    pub same : Same (val_f float) q

  one_sign_told : (s : Bool) (n : ℕ) → Digits (p f) n → Under f n → Stands (sgn s n (L f))
  one_sign_told s n d u =
      let v : HasValue (round f s n (L f)) s n (L f) =
      round_exact f s n (L f) d.digits d.places (pow_pos (low f)) d.few (subst (λ (x : ℕ). x < 2 ^ (low f + suc (emax f))) d.is (subst (λ (x : ℕ). n < x) (sym (pow-add 2 (low f) (suc (emax f)))) u)) (ap (λ (x : ℕ). x * L f) d.is) in
      record {
        float = round f s n (L f);
        held = round-fits f s n (L f);
        whole = has_finite (round f s n (L f)) s n (L f) v;
        same = (has_le (round f s n (L f)) s n (L f) v, has_ge (round f s n (L f)) s n (L f) v);
      }

  -- a difference of units, each way
  pub stands : (a b : ℕ) → Digits (p f) (a - b) → Digits (p f) (b - a) → Under f (a - b) → Under f (b - a) → Stands (frac a b (L f))
  stands a b d g u v = go (dec_le b a)
    where
      above : (a b l : ℕ) → b ≤ a → Same (sgn false (a - b) l) (frac a b l)
      above a b l h = let e = ap (λ (x : ℕ). x * l) (split a b h) in let e' = simp ring at e in (simp ring (omega arith), simp ring (omega arith))
        where
          split : (a b : ℕ) → b ≤ a → a ≡ b + (a - b)
          split a b h = omega arith

      below : (a b l : ℕ) → a ≤ b → Same (sgn true (b - a) l) (frac a b l)
      below a b l h = let e = ap (λ (x : ℕ). x * l) (split a b h) in let e' = simp ring at e in (simp ring (omega arith), simp ring (omega arith))
        where
          split : (a b : ℕ) → a ≤ b → b ≡ a + (b - a)
          split a b h = omega arith

      go : Dec (b ≤ a) → Stands (frac a b (L f))
      go (yes h) = turn (one_sign_told false (a - b) d u) (above a b (L f) h)
        where
          turn : Stands (sgn false (a - b) (L f)) → Same (sgn false (a - b) (L f)) (frac a b (L f)) → Stands (frac a b (L f))
          turn s k = record { float = s.float; held = s.held; whole = s.whole; same = same_trans (val_f s.float) (sgn false (a - b) (L f)) (frac a b (L f)) (pow_pos (low f)) s.same k }
      go (no h) = turn (one_sign_told true (b - a) g v) (below a b (L f) (le_of_lt (lt_of_not-le h)))
        where
          turn : Stands (sgn true (b - a) (L f)) → Same (sgn true (b - a) (L f)) (frac a b (L f)) → Stands (frac a b (L f))
          turn s k = record { float = s.float; held = s.held; whole = s.whole; same = same_trans (val_f s.float) (sgn true (b - a) (L f)) (frac a b (L f)) (pow_pos (low f)) s.same k }

  -- ---- a result that rounds q is q where the format holds q
  pub record Exactly (r : Float) (q : Frac) : Type 0 where
    pub held : T (fits f r)
    pub whole : T (finite r)
    pub same : Same (val_f r) q

  pub exactly : (r : Float) (q : Frac) → Pos q → Rounds f r q → Stands q → Exactly r q
  exactly r q Q x s =
      let u = s.float in
      let t = rounds_finite f r u u q x s.held s.whole s.held s.whole Q s.same.0 s.same.1 in
      let lo : le_f (val_f u) (val_f r) = rounds_above f r u q x t s.held s.whole Q s.same.0 in
      let hi : le_f (val_f r) (val_f u) = rounds_below f r u q x t s.held s.whole Q s.same.1 in
      record { held = rounds_fits f r q x; whole = t; same = same_trans (val_f r) (val_f u) q (Rattle.number.proofs.Frac.val_f_pos u) (hi, lo) s.same }
