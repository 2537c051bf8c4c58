-- Where a finite f64 stands in the row of all of them: its rank, a natural number that grows with its value. Assumes nothing.
use Rattle.std.proofs.Common.{◌≡◌, ℕ, zero, suc, ◌+◌, ◌-◌, ◌*◌, ◌<◌, ◌≤◌, Bool, true, false, cond, not, T, ◌⊎◌, ℤ, pos, sym, refl, ap, ◌∙◌, subst, inl, inr, lt_irrefl, eq-zero-or-pos, mul-pos, not-le_of_lt, arith}
use lib.Ieee.{Float, nan, inf, fin, binary64, up, down, fits, is_nan, to_bits, of_bits}
use lib.Ieee.Fits.{down_pos}
use lib.Ieee.Bits.{to_bits-of_bits, of_bits-fits}
use lib.Ieee.Scale.{finite}
use Rattle.number.specs.Frac.{le_f, lt_f, val_f}
use Rattle.number.proofs.Frac.{le_or_lt}
use Rattle.number.proofs.Units.{mag_bits, in_units, known, bits_are, mag_under, further, more_bits}

-- the bits below the sign
unfoldable pub mag : ℕ → ℤ → ℕ
mag m e = mag_bits binary64 (in_units binary64 m e)

-- zero has rank 2^63
abbrev pub place : Bool → ℕ → ℕ
place false M = 0x8000_0000_0000_0000 + M
place true M = 0x8000_0000_0000_0000 - M

abbrev pub rank : Float → ℕ
rank nan = 0
rank (inf s) = 0
rank (fin s m e) = place s (mag m e)

pub mag_inf : (s : Bool) (m : ℕ) (e : ℤ) → T (fits binary64 (fin s m e)) → mag m e < 0x7ff0_0000_0000_0000
unfolding mag
mag_inf s m e p = mag_under binary64 (in_units binary64 m e) (known binary64 s m e p).under

pub bits64 : (s : Bool) (m : ℕ) (e : ℤ) → to_bits binary64 (fin s m e) ≡ cond s 0x8000_0000_0000_0000 0 + mag m e
unfolding mag
bits64 s m e = bits_are binary64 s m e

-- ---- the order of magnitudes
turned : (s t : Bool) (m : ℕ) (e : ℤ) → T (fits binary64 (fin s m e)) → T (fits binary64 (fin t m e))
unfolding fits
turned s t zero e p = p
turned s t (suc m) e p = p

mag_lt : (s t : Bool) (m n : ℕ) (e d : ℤ) → T (fits binary64 (fin s m e)) → T (fits binary64 (fin t n d)) → m * up e * down d < n * up d * down e → mag m e < mag n d
unfolding mag
mag_lt s t m n e d p q = more_bits binary64 s m n e d p (turned t s n d q)

lt_mag : (s t : Bool) (m n : ℕ) (e d : ℤ) → T (fits binary64 (fin s m e)) → T (fits binary64 (fin t n d)) → mag m e < mag n d → m * up e * down d < n * up d * down e
unfolding mag
lt_mag s t m n e d p q = further binary64 s m n e d p (turned t s n d q)

mag_zero : mag 0 (pos 0) ≡ 0
unfolding mag lib.Ieee.size
mag_zero = refl

zero_fits : T (fits binary64 (fin false 0 (pos 0)))
unfolding fits
zero_fits = tt

mag_pos : (s : Bool) (m : ℕ) (e : ℤ) → T (fits binary64 (fin s m e)) → 0 < m * up e → 0 < mag m e
mag_pos s m e p h = subst (λ (x : ℕ). x < mag m e) mag_zero (mag_lt false s 0 m (pos 0) e zero_fits p (omega arith))

pos_mag : (s : Bool) (m : ℕ) (e : ℤ) → T (fits binary64 (fin s m e)) → 0 < mag m e → 0 < m * up e
pos_mag s m e p h = let k = lt_mag false s 0 m (pos 0) e zero_fits p (subst (λ (x : ℕ). x < mag m e) (sym mag_zero) h) in omega arith

-- ---- the order of ranks
module _ (s t : Bool) (m n : ℕ) (e d : ℤ) (p : T (fits binary64 (fin s m e))) (q : T (fits binary64 (fin t n d))) where
  abbrev X : ℕ
  X = m * up e

  abbrev Y : ℕ
  Y = n * up d

  one_of : 0 < Y * down e + X * down d → (0 < X) ⊎ (0 < Y)
  one_of h = go (eq-zero-or-pos X) (eq-zero-or-pos Y)
    where
      none : X ≡ 0 → Y ≡ 0 → ⊥
      none x y = lt_irrefl 0 (subst (λ (z : ℕ). 0 < z) (ap (λ (z : ℕ). z * down e + X * down d) y ∙ ap (λ (z : ℕ). 0 * down e + z * down d) x ∙ nought (down e) (down d)) h)
        where
          nought : (a b : ℕ) → 0 * a + 0 * b ≡ 0
          nought a b = omega arith

      go : (X ≡ 0) ⊎ (0 < X) → (Y ≡ 0) ⊎ (0 < Y) → (0 < X) ⊎ (0 < Y)
      go (inl x) (inl y) = absurd (none x y)
      go (inr x) y = inl x
      go (inl x) (inr y) = inr y

fin_rank_lt : (s t : Bool) (m n : ℕ) (e d : ℤ) → T (fits binary64 (fin s m e)) → T (fits binary64 (fin t n d)) → lt_f (val_f (fin s m e)) (val_f (fin t n d)) → rank (fin s m e) < rank (fin t n d)
fin_rank_lt false false m n e d p q h = let k = mag_lt false false m n e d p q (omega arith) in omega arith
fin_rank_lt true true m n e d p q h = let k = mag_lt true true n m d e q p (omega arith) in let l = mag_inf true m e p in omega arith
fin_rank_lt false true m n e d p q h = absurd (omega arith)
fin_rank_lt true false m n e d p q h = go (one_of true false m n e d p q (omega arith))
  where
    l : mag m e < 0x7ff0_0000_0000_0000
    l = mag_inf true m e p

    go : (0 < m * up e) ⊎ (0 < n * up d) → rank (fin true m e) < rank (fin false n d)
    go (inl x) = let k = mag_pos true m e p x in let i = l in omega arith
    go (inr y) = let k = mag_pos false n d q y in let i = l in omega arith

fin_lt_rank : (s t : Bool) (m n : ℕ) (e d : ℤ) → T (fits binary64 (fin s m e)) → T (fits binary64 (fin t n d)) → rank (fin s m e) < rank (fin t n d) → lt_f (val_f (fin s m e)) (val_f (fin t n d))
fin_lt_rank false false m n e d p q h = let k = lt_mag false false m n e d p q (omega arith) in omega arith
fin_lt_rank true true m n e d p q h = let l = mag_inf true n d q in let k = lt_mag true true n m d e q p (omega arith) in omega arith
fin_lt_rank false true m n e d p q h = absurd (omega arith)
fin_lt_rank true false m n e d p q h = go (eq-zero-or-pos (mag m e))
  where
    go : (mag m e ≡ 0) ⊎ (0 < mag m e) → lt_f (val_f (fin true m e)) (val_f (fin false n d))
    go (inl z) = let k = mul-pos (pos_mag false n d q (omega arith)) (down_pos e) in omega arith
    go (inr z) = let k = mul-pos (pos_mag true m e p z) (down_pos d) in omega arith

pub rank_lt : (x y : Float) → T (fits binary64 x) → T (finite x) → T (fits binary64 y) → T (finite y) → lt_f (val_f x) (val_f y) → rank x < rank y
rank_lt nan y p t q u h = absurd t
rank_lt (inf s) y p t q u h = absurd t
rank_lt (fin s m e) nan p t q u h = absurd u
rank_lt (fin s m e) (inf r) p t q u h = absurd u
rank_lt (fin s m e) (fin r n d) p t q u h = fin_rank_lt s r m n e d p q h

pub lt_rank : (x y : Float) → T (fits binary64 x) → T (finite x) → T (fits binary64 y) → T (finite y) → rank x < rank y → lt_f (val_f x) (val_f y)
lt_rank nan y p t q u h = absurd t
lt_rank (inf s) y p t q u h = absurd t
lt_rank (fin s m e) nan p t q u h = absurd u
lt_rank (fin s m e) (inf r) p t q u h = absurd u
lt_rank (fin s m e) (fin r n d) p t q u h = fin_lt_rank s r m n e d p q h

pub le_rank : (x y : Float) → T (fits binary64 x) → T (finite x) → T (fits binary64 y) → T (finite y) → rank x ≤ rank y → le_f (val_f x) (val_f y)
le_rank x y p t q u h = go (le_or_lt (val_f x) (val_f y))
  where
    go : le_f (val_f x) (val_f y) ⊎ lt_f (val_f y) (val_f x) → le_f (val_f x) (val_f y)
    go (inl k) = k
    go (inr k) = absurd (not-le_of_lt (rank_lt y x q u p t k) h)

-- ---- the rank of what is read from a sign and a magnitude
pub finite_no_nan : (x : Float) → T (finite x) → T (not (is_nan x))
unfolding is_nan
finite_no_nan nan t = absurd t
finite_no_nan (inf s) t = absurd t
finite_no_nan (fin s m e) t = tt

small_sign : (t : Bool) (v : ℕ) → v < 0x8000_0000_0000_0000 → cond t 0x8000_0000_0000_0000 0 + v < 0x1_0000_0000_0000_0000
small_sign true v h = omega arith
small_sign false v h = omega arith

pub rank_read : (t : Bool) (v : ℕ) → v < 0x8000_0000_0000_0000 → T (finite (of_bits binary64 (cond t 0x8000_0000_0000_0000 0 + v))) → rank (of_bits binary64 (cond t 0x8000_0000_0000_0000 0 + v)) ≡ place t v
rank_read t v h w = go (of_bits binary64 b) refl
  where
    b : ℕ
    b = cond t 0x8000_0000_0000_0000 0 + v

    back : to_bits binary64 (of_bits binary64 b) ≡ b
    back = to_bits-of_bits binary64 b (small_sign t v h) (finite_no_nan (of_bits binary64 b) w)

    same : (s t : Bool) (a : ℕ) → a < 0x7ff0_0000_0000_0000 → cond s 0x8000_0000_0000_0000 0 + a ≡ cond t 0x8000_0000_0000_0000 0 + v → place s a ≡ place t v
    same true true a l q = omega arith
    same false false a l q = omega arith
    same true false a l q = absurd (omega arith)
    same false true a l q = absurd (omega arith)

    go : (y : Float) → of_bits binary64 b ≡ y → rank (of_bits binary64 b) ≡ place t v
    go nan q = absurd (subst (λ (z : Float). T (finite z)) q w)
    go (inf s) q = absurd (subst (λ (z : Float). T (finite z)) q w)
    go (fin s m d) q =
        let f : T (fits binary64 (fin s m d)) = subst (λ (z : Float). T (fits binary64 z)) q (of_bits-fits binary64 b) in
        ap rank q ∙ same s t (mag m d) (mag_inf s m d f) (sym (bits64 s m d) ∙ ap (to_bits binary64) (sym q) ∙ back)
