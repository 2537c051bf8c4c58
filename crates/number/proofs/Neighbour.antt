-- The neighbour above is the least f64 above, the one below the greatest below: a step changes the rank by one. Assumes nothing.
use Rattle.std.proofs.Common.{◌≡◌, ℕ, zero, suc, ◌+◌, ◌-◌, ◌%◌, ◌<◌, ◌≤◌, Bool, true, false, cond, not, T, ℤ, sym, refl, ap, ◌∙◌, subst, true≢false, le_trans, le_of_eq, arith, lt-ltb, le-ltb, ne_eqb}
use lib.Ieee.{Float, nan, inf, fin, binary64, fits, nan_bits, to_bits, of_bits}
use lib.Ieee.Bits.{of_bits-fits}
use lib.Ieee.Fits.{nan-fits, inf-fits}
use lib.Ieee.Scale.{finite}
use Rattle.number.specs.Frac.{le_f, lt_f, val_f}
use Rattle.number.specs.Neighbour.{step_up, step_down, next_up, next_down}
use Rattle.std.proofs.lemmas.Float.{not_nan_f64_bits}
use Rattle.number.proofs.Rank.{mag, place, rank, mag_inf, bits64, rank_lt, lt_rank, le_rank, rank_read}

-- ---- the cases of the two steps
pub up_below : (b : ℕ) → b < 0x8000_0000_0000_0000 → step_up b ≡ b + 1
unfolding step_up
up_below b h = rw (lt-ltb b 0x8000_0000_0000_0000 h)

pub up_zero : step_up 0x8000_0000_0000_0000 ≡ 1
unfolding step_up
up_zero = refl

pub up_onto_zero : step_up 0x8000_0000_0000_0001 ≡ 0
unfolding step_up
up_onto_zero = refl

pub up_above : (b : ℕ) → 0x8000_0000_0000_0001 < b → step_up b ≡ b - 1
unfolding step_up
up_above b h = rw (le-ltb b 0x8000_0000_0000_0000 (omega arith), ne_eqb b 0x8000_0000_0000_0000 (λ e. omega arith), ne_eqb b 0x8000_0000_0000_0001 (λ e. omega arith))

pub down_above : (b : ℕ) → 0x8000_0000_0000_0000 < b → step_down b ≡ b + 1
unfolding step_down
down_above b h = rw (lt-ltb 0x8000_0000_0000_0000 b h)

pub down_zero : step_down 0 ≡ 0x8000_0000_0000_0001
unfolding step_down
down_zero = refl

pub down_minus_zero : step_down 0x8000_0000_0000_0000 ≡ 0x8000_0000_0000_0001
unfolding step_down
down_minus_zero = refl

pub down_below : (b : ℕ) → 0 < b → b < 0x8000_0000_0000_0000 → step_down b ≡ b - 1
unfolding step_down
down_below b g h = rw (le-ltb 0x8000_0000_0000_0000 b (omega arith), ne_eqb b 0x8000_0000_0000_0000 (λ e. omega arith), ne_eqb b 0 (λ e. omega arith))

-- ---- what a step leaves: a pattern that is no NaN's, at rank r
record Stepped (b r : ℕ) : Type 0 where
  pub sign : Bool
  pub magnitude : ℕ
  pub is : b ≡ cond sign 0x8000_0000_0000_0000 0 + magnitude
  pub small : magnitude ≤ 0x7ff0_0000_0000_0000
  pub stands : place sign magnitude ≡ r

up_steps : (s : Bool) (M : ℕ) → M < 0x7ff0_0000_0000_0000 → Stepped (step_up (cond s 0x8000_0000_0000_0000 0 + M)) (suc (place s M))
up_steps false M h = record { sign = false; magnitude = M + 1; is = up_below (0 + M) (omega arith) ∙ omega arith; small = omega arith; stands = omega arith }
up_steps true zero h = record { sign = false; magnitude = 1; is = up_zero; small = omega arith; stands = refl }
up_steps true (suc zero) h = record { sign = false; magnitude = 0; is = up_onto_zero; small = omega arith; stands = refl }
up_steps true (suc (suc M)) h = record { sign = true; magnitude = suc M; is = up_above (0x8000_0000_0000_0000 + suc (suc M)) (omega arith) ∙ omega arith; small = omega arith; stands = omega arith }

down_steps : (s : Bool) (M : ℕ) → M < 0x7ff0_0000_0000_0000 → Stepped (step_down (cond s 0x8000_0000_0000_0000 0 + M)) (place s M - 1)
down_steps false zero h = record { sign = true; magnitude = 1; is = down_zero; small = omega arith; stands = refl }
down_steps false (suc M) h = record { sign = false; magnitude = M; is = down_below (0 + suc M) (omega arith) (omega arith) ∙ omega arith; small = omega arith; stands = omega arith }
down_steps true zero h = record { sign = true; magnitude = 1; is = down_minus_zero; small = omega arith; stands = refl }
down_steps true (suc M) h = record { sign = true; magnitude = suc M + 1; is = down_above (0x8000_0000_0000_0000 + suc M) (omega arith) ∙ omega arith; small = omega arith; stands = omega arith }

-- what is read from it
stepped_rank : (b r : ℕ) → Stepped b r → T (finite (of_bits binary64 b)) → rank (of_bits binary64 b) ≡ r
stepped_rank b r k w =
    let e = ap (of_bits binary64) k.is in
    let small : k.magnitude < 0x8000_0000_0000_0000 = le_trans (lift k.small) (omega arith) in
    ap rank e ∙ rank_read k.sign k.magnitude small (subst (λ (z : Float). T (finite z)) e w) ∙ k.stands
  where
    lift : {a : ℕ} → a ≤ 0x7ff0_0000_0000_0000 → suc a ≤ 0x7ff0_0000_0000_0001
    lift h = omega arith

no_nan : (t : Bool) (v : ℕ) → v ≤ 0x7ff0_0000_0000_0000 → T (not (nan_bits binary64 (cond t 0x8000_0000_0000_0000 0 + v)))
no_nan t v h = not_nan_f64_bits (cond t 0x8000_0000_0000_0000 0 + v) (rest t)
  where
    rest : (t : Bool) → (cond t 0x8000_0000_0000_0000 0 + v) % 0x8000_0000_0000_0000 ≤ 0x7ff0_0000_0000_0000
    rest true = omega arith
    rest false = omega arith

stepped_no_nan : (b r : ℕ) → Stepped b r → T (not (nan_bits binary64 b))
stepped_no_nan b r k = subst (λ (z : ℕ). T (not (nan_bits binary64 z))) (sym k.is) (no_nan k.sign k.magnitude k.small)

stepped_up : (s : Bool) (m : ℕ) (e : ℤ) → T (fits binary64 (fin s m e)) → Stepped (step_up (to_bits binary64 (fin s m e))) (suc (rank (fin s m e)))
stepped_up s m e p = subst (λ (b : ℕ). Stepped (step_up b) (suc (rank (fin s m e)))) (sym (bits64 s m e)) (up_steps s (mag m e) (mag_inf s m e p))

stepped_down : (s : Bool) (m : ℕ) (e : ℤ) → T (fits binary64 (fin s m e)) → Stepped (step_down (to_bits binary64 (fin s m e))) (rank (fin s m e) - 1)
stepped_down s m e p = subst (λ (b : ℕ). Stepped (step_down b) (rank (fin s m e) - 1)) (sym (bits64 s m e)) (down_steps s (mag m e) (mag_inf s m e p))

pub next_up_rank : (x : Float) → T (fits binary64 x) → T (finite x) → T (finite (next_up x)) → rank (next_up x) ≡ suc (rank x)
unfolding next_up
next_up_rank nan p t w = absurd t
next_up_rank (inf s) p t w = absurd t
next_up_rank (fin s m e) p t w = stepped_rank _ _ (stepped_up s m e p) w

rank_pos : (x : Float) → T (fits binary64 x) → T (finite x) → 0 < rank x
rank_pos nan p t = absurd t
rank_pos (inf s) p t = absurd t
rank_pos (fin false m e) p t = omega arith
rank_pos (fin true m e) p t = let l = mag_inf true m e p in omega arith

pub next_down_rank : (x : Float) → T (fits binary64 x) → T (finite x) → T (finite (next_down x)) → suc (rank (next_down x)) ≡ rank x
unfolding next_down
next_down_rank nan p t w = absurd t
next_down_rank (inf s) p t w = absurd t
next_down_rank (fin s m e) p t w = ap suc (stepped_rank _ _ (stepped_down s m e p) w) ∙ less (rank (fin s m e)) (rank_pos (fin s m e) p t)
  where
    less : (r : ℕ) → 0 < r → suc (r - 1) ≡ r
    less r h = omega arith

-- ---- the two neighbours fit, and a finite one is a finite value's
pub next_up_fits : (x : Float) → T (fits binary64 (next_up x))
unfolding next_up
next_up_fits nan = nan-fits binary64
next_up_fits (inf s) = inf-fits binary64 s
next_up_fits (fin s m e) = of_bits-fits binary64 (step_up (to_bits binary64 (fin s m e)))

pub next_down_fits : (x : Float) → T (fits binary64 (next_down x))
unfolding next_down
next_down_fits nan = nan-fits binary64
next_down_fits (inf s) = inf-fits binary64 s
next_down_fits (fin s m e) = of_bits-fits binary64 (step_down (to_bits binary64 (fin s m e)))

pub next_up_finite : (x : Float) → T (finite (next_up x)) → T (finite x)
unfolding next_up
next_up_finite nan t = t
next_up_finite (inf s) t = t
next_up_finite (fin s m e) t = tt

pub next_down_finite : (x : Float) → T (finite (next_down x)) → T (finite x)
unfolding next_down
next_down_finite nan t = t
next_down_finite (inf s) t = t
next_down_finite (fin s m e) t = tt

-- ---- strictly beyond, and nothing between
module _ (x : Float) (p : T (fits binary64 x)) (t : T (finite x)) where
  pub next_up_lt : T (finite (next_up x)) → lt_f (val_f x) (val_f (next_up x))
  next_up_lt w = lt_rank x (next_up x) p t (next_up_fits x) w (le_of_eq (sym (next_up_rank x p t w)))

  pub next_down_lt : T (finite (next_down x)) → lt_f (val_f (next_down x)) (val_f x)
  next_down_lt w = lt_rank (next_down x) x (next_down_fits x) w p t (le_of_eq (next_down_rank x p t w))

  module _ (y : Float) (q : T (fits binary64 y)) (u : T (finite y)) where
    pub next_up_least : T (finite (next_up x)) → lt_f (val_f x) (val_f y) → le_f (val_f (next_up x)) (val_f y)
    next_up_least w h = le_rank (next_up x) y (next_up_fits x) w q u (le_trans (le_of_eq (next_up_rank x p t w)) (rank_lt x y p t q u h))

    pub next_down_greatest : T (finite (next_down x)) → lt_f (val_f y) (val_f x) → le_f (val_f y) (val_f (next_down x))
    next_down_greatest w h = le_rank y (next_down x) q u (next_down_fits x) w (under (le_trans (rank_lt y x q u p t h) (le_of_eq (sym (next_down_rank x p t w)))))
      where
        under : {a b : ℕ} → suc a ≤ suc b → a ≤ b
        under h = omega arith

-- ---- what the code asks: the patterns stay in 64 bits, and no step makes a NaN's
pub bits_small : (x : Float) → T (fits binary64 x) → T (finite x) → to_bits binary64 x < 0xffff_ffff_ffff_ffff
bits_small nan p t = absurd t
bits_small (inf s) p t = absurd t
bits_small (fin false m e) p t = let l = mag_inf false m e p in omega (arith, bits64 false m e)
bits_small (fin true m e) p t = let l = mag_inf true m e p in omega (arith, bits64 true m e)

pub up_no_nan : (x : Float) → T (fits binary64 x) → T (finite x) → T (not (nan_bits binary64 (step_up (to_bits binary64 x))))
up_no_nan nan p t = absurd t
up_no_nan (inf s) p t = absurd t
up_no_nan (fin s m e) p t = stepped_no_nan _ _ (stepped_up s m e p)

pub down_no_nan : (x : Float) → T (fits binary64 x) → T (finite x) → T (not (nan_bits binary64 (step_down (to_bits binary64 x))))
down_no_nan nan p t = absurd t
down_no_nan (inf s) p t = absurd t
down_no_nan (fin s m e) p t = stepped_no_nan _ _ (stepped_down s m e p)

-- the two arms of the code
pub up_finite : (x : Float) → T (finite x) → of_bits binary64 (step_up (to_bits binary64 x)) ≡ next_up x
unfolding next_up
up_finite nan t = absurd t
up_finite (inf s) t = absurd t
up_finite (fin s m e) t = refl

pub up_other : (x : Float) → finite x ≡ false → x ≡ next_up x
unfolding next_up
up_other nan h = refl
up_other (inf s) h = refl
up_other (fin s m e) h = absurd (true≢false h)

pub down_finite : (x : Float) → T (finite x) → of_bits binary64 (step_down (to_bits binary64 x)) ≡ next_down x
unfolding next_down
down_finite nan t = absurd t
down_finite (inf s) t = absurd t
down_finite (fin s m e) t = refl

pub down_other : (x : Float) → finite x ≡ false → x ≡ next_down x
unfolding next_down
down_other nan h = refl
down_other (inf s) h = refl
down_other (fin s m e) h = absurd (true≢false h)
