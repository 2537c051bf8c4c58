-- `ilambda` at ratio 1: minus (1 - 1) over lambda - 3, which is not zero. Assumes nothing.
use Prim.Native.Nat.{ℕ, zero, suc, ◌+◌, ◌-◌, ◌*◌, ◌%◌, ◌^◌, ◌≤◌, ◌<◌}
use native.Mathlib.Nat.{le_trans, le_of_eq, le_refl, lt_irrefl, lt_of_not-le, eq-or-lt_of_le, one-mul, mul-one, zero-mul, mul-pos, mul-le-mul, zero-lt-suc}
use native.Mathlib.Decide.{dec_le}
use native.Mathlib.Omega.{arith}
use mathlib.Core.Path.{◌≡◌, refl, sym, ap, ◌∙◌, subst}
use mathlib.Core.Logic.{◌⊎◌, inl, inr}
use mathlib.Core.Bool.{Bool, true, false, not, ◌&&◌, cond}
use lib.Dec.{T, ltb, leb, eqb, eqb→eq, leb→le}
use borrow.Author.Tests.{ne_eqb, lt-ltb, le-ltb}
use lib.IntN.{ℤ, pos}
use lib.Pow.{pow_pos}
use lib.Ieee as Ieee
use lib.Ieee.{Float, nan, inf, fin, binary64, prec, emax, low, up, down, unlike, below, fits, lt, round, units, odd, sub, div}
use lib.Ieee.Fits.{round_is, down_pos, up_pos, and_l, and_r}
use lib.Ieee.Exact.{HasValue}
use lib.Ieee.Order.{drop, kept}
use lib.Ieee.Scale.{finite, grid, round_same}
use lib.Ieee.Back.{whole_unique}
use Rattle.number.specs.Ans.{held, refused, ◌>>=◌, demand}
use Rattle.number.specs.Arith.{floats, decimal, one64}
use Rattle.number.specs.Functions.{calls, answered₂}
use Rattle.number.proofs.Walk.{held_inj}
use Rattle.number.proofs.Grid.{grid_le}
use Rattle.number.proofs.Round.{round_value}
use Rattle.elementary.specs.Port.{port}
use Rattle.number.specs.Domain.{base_inside, exponent_inside}
use Rattle.power.specs.Power.{exponent_of, power_of, powf_of}
use Rattle.binary_log.specs.BinaryLog.{log_of}
use Rattle.power.proofs.Corners.{base_one}
use Rattle.saftvrqmie_dispersion_terms.specs.Terms.{ilambda, ilambda_of}
use Rattle.saftvrmie_dispersion.specs.Sutherland.{i_of}

-- ---- a rounded fraction is finite, or the infinity of its sign
units_or : (s : Bool) (q k : ℕ) → T (finite (units binary64 s q k)) ⊎ (units binary64 s q k ≡ inf s)
unfolding units odd
units_or s q k = go (ltb (q * 2 ^ k) (2 ^ (low binary64 + suc (emax binary64)))) q
  where
    go : (b : Bool) (q : ℕ) → T (finite (cond b (odd (suc (prec binary64)) s q k (low binary64)) (inf s))) ⊎ (cond b (odd (suc (prec binary64)) s q k (low binary64)) (inf s) ≡ inf s)
    go true zero = inl tt
    go true (suc q) = inl tt
    go false q = inr refl

round_or : (s : Bool) (a c : ℕ) → T (finite (round binary64 s a c)) ⊎ (round binary64 s a c ≡ inf s)
round_or s a c = rw (round_is binary64 s a c) (units_or s (kept (prec binary64) (a * 2 ^ low binary64) c) (drop (prec binary64) (a * 2 ^ low binary64) c))

-- ---- at least one unit does not round to zero
one_unit : grid binary64 1 (2 ^ 1074) ≡ 1
unfolding Ieee.size
one_unit = refl

some : (a c : ℕ) → 0 < c → c ≤ 2 ^ 1074 → 0 < a → 0 < grid binary64 a c
some a c C h p = le_trans (le_of_eq (sym one_unit)) (grid_le binary64 1 (2 ^ 1074) a c (pow_pos 1074) C (mul-le-mul p h))

-- ---- -0 over what is not zero
unlike_true : (s : Bool) → unlike true s ≡ not s
unlike_true false = refl
unlike_true true = refl

round_none : (s : Bool) → round binary64 s 0 1 ≡ fin s 0 (pos 0)
unfolding round units odd Ieee.size
round_none s = refl

over_finite : (s : Bool) (r : Float) (g L : ℕ) → 0 < g → HasValue r s g L → div binary64 (fin true 0 (pos 0)) r ≡ fin (not s) 0 (pos 0)
unfolding div
over_finite s nan g L h v = absurd v
over_finite s (inf t) g L h v = absurd v
over_finite s (fin t zero d) g L h v = absurd (lt_irrefl 0 (subst (λ (x : ℕ). 0 < x) (sym v.1 ∙ ap (λ (x : ℕ). x * L) (zero-mul (up d)) ∙ zero-mul L) (mul-pos h (down_pos d))))
over_finite s (fin t (suc n) d) g L h v =
    ap (λ (b : Bool). cond b (cond (eqb 0 0) nan (inf (unlike true t))) (round binary64 (unlike true t) (0 * 1 * down d) (suc n * up d * 1))) (ne_eqb (suc n) 0 (λ (e : suc n ≡ 0). omega arith))
    ∙ round_same binary64 (unlike true t) (0 * 1 * down d) (suc n * up d * 1) 0 1 (mul-pos (mul-pos (zero-lt-suc n) (up_pos d)) (zero-lt-suc 0)) (zero-lt-suc 0) (none (down d) (suc n * up d * 1))
    ∙ round_none (unlike true t)
    ∙ ap (λ (b : Bool). fin b 0 (pos 0)) (ap (unlike true) v.0 ∙ unlike_true s)
  where
    none : (a b : ℕ) → 0 * 1 * a * 1 ≡ 0 * b
    none a b = omega arith

over : (s : Bool) (a c : ℕ) → 0 < grid binary64 a c → div binary64 (fin true 0 (pos 0)) (round binary64 s a c) ≡ fin (not s) 0 (pos 0)
unfolding div
over s a c h = go (round_or s a c)
  where
    go : T (finite (round binary64 s a c)) ⊎ (round binary64 s a c ≡ inf s) → div binary64 (fin true 0 (pos 0)) (round binary64 s a c) ≡ fin (not s) 0 (pos 0)
    go (inl t) = over_finite s (round binary64 s a c) (grid binary64 a c) (2 ^ 1074) h (round_value binary64 s a c t)
    go (inr e) = rw e (ap (λ (b : Bool). fin b 0 (pos 0)) (unlike_true s))

-- ---- lambda - 3
abbrev three : Float
three = decimal false 3 0

three_fits : T (fits binary64 three)
unfolding fits decimal
three_fits = tt

-- what a denominator of the format is at most of the format can be
down_small : (s : Bool) (m : ℕ) (e : ℤ) → T (fits binary64 (fin s m e)) → down e ≤ 2 ^ 1074
unfolding fits
down_small s zero e f = le_trans (le_of_eq (sym (one-mul (down e)))) (le_trans (mul-le-mul (up_pos e) (le_refl (down e))) (le_trans (le_of_eq (eqb→eq (up e * down e) 1 f)) (pow_pos 1074)))
down_small s (suc m) e f =
    let A = eqb (suc m % 2) 1 in
    let B = ltb (suc m) (2 ^ 53) in
    let D = leb (down e) (2 ^ 1074) in
    leb→le (down e) (2 ^ 1074) (and_r (A && B) D (and_l (A && B && D) (ltb (suc m * up e) (2 ^ 1024 * down e)) f))

compared : (a b : ℕ) → (a ≡ b) ⊎ (a < b) ⊎ (b < a)
compared a b = go (dec_le a b)
  where
    go : Dec (a ≤ b) → (a ≡ b) ⊎ (a < b) ⊎ (b < a)
    go (no n) = inr (inr (lt_of_not-le n))
    go (yes l) = less (eq-or-lt_of_le l)
      where
        less : (a ≡ b) ⊎ (a < b) → (a ≡ b) ⊎ (a < b) ⊎ (b < a)
        less (inl e) = inl e
        less (inr k) = inr (inl k)

-- a and b are the sizes of lambda and of 3 in units of 1 / c: the sign of their difference is that of the comparison
module _ (c : ℕ) (C : 0 < c) (small : c ≤ 2 ^ 1074) where
  sum_over : (s : Bool) (a b : ℕ) → 0 < b → ((s ≡ false) × (a ≡ b) → ⊥) → div binary64 (fin true 0 (pos 0)) (Ieee.sum binary64 s a true b c) ≡ fin (below false b s a) 0 (pos 0)
  unfolding Ieee.sum
  sum_over true a b B h = over true (a + b) c (some (a + b) c C small (omega arith))
  sum_over false a b B h = go (compared a b)
    where
      go : (a ≡ b) ⊎ (a < b) ⊎ (b < a) → div binary64 (fin true 0 (pos 0)) (Ieee.sum binary64 false a true b c) ≡ fin (ltb b a) 0 (pos 0)
      go (inl e) = absurd (h (refl, e))
      go (inr (inl l)) = rw (lt-ltb a b l, le-ltb b a (omega arith)) (over true (b - a) c (some (b - a) c C small (omega arith)))
      go (inr (inr l)) = rw (le-ltb a b (omega arith), lt-ltb b a l) (over false (a - b) c (some (a - b) c C small (omega arith)))

-- the sign of lambda - 3 is that of the comparison
difference : (s : Bool) (m : ℕ) (e : ℤ) → T (fits binary64 (fin s m e)) → (fin s m e ≡ three → ⊥) → div binary64 (fin true 0 (pos 0)) (sub binary64 (fin s m e) three) ≡ fin (lt three (fin s m e)) 0 (pos 0)
unfolding sub Ieee.add Ieee.neg lt decimal
difference s m e f h =
    sum_over (down e * 1) (mul-pos (down_pos e) (zero-lt-suc 0)) (le_trans (le_of_eq (mul-one (down e))) (down_small s m e f)) s (m * up e * 1) (3 * down e) (mul-pos (zero-lt-suc 2) (down_pos e))
    (λ v. h (whole_unique binary64 (fin s m e) three false 3 f three_fits v (refl, refl)))

-- lambda is finite where the power of base 1 by 3 - lambda is accepted
zero_over : (lambda : Float) → T (fits binary64 lambda) → (lambda ≡ three → ⊥) → T (exponent_inside (sub binary64 three lambda)) → div binary64 (fin true 0 (pos 0)) (sub binary64 lambda three) ≡ fin (lt three lambda) 0 (pos 0)
unfolding exponent_inside sub Ieee.add Ieee.neg Ieee.le Ieee.eq lt decimal Ieee.of_bits
zero_over nan f h k = absurd k
zero_over (inf false) f h k = absurd k
zero_over (inf true) f h k = absurd k
zero_over (fin s m e) f h k = difference s m e f h

accepted : (x y p : Float) → powf_of x y ≡ held p → T (exponent_inside y)
unfolding powf_of ◌>>=◌ demand
accepted x y p h = go (base_inside x) (exponent_inside y) h
  where
    never : refused 6 ≡ held p → ⊥
    never e = let z : ◌≡◌ {A = ℕ} 0 1 = cc in omega arith

    go : (s t : Bool) → (demand 6 s >>= λ _. demand 6 t >>= λ _. held (power_of (log_of x) (exponent_of y))) ≡ held p → T t
    go false t h = absurd (never h)
    go true false h = absurd (never h)
    go true true h = tt

-- the power is 1
module _ (lambda p : Float) (f : T (fits binary64 lambda)) (other : lambda ≡ three → ⊥) (taken : port.powf one64 (floats.sub three lambda) ≡ held p) where
  pub ilambda_zero : ilambda floats lambda ((calls floats port).powf one64) ≡ held (fin (lt three lambda) 0 (pos 0))
  unfolding ilambda ilambda_of answered₂ ◌>>=◌ Ieee.neg Ieee.sub Ieee.add Ieee.of_bits decimal
  ilambda_zero =
      let k = accepted one64 (sub binary64 three lambda) p taken in
      rw (base_one (sub binary64 three lambda) k) (ap held (zero_over lambda f other k))

  pub i_zero : i_of floats floats (λ x. x) p lambda ≡ fin (lt three lambda) 0 (pos 0)
  unfolding i_of Ieee.neg Ieee.sub Ieee.add Ieee.of_bits decimal
  i_zero =
      let k = accepted one64 (sub binary64 three lambda) p taken in
      rw (held_inj p one64 (sym taken ∙ base_one (sub binary64 three lambda) k)) (zero_over lambda f other k)
