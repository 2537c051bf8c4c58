-- `round` on signed fractions: it keeps the order, and a value of the format stays on its side. Assumes nothing.
use Rattle.std.proofs.Common.{◌≡◌, ℕ, zero, suc, ◌+◌, ◌-◌, ◌*◌, ◌%◌, ◌^◌, ◌<◌, ◌≤◌, Bool, true, false, cond, not, ◌&&◌, T, eqb, ltb, leb, ◌⊎◌, ℤ, pos, negsuc, sym, refl, ap, ◌∙◌, subst, inl, inr, true≢false, le_trans, le_of_eq, lt_of_lt_of_le, le_of_suc-le-suc, lt_irrefl, mul-le-mul_right, zero-lt-suc, mul_assoc, lt_of_mul-lt-mul_right, mul-lt-mul_of_pos_right, mul-pos, lt_of_not-le, zero-mul, mul-one, arith, ltb→lt, leb→le, pow_pos, pow-add}
use mathlib.Core.Bool.{false≢true}
use lib.Pow.{pow-lt}
use lib.Ieee.{Float, nan, inf, fin, Format, binary32, binary64, prec, emax, low, up, down, size, odd, units, round, fits, is_nan}
use lib.Ieee.Digits.{back}
use lib.Ieee.Fits.{round_is, round-fits, down_pos, and_l, and_r}
use lib.Ieee.Exact.{HasValue, odd_sign, round_exact}
use lib.Ieee.Order.{drop, kept}
use lib.Ieee.Scale.{grid, finite}
use Rattle.number.specs.Frac.{Frac, Pos, le_f, lt_f}
use Rattle.number.specs.Frac.{sgn, val_f}
use Rattle.number.proofs.Frac.{sgn_pos, val_f_pos, ring, le_trans_f, lt_irrefl_f, le_or_lt, lt_le_f}
use Rattle.number.proofs.Grid.{grid_le}

-- ---- `grid` keeps the order, with signs
grid_zero : (f : Format) → grid f 0 1 ≡ 0
unfolding size
grid_zero binary32 = refl
grid_zero binary64 = refl

no_more : (a c d x : ℕ) → 0 < d → a * d + x ≤ 0 → a * 1 ≤ 0 * c
no_more zero c d x D h = omega arith
no_more (suc a) c d x D h = absurd (lt_irrefl 0 (lt_of_lt_of_le (mul-pos (zero-lt-suc a) D) (omega arith)))

pub zero_rounds : (f : Format) (a c d x : ℕ) → 0 < c → 0 < d → a * d + x ≤ 0 → grid f a c ≤ 0
zero_rounds f a c d x C D h = le_trans (grid_le f a c 0 1 C (zero-lt-suc 0) (no_more a c d x D h)) (le_of_eq (grid_zero f))

same_den : (s t : Bool) (g h L : ℕ) → le_f (sgn s g 1) (sgn t h 1) → le_f (sgn s g L) (sgn t h L)
same_den false false g h L k = let a = mul-le-mul_right L k in omega (arith, simp ring at a)
same_den false true g h L k = let a = mul-le-mul_right L k in omega (arith, simp ring at a)
same_den true false g h L k = let a = mul-le-mul_right L k in omega (arith, simp ring at a)
same_den true true g h L k = let a = mul-le-mul_right L k in omega (arith, simp ring at a)

pub signed_mono : (f : Format) (s t : Bool) (a c b d : ℕ) → 0 < c → 0 < d → le_f (sgn s a c) (sgn t b d) → le_f (sgn s (grid f a c) (2 ^ low f)) (sgn t (grid f b d) (2 ^ low f))
signed_mono f s t a c b d C D h = same_den s t (grid f a c) (grid f b d) (2 ^ low f) (go s t h)
  where
    pp : (g k : ℕ) → g ≤ k → g * 1 + 0 * 1 ≤ k * 1 + 0 * 1
    pp g k l = omega arith

    nn : (g k : ℕ) → k ≤ g → 0 * 1 + k * 1 ≤ 0 * 1 + g * 1
    nn g k l = omega arith

    np : (g k : ℕ) → 0 * 1 + 0 * 1 ≤ k * 1 + g * 1
    np g k = omega arith

    pn : (g k : ℕ) → g ≤ 0 → k ≤ 0 → g * 1 + k * 1 ≤ 0 * 1 + 0 * 1
    pn g k l r = omega arith

    go : (s t : Bool) → le_f (sgn s a c) (sgn t b d) → le_f (sgn s (grid f a c) 1) (sgn t (grid f b d) 1)
    go false false h = pp (grid f a c) (grid f b d) (grid_le f a c b d C D (omega arith))
    go true true h = nn (grid f a c) (grid f b d) (grid_le f b d a c D C (omega arith))
    go true false h = np (grid f a c) (grid f b d)
    go false true h = pn (grid f a c) (grid f b d) (zero_rounds f a c d (b * c) C D (omega arith)) (zero_rounds f b d c (a * d) D C (omega arith))

-- ---- what a finite `round` is worth
units_worth : (f : Format) (s : Bool) (q k : ℕ) → T (finite (units f s q k)) → HasValue (units f s q k) s (q * 2 ^ k) (2 ^ low f)
unfolding units
units_worth f s q k = go (ltb (q * 2 ^ k) (2 ^ (low f + suc (emax f))))
  where
    go : (b : Bool) → T (finite (cond b (odd (suc (prec f)) s q k (low f)) (inf s))) → HasValue (cond b (odd (suc (prec f)) s q k (low f)) (inf s)) s (q * 2 ^ k) (2 ^ low f)
    go true t = odd_sign (suc (prec f)) s q k (low f)
    go false t = absurd t

pub round_value : (f : Format) (s : Bool) (a c : ℕ) → T (finite (round f s a c)) → HasValue (round f s a c) s (grid f a c) (2 ^ low f)
round_value f s a c t =
    subst (λ (z : Float). HasValue z s (grid f a c) (2 ^ low f)) (sym (round_is f s a c))
    (units_worth f s (kept (prec f) (a * 2 ^ low f) c) (drop (prec f) (a * 2 ^ low f) c) (subst (λ (z : Float). T (finite z)) (round_is f s a c) t))

pub has_le : (x : Float) (s : Bool) (a c : ℕ) → HasValue x s a c → le_f (val_f x) (sgn s a c)
has_le nan s a c h = absurd h
has_le (inf t) s a c h = absurd h
has_le (fin false m e) false a c h = let k = h.1 in omega arith
has_le (fin false m e) true a c h = absurd (false≢true h.0)
has_le (fin true m e) false a c h = absurd (true≢false h.0)
has_le (fin true m e) true a c h = let k = h.1 in omega arith

pub has_ge : (x : Float) (s : Bool) (a c : ℕ) → HasValue x s a c → le_f (sgn s a c) (val_f x)
has_ge nan s a c h = absurd h
has_ge (inf t) s a c h = absurd h
has_ge (fin false m e) false a c h = let k = h.1 in omega arith
has_ge (fin false m e) true a c h = absurd (false≢true h.0)
has_ge (fin true m e) false a c h = absurd (true≢false h.0)
has_ge (fin true m e) true a c h = let k = h.1 in omega arith

-- ---- a value of the format is a fixed point of `round`
pow_le_back : (a l : ℕ) → 2 ^ a ≤ 2 ^ l → a ≤ l
pow_le_back a l h = le_of_suc-le-suc (lt_of_not-le (λ (g : suc l ≤ a). lt_irrefl (2 ^ l) (lt_of_lt_of_le (pow-lt g) h)))

pub place : (l : ℕ) (e : ℤ) → down e ≤ 2 ^ l → (j : ℕ) × ((m : ℕ) → m * up e * 2 ^ l ≡ m * 2 ^ j * down e)
place l (pos a) h = (a + l, λ m. simp (pow-add, mul_assoc, mul-one))
place l (negsuc a) h =
    let le : suc a ≤ l = pow_le_back (suc a) l h in
    (l - suc a, λ m. ap (λ (x : ℕ). x * 2 ^ l) (mul-one m) ∙ ap (λ (x : ℕ). m * x) (ap (λ (x : ℕ). 2 ^ x) (sym (back l (suc a) le)) ∙ pow-add 2 (l - suc a) (suc a)) ∙ sym (mul_assoc m (2 ^ (l - suc a)) (2 ^ suc a)))

pub under_top : (w e d l E : ℕ) → 0 < d → 0 < l → e * l ≡ w * d → e < E * d → w < l * E
under_top w e d l E D P p h =
    let a = mul-lt-mul_of_pos_right {k = l} h P in
    lt_of_mul-lt-mul_right d (simp ring (omega (arith, simp ring at a, p)))

pub fixed : (f : Format) (s : Bool) (m : ℕ) (e : ℤ) → T (fits f (fin s m e)) → HasValue (round f s (m * up e) (down e)) s (m * up e) (down e)
unfolding fits
fixed f s zero e h =
    round_exact f s (0 * up e) (down e) 0 0 (down_pos e) (pow_pos (prec f)) (pow_pos (low f + suc (emax f)))
    (ap (λ (x : ℕ). x * 2 ^ low f) (zero-mul (up e)) ∙ zero-mul (2 ^ low f) ∙ sym (zero-mul (down e)))
fixed f s (suc m) e h =
    let A = eqb (suc m % 2) 1 in
    let B = ltb (suc m) (2 ^ prec f) in
    let C = leb (down e) (2 ^ low f) in
    let D = ltb (suc m * up e) (2 ^ suc (emax f) * down e) in
    let pl = place (low f) e (leb→le (down e) (2 ^ low f) (and_r (A && B) C (and_l (A && B && C) D h))) in
    let top : suc m * 2 ^ pl.0 < 2 ^ low f * 2 ^ suc (emax f) =
    under_top (suc m * 2 ^ pl.0) (suc m * up e) (down e) (2 ^ low f) (2 ^ suc (emax f)) (down_pos e) (pow_pos (low f)) (pl.1 (suc m)) (ltb→lt (suc m * up e) (2 ^ suc (emax f) * down e) (and_r (A && B && C) D h)) in
    round_exact f s (suc m * up e) (down e) (suc m) pl.0 (down_pos e) (ltb→lt (suc m) (2 ^ prec f) (and_r A B (and_l (A && B) C (and_l (A && B && C) D h))))
    (subst (λ (x : ℕ). suc m * 2 ^ pl.0 < x) (sym (pow-add 2 (low f) (suc (emax f)))) top) (pl.1 (suc m))

pub has_finite : (x : Float) (s : Bool) (a c : ℕ) → HasValue x s a c → T (finite x)
has_finite nan s a c h = absurd h
has_finite (inf t) s a c h = absurd h
has_finite (fin t m e) s a c h = tt

fixed_grid_le : (f : Format) (s : Bool) (m : ℕ) (e : ℤ) → T (fits f (fin s m e)) → le_f (val_f (fin s m e)) (sgn s (grid f (m * up e) (down e)) (2 ^ low f))
fixed_grid_le f s m e h =
    let r = round f s (m * up e) (down e) in
    let v = fixed f s m e h in
    let w = round_value f s (m * up e) (down e) (has_finite r s (m * up e) (down e) v) in
    le_trans_f (val_f (fin s m e)) (val_f r) (sgn s (grid f (m * up e) (down e)) (2 ^ low f)) (val_f_pos r) (has_ge r s (m * up e) (down e) v) (has_le r s (grid f (m * up e) (down e)) (2 ^ low f) w)

fixed_grid_ge : (f : Format) (s : Bool) (m : ℕ) (e : ℤ) → T (fits f (fin s m e)) → le_f (sgn s (grid f (m * up e) (down e)) (2 ^ low f)) (val_f (fin s m e))
fixed_grid_ge f s m e h =
    let r = round f s (m * up e) (down e) in
    let v = fixed f s m e h in
    let w = round_value f s (m * up e) (down e) (has_finite r s (m * up e) (down e) v) in
    le_trans_f (sgn s (grid f (m * up e) (down e)) (2 ^ low f)) (val_f r) (val_f (fin s m e)) (val_f_pos r) (has_ge r s (grid f (m * up e) (down e)) (2 ^ low f) w) (has_le r s (m * up e) (down e) v)

-- ---- a value of the format that is no larger than a fraction is no larger than the fraction rounded
pub grid_pos : (f : Format) (s : Bool) (a c : ℕ) → Pos (sgn s (grid f a c) (2 ^ low f))
grid_pos f s a c = sgn_pos s (grid f a c) (2 ^ low f) (pow_pos (low f))

pub stays_above : (f : Format) (u : Float) (s : Bool) (a c : ℕ) → T (fits f u) → T (finite u) → 0 < c → le_f (val_f u) (sgn s a c) → le_f (val_f u) (sgn s (grid f a c) (2 ^ low f))
stays_above f nan s a c p t C h = absurd t
stays_above f (inf b) s a c p t C h = absurd t
stays_above f (fin b m e) s a c p t C h =
    le_trans_f (val_f (fin b m e)) (sgn b (grid f (m * up e) (down e)) (2 ^ low f)) (sgn s (grid f a c) (2 ^ low f)) (grid_pos f b (m * up e) (down e))
    (fixed_grid_le f b m e p) (signed_mono f b s (m * up e) (down e) a c (down_pos e) C h)

pub stays_below : (f : Format) (u : Float) (s : Bool) (a c : ℕ) → T (fits f u) → T (finite u) → 0 < c → le_f (sgn s a c) (val_f u) → le_f (sgn s (grid f a c) (2 ^ low f)) (val_f u)
stays_below f nan s a c p t C h = absurd t
stays_below f (inf b) s a c p t C h = absurd t
stays_below f (fin b m e) s a c p t C h =
    le_trans_f (sgn s (grid f a c) (2 ^ low f)) (sgn b (grid f (m * up e) (down e)) (2 ^ low f)) (val_f (fin b m e)) (grid_pos f b (m * up e) (down e))
    (signed_mono f s b a c (m * up e) (down e) C (down_pos e) h) (fixed_grid_ge f b m e p)

-- ---- r is the fraction q, rounded
pub record Rounds (f : Format) (r : Float) (q : Frac) : Type 0 where
  pub sign : Bool
  pub top : ℕ
  pub bottom : ℕ
  pub above : 0 < bottom
  pub is : r ≡ round f sign top bottom
  pub le : le_f (sgn sign top bottom) q
  pub ge : le_f q (sgn sign top bottom)

module _ (f : Format) where
  -- what a finite rounded value is worth
  pub worth : (r : Float) (s : Bool) (a c : ℕ) → r ≡ round f s a c → T (finite r) → HasValue r s (grid f a c) (2 ^ low f)
  worth r s a c e t = subst (λ (z : Float). HasValue z s (grid f a c) (2 ^ low f)) (sym e) (round_value f s a c (subst (λ (z : Float). T (finite z)) e t))

  pub rounds_mono : (r r' : Float) (q q' : Frac) → Rounds f r q → Rounds f r' q' → T (finite r) → T (finite r') → Pos q → Pos q' → le_f q q' → le_f (val_f r) (val_f r')
  rounds_mono r r' q q' x x' t t' Q Q' h =
      let s = x.sign in let a = x.top in let c = x.bottom in
      let s' = x'.sign in let a' = x'.top in let c' = x'.bottom in
      let k : le_f (sgn s a c) (sgn s' a' c') = le_trans_f (sgn s a c) q (sgn s' a' c') Q x.le (le_trans_f q q' (sgn s' a' c') Q' h x'.ge) in
      le_trans_f (val_f r) (sgn s (grid f a c) (2 ^ low f)) (val_f r') (grid_pos f s a c) (has_le r s (grid f a c) (2 ^ low f) (worth r s a c x.is t))
      (le_trans_f (sgn s (grid f a c) (2 ^ low f)) (sgn s' (grid f a' c') (2 ^ low f)) (val_f r') (grid_pos f s' a' c') (signed_mono f s s' a c a' c' x.above x'.above k)
      (has_ge r' s' (grid f a' c') (2 ^ low f) (worth r' s' a' c' x'.is t')))

  -- a value of the format above r is no less than q, and one below r is no more
  pub rounds_under : (r u : Float) (q : Frac) → Rounds f r q → T (finite r) → T (fits f u) → T (finite u) → Pos q → lt_f (val_f r) (val_f u) → le_f q (val_f u)
  rounds_under r u q x t p v Q h = go (le_or_lt q (val_f u))
    where
      go : le_f q (val_f u) ⊎ lt_f (val_f u) q → le_f q (val_f u)
      go (inl k) = k
      go (inr k) =
          let s = x.sign in let a = x.top in let c = x.bottom in
          absurd (lt_irrefl_f (val_f u) (val_f r)
          (le_trans_f (val_f u) (sgn s (grid f a c) (2 ^ low f)) (val_f r) (grid_pos f s a c)
          (stays_above f u s a c p v x.above (le_trans_f (val_f u) q (sgn s a c) Q (lt_le_f (val_f u) q k) x.ge))
          (has_ge r s (grid f a c) (2 ^ low f) (worth r s a c x.is t))) h)

  pub rounds_over : (r u : Float) (q : Frac) → Rounds f r q → T (finite r) → T (fits f u) → T (finite u) → Pos q → lt_f (val_f u) (val_f r) → le_f (val_f u) q
  rounds_over r u q x t p v Q h = go (le_or_lt (val_f u) q)
    where
      go : le_f (val_f u) q ⊎ lt_f q (val_f u) → le_f (val_f u) q
      go (inl k) = k
      go (inr k) =
          let s = x.sign in let a = x.top in let c = x.bottom in
          absurd (lt_irrefl_f (val_f r) (val_f u)
          (le_trans_f (val_f r) (sgn s (grid f a c) (2 ^ low f)) (val_f u) (grid_pos f s a c)
          (has_le r s (grid f a c) (2 ^ low f) (worth r s a c x.is t))
          (stays_below f u s a c p v x.above (le_trans_f (sgn s a c) q (val_f u) Q x.le (lt_le_f q (val_f u) k)))) h)

  -- a value of the format that bounds q bounds r
  pub rounds_above : (r u : Float) (q : Frac) → Rounds f r q → T (finite r) → T (fits f u) → T (finite u) → Pos q → le_f (val_f u) q → le_f (val_f u) (val_f r)
  rounds_above r u q x t p v Q h =
      let s = x.sign in let a = x.top in let c = x.bottom in
      le_trans_f (val_f u) (sgn s (grid f a c) (2 ^ low f)) (val_f r) (grid_pos f s a c)
      (stays_above f u s a c p v x.above (le_trans_f (val_f u) q (sgn s a c) Q h x.ge))
      (has_ge r s (grid f a c) (2 ^ low f) (worth r s a c x.is t))

  pub rounds_below : (r u : Float) (q : Frac) → Rounds f r q → T (finite r) → T (fits f u) → T (finite u) → Pos q → le_f q (val_f u) → le_f (val_f r) (val_f u)
  rounds_below r u q x t p v Q h =
      let s = x.sign in let a = x.top in let c = x.bottom in
      le_trans_f (val_f r) (sgn s (grid f a c) (2 ^ low f)) (val_f u) (grid_pos f s a c)
      (has_le r s (grid f a c) (2 ^ low f) (worth r s a c x.is t))
      (stays_below f u s a c p v x.above (le_trans_f (sgn s a c) q (val_f u) Q x.le h))

odd_no_nan : (d : ℕ) (s : Bool) (q k l : ℕ) → T (not (is_nan (odd d s q k l)))
unfolding odd is_nan
odd_no_nan d s zero k l = tt
odd_no_nan d s (suc q) k l = tt

units_no_nan : (f : Format) (s : Bool) (q k : ℕ) → T (not (is_nan (units f s q k)))
unfolding is_nan units
units_no_nan f s q k = go (ltb (q * 2 ^ k) (2 ^ (low f + suc (emax f))))
  where
    go : (b : Bool) → T (not (is_nan (cond b (odd (suc (prec f)) s q k (low f)) (inf s))))
    go true = odd_no_nan (suc (prec f)) s q k (low f)
    go false = tt

round_no_nan : (f : Format) (s : Bool) (a c : ℕ) → T (not (is_nan (round f s a c)))
round_no_nan f s a c = subst (λ (z : Float). T (not (is_nan z))) (sym (round_is f s a c)) (units_no_nan f s (kept (prec f) (a * 2 ^ low f) c) (drop (prec f) (a * 2 ^ low f) c))

pub rounds_no_nan : (f : Format) (r : Float) (q : Frac) → Rounds f r q → T (not (is_nan r))
rounds_no_nan f r q x = subst (λ (z : Float). T (not (is_nan z))) (sym x.is) (round_no_nan f x.sign x.top x.bottom)

pub rounds_fits : (f : Format) (r : Float) (q : Frac) → Rounds f r q → T (fits f r)
rounds_fits f r q x = subst (λ (z : Float). T (fits f z)) (sym x.is) (round-fits f x.sign x.top x.bottom)
