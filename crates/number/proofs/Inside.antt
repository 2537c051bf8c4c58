-- In a float's usual range a step is one pattern further, and both neighbours are finite; floats of one value have the same neighbours. Assumes nothing.
use Rattle.std.proofs.Common.{◌≡◌, ℕ, zero, suc, ◌+◌, ◌-◌, ◌%◌, ◌<◌, ◌≤◌, Bool, true, false, cond, not, T, sym, ap, ◌∙◌, subst, le_trans, le_antisymm, lt_of_not-le, arith}
use native.Mathlib.Decide.{dec_le}
use lib.Ieee.{Float, nan, inf, fin, binary64, fits, lt, neg, is_nan, to_bits, of_bits}
use lib.Ieee.Bits.{of_bits-fits, to_bits-of_bits, nan_bits_is}
use lib.Ieee.Scale.{finite}
use Rattle.number.specs.Frac.{le_f, val_f}
use Rattle.number.specs.Neighbour.{step_up, step_down, next_up, next_down}
use Rattle.number.specs.Inside.{least_normal, largest, InsideAbove, InsideBelow}
use Rattle.number.proofs.Frac.{lt_irrefl_f}
use Rattle.std.proofs.lemmas.Float.{not_nan_f64_bits}
use Rattle.number.proofs.Rank.{mag, place, rank, mag_inf, bits64, rank_lt, lt_rank, rank_read}
use Rattle.number.proofs.Order.{lt_yes}
use Rattle.number.proofs.Neighbour.{up_below, up_zero, up_above, down_above, down_zero, down_minus_zero, down_below, up_finite, down_finite}

-- ---- a pattern below the infinity's is read as a finite float
pub finite_read : (n : ℕ) → n < 0x1_0000_0000_0000_0000 → n % 0x8000_0000_0000_0000 < 0x7ff0_0000_0000_0000 → T (finite (of_bits binary64 n))
unfolding is_nan to_bits
finite_read n h k = go (of_bits binary64 n) no_nan back
  where
    no_nan : T (not (is_nan (of_bits binary64 n)))
    no_nan = subst (λ (b : Bool). T (not b)) (nan_bits_is binary64 n) (not_nan_f64_bits n (omega arith))

    back : to_bits binary64 (of_bits binary64 n) ≡ n
    back = to_bits-of_bits binary64 n h no_nan

    go : (x : Float) → T (not (is_nan x)) → to_bits binary64 x ≡ n → T (finite x)
    go nan t e = absurd t
    go (inf true) t e = absurd (omega arith)
    go (inf false) t e = absurd (omega arith)
    go (fin s m e') t e = tt

-- ---- the two steps in the usual range
module _ (x : Float) (i : InsideAbove x) where
  pub down_one : of_bits binary64 (to_bits binary64 x - 1) ≡ next_down x
  down_one = ap (of_bits binary64) (sym (down_below (to_bits binary64 x) i.1 (le_trans i.2 (omega arith)))) ∙ down_finite x i.0

  pub up_one : of_bits binary64 (to_bits binary64 x + 1) ≡ next_up x
  up_one = ap (of_bits binary64) (sym (up_below (to_bits binary64 x) (le_trans i.2 (omega arith)))) ∙ up_finite x i.0

  pub down_one_finite : T (finite (next_down x))
  down_one_finite = let h = i.1 in let k = i.2 in subst (λ (z : Float). T (finite z)) down_one (finite_read (to_bits binary64 x - 1) (omega arith) (omega arith))

  pub up_one_finite : T (finite (next_up x))
  up_one_finite = let h = i.1 in let k = i.2 in subst (λ (z : Float). T (finite z)) up_one (finite_read (to_bits binary64 x + 1) (omega arith) (omega arith))

module _ (x : Float) (i : InsideBelow x) where
  pub down_one_more : of_bits binary64 (to_bits binary64 x + 1) ≡ next_down x
  down_one_more = let h = i.1 in ap (of_bits binary64) (sym (down_above (to_bits binary64 x) (omega arith))) ∙ down_finite x i.0

  pub up_one_less : of_bits binary64 (to_bits binary64 x - 1) ≡ next_up x
  up_one_less = ap (of_bits binary64) (sym (up_above (to_bits binary64 x) i.1)) ∙ up_finite x i.0

  pub down_one_more_finite : T (finite (next_down x))
  down_one_more_finite = let h = i.1 in let k = i.2 in subst (λ (z : Float). T (finite z)) down_one_more (finite_read (to_bits binary64 x + 1) (omega arith) (omega arith))

  pub up_one_less_finite : T (finite (next_up x))
  up_one_less_finite = let h = i.1 in let k = i.2 in subst (λ (z : Float). T (finite z)) up_one_less (finite_read (to_bits binary64 x - 1) (omega arith) (omega arith))

-- ---- what the code's tests tell
abbrev edge : Bool → ℕ → Float
edge t v = of_bits binary64 (cond t 0x8000_0000_0000_0000 0 + v)

-- a and b finite and of the format, the first above the least normal float or the second below the largest
module _ (x : Float) (p : T (fits binary64 x)) (w : T (finite x)) where
  rank_over : (t : Bool) (v : ℕ) → v < 0x8000_0000_0000_0000 → T (finite (edge t v)) → T (lt (edge t v) x) → place t v < rank x
  rank_over t v h u k =
      subst (λ (n : ℕ). n < rank x) (rank_read t v h u)
      (rank_lt (edge t v) x (of_bits-fits binary64 (cond t 0x8000_0000_0000_0000 0 + v)) u p w (lt_yes (edge t v) x u w k))

  rank_under : (t : Bool) (v : ℕ) → v < 0x8000_0000_0000_0000 → T (finite (edge t v)) → T (lt x (edge t v)) → rank x < place t v
  rank_under t v h u k =
      subst (λ (n : ℕ). rank x < n) (rank_read t v h u)
      (rank_lt x (edge t v) p w (of_bits-fits binary64 (cond t 0x8000_0000_0000_0000 0 + v)) u (lt_yes x (edge t v) w u k))

pub inside_above : (x : Float) → T (fits binary64 x) → T (finite x) → 0x8010_0000_0000_0000 < rank x → rank x < 0xffef_ffff_ffff_ffff → InsideAbove x
inside_above nan p w h k = absurd w
inside_above (inf s) p w h k = absurd w
inside_above (fin false m e) p w h k = (tt, omega (arith, bits64 false m e), omega (arith, bits64 false m e))
inside_above (fin true m e) p w h k = absurd (omega arith)

pub inside_below : (x : Float) → T (fits binary64 x) → T (finite x) → rank x < 0x7ff0_0000_0000_0000 → 0x10_0000_0000_0001 < rank x → InsideBelow x
inside_below nan p w h k = absurd w
inside_below (inf s) p w h k = absurd w
inside_below (fin true m e) p w h k = (tt, omega (arith, bits64 true m e), omega (arith, bits64 true m e))
inside_below (fin false m e) p w h k = absurd (omega arith)

-- ---- the rank keeps the order of values
pub rank_le : (x y : Float) → T (fits binary64 x) → T (finite x) → T (fits binary64 y) → T (finite y) → le_f (val_f x) (val_f y) → rank x ≤ rank y
rank_le x y p t q u h = go (dec_le (rank x) (rank y))
  where
    go : Dec (rank x ≤ rank y) → rank x ≤ rank y
    go (yes l) = l
    go (no l) = absurd (lt_irrefl_f (val_f x) (val_f y) h (lt_rank y x q u p t (lt_of_not-le l)))

-- a is no more than b, and both pass the code's test
module _ (a b : Float) (p : T (fits binary64 a)) (t : T (finite a)) (q : T (fits binary64 b)) (u : T (finite b)) (h : le_f (val_f a) (val_f b)) where
  between : rank a ≤ rank b
  between = rank_le a b p t q u h

  pub both_above : T (lt least_normal a) → T (lt b largest) → InsideAbove a × InsideAbove b
  unfolding of_bits
  both_above k l =
      let i : 0x8010_0000_0000_0000 < rank a = rank_over a p t false 0x0010_0000_0000_0000 (omega arith) tt k in
      let j : rank b < 0xffef_ffff_ffff_ffff = rank_under b q u false 0x7fef_ffff_ffff_ffff (omega arith) tt l in
      let r = between in
      (inside_above a p t i (omega arith), inside_above b q u (omega arith) j)

  pub both_below : T (lt (neg largest) a) → T (lt b (neg least_normal)) → InsideBelow a × InsideBelow b
  unfolding of_bits neg
  both_below k l =
      let i : 0x10_0000_0000_0001 < rank a = rank_over a p t true 0x7fef_ffff_ffff_ffff (omega arith) tt k in
      let j : rank b < 0x7ff0_0000_0000_0000 = rank_under b q u true 0x0010_0000_0000_0000 (omega arith) tt l in
      let r = between in
      (inside_below a p t (omega arith) i, inside_below b q u j (omega arith))

-- ---- floats of one value have the same neighbours
same_down : (s t : Bool) (M N : ℕ) → M < 0x7ff0_0000_0000_0000 → N < 0x7ff0_0000_0000_0000 → place s M ≡ place t N → step_down (cond s 0x8000_0000_0000_0000 0 + M) ≡ step_down (cond t 0x8000_0000_0000_0000 0 + N)
same_down false false M N h k e = ap (λ (z : ℕ). step_down (0 + z)) (omega arith)
same_down true true M N h k e = ap (λ (z : ℕ). step_down (0x8000_0000_0000_0000 + z)) (omega arith)
same_down false true zero zero h k e = down_zero ∙ sym down_minus_zero
same_down false true (suc M) N h k e = absurd (omega arith)
same_down false true zero (suc N) h k e = absurd (omega arith)
same_down true false zero zero h k e = down_minus_zero ∙ sym down_zero
same_down true false (suc M) N h k e = absurd (omega arith)
same_down true false zero (suc N) h k e = absurd (omega arith)

same_up : (s t : Bool) (M N : ℕ) → M < 0x7ff0_0000_0000_0000 → N < 0x7ff0_0000_0000_0000 → place s M ≡ place t N → step_up (cond s 0x8000_0000_0000_0000 0 + M) ≡ step_up (cond t 0x8000_0000_0000_0000 0 + N)
same_up false false M N h k e = ap (λ (z : ℕ). step_up (0 + z)) (omega arith)
same_up true true M N h k e = ap (λ (z : ℕ). step_up (0x8000_0000_0000_0000 + z)) (omega arith)
same_up false true zero zero h k e = up_below 0 (omega arith) ∙ sym up_zero
same_up false true (suc M) N h k e = absurd (omega arith)
same_up false true zero (suc N) h k e = absurd (omega arith)
same_up true false zero zero h k e = up_zero ∙ sym (up_below 0 (omega arith))
same_up true false (suc M) N h k e = absurd (omega arith)
same_up true false zero (suc N) h k e = absurd (omega arith)

module _ (step : ℕ → ℕ) (same : (s t : Bool) (M N : ℕ) → M < 0x7ff0_0000_0000_0000 → N < 0x7ff0_0000_0000_0000 → place s M ≡ place t N → step (cond s 0x8000_0000_0000_0000 0 + M) ≡ step (cond t 0x8000_0000_0000_0000 0 + N)) where
  steps_same : (x y : Float) → T (fits binary64 x) → T (finite x) → T (fits binary64 y) → T (finite y) → rank x ≡ rank y → step (to_bits binary64 x) ≡ step (to_bits binary64 y)
  steps_same nan y p t q u e = absurd t
  steps_same (inf s) y p t q u e = absurd t
  steps_same (fin s m d) nan p t q u e = absurd u
  steps_same (fin s m d) (inf r) p t q u e = absurd u
  steps_same (fin s m d) (fin r n d') p t q u e = ap step (bits64 s m d) ∙ same s r (mag m d) (mag n d') (mag_inf s m d p) (mag_inf r n d' q) e ∙ sym (ap step (bits64 r n d'))

module _ (x y : Float) (p : T (fits binary64 x)) (t : T (finite x)) (q : T (fits binary64 y)) (u : T (finite y)) (h : le_f (val_f x) (val_f y)) (k : le_f (val_f y) (val_f x)) where
  level : rank x ≡ rank y
  level = le_antisymm (rank_le x y p t q u h) (rank_le y x q u p t k)

  pub next_down_same : next_down x ≡ next_down y
  next_down_same = sym (down_finite x t) ∙ ap (of_bits binary64) (steps_same step_down same_down x y p t q u level) ∙ down_finite y u

  pub next_up_same : next_up x ≡ next_up y
  next_up_same = sym (up_finite x t) ∙ ap (of_bits binary64) (steps_same step_up same_up x y p t q u level) ∙ up_finite y u
