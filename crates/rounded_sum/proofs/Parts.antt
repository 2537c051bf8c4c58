-- Two whole numbers of units, added or taken from each other and rounded: what the larger lacks of the result, and what the result lacks, are held by the format. Assumes nothing.
use mathlib.Core.Path.{◌≡◌, refl, sym, ap, ◌∙◌, subst}
use Prim.Native.Nat.{ℕ, suc, ◌+◌, ◌-◌, ◌*◌, ◌^◌, ◌≤◌, ◌<◌}
use native.Mathlib.Nat.{le_trans, le_of_eq, le_of_lt, lt_of_lt_of_le, lt_of_not-le, mul-le-mul_right, mul_comm, two-pow-succ, mul-add}
use native.Mathlib.Decide.{dec_le}
use native.Mathlib.Omega.{arith}
use lib.Pow.{pow-add, pow_pos, pow_mono}
use lib.Ieee.{Format, size}
use lib.Ieee.Digits.{size-lt, size_reaches}
use Rattle.number.proofs.Grid.{size_mono, fewer}
use Rattle.rounded_sum.proofs.Multiples.{Multiple, mult_add, mult_sub, mult_lower, Digits, held, held_zero, held_twice, own_multiple, below_all}
use Rattle.rounded_sum.proofs.Nearest.{near_below, near_above, p, p_pos, unit, rounded, rounded_near, rounded_multiple, rounded_mono, rounded_multiple_is, rounded_held}

-- n is exact, S is n rounded; both differences either way, of which one is 0
pub record Parts (q A B n S : ℕ) : Type 0 where
  pub beyond : Digits q (S - A)
  pub short : Digits q (A - S)
  pub left : Digits q (n - S)
  pub over : Digits q (S - n)
  pub beyond_le : S - A ≤ A
  pub short_le : A - S ≤ A
  pub left_le : n - S ≤ B
  pub over_le : S - n ≤ B

module _ (f : Format) (A B : ℕ) (a : Digits (p f) A) (b : Digits (p f) B) (h : B ≤ A) where
  abbrev j : ℕ → ℕ
  j n = size n - p f

  hold : (k n : ℕ) → Multiple k n → n ≤ 2 ^ p f * 2 ^ k → Digits (p f) n
  hold = held (p f) (p_pos f)

  lower_unit : (n m : ℕ) → n ≤ m → j n ≤ j m
  lower_unit n m l = fewer (size n) (size m) (p f) (size_mono n m l)

  multiple_A : Multiple (j A) A
  multiple_A = own_multiple (p f) (p_pos f) A a

  multiple_B : Multiple (j B) B
  multiple_B = own_multiple (p f) (p_pos f) B b

  A-over-B : Multiple (j B) A
  A-over-B = mult_lower (j B) (j A) A (lower_unit B A h) multiple_A

  below_A : A ≤ 2 ^ p f * 2 ^ j A
  below_A = le_of_lt (below_all (p f) (p_pos f) A)

  below_B : B ≤ 2 ^ p f * 2 ^ j B
  below_B = le_of_lt (below_all (p f) (p_pos f) B)

  -- ---- added
  abbrev N : ℕ
  N = A + B

  -- a multiple of the sum's unit between A and the sum
  record Between : Type 0 where
    pub times : ℕ
    pub from : A ≤ times * unit f N
    pub to : times * unit f N ≤ N

  between : Between
  between = go (dec_le (j N) (j A))
    where
      larger : (z y q : ℕ) → 0 < q → y - q < z - q → y ≤ q - 1 + (z - q)
      larger z y q P l = omega arith

      inside : (z y q : ℕ) → 0 < q → y - q < z - q → q - 1 + (z - q) < z
      inside z y q P l = omega arith

      go : Dec (j N ≤ j A) → Between
      go (yes l) =
          let m = mult_lower (j N) (j A) A l multiple_A in
          record { times = m.0; from = le_of_eq m.1; to = le_trans (le_of_eq (sym m.1)) (sums A B) }
        where
          sums : (x y : ℕ) → x ≤ x + y
          sums x y = omega arith
      go (no l) =
          let k = lt_of_not-le l in
          let e = pow-add 2 (p f - 1) (j N) in
          record {
            times = 2 ^ (p f - 1);
            from = le_trans (le_of_lt (size-lt A)) (le_trans (pow_mono (larger (size N) (size A) (p f) (p_pos f) k)) (le_of_eq e));
            to = le_trans (le_of_eq (sym e)) (size_reaches N (p f - 1 + j N) (inside (size N) (size A) (p f) (p_pos f) k));
          }

  pub parts_added : Parts (p f) A B N (rounded f N)
  parts_added =
      let S = rounded f N in
      let u : j A ≤ j N = lower_unit A N (sums A B) in
      let m : Multiple (j A) S = mult_lower (j A) (j N) S u (rounded_multiple f N) in
      let s : S ≤ A + A = le_trans (rounded_mono f N (A + A) (twice A B h)) (le_of_eq (rounded_held f (A + A) (held_twice (p f) (p_pos f) A a))) in
      let l : A ≤ S = le_trans (le_of_eq (sym (rounded_held f A a))) (rounded_mono f A N (sums A B)) in
      let d = near_below N (unit f N) S between.times (pow_pos (j N)) (rounded_near f N) between.to in
      let left_le : N - S ≤ B = bound (N - S) A B (between.times * unit f N) d.1 between.from in
      let over_le : S - N ≤ B = bound (S - N) A B (between.times * unit f N) d.0 between.from in
      let mS : Multiple (j B) S = mult_lower (j B) (j A) S (lower_unit B A h) m in
      let mN : Multiple (j B) N = mult_add (j B) A B A-over-B multiple_B in
      record {
        beyond = hold (j A) (S - A) (mult_sub (j A) S A m multiple_A) (le_trans (upper S A s) below_A);
        short = subst (Digits (p f)) (sym (none A S l)) (held_zero (p f) (p_pos f));
        left = hold (j B) (N - S) (mult_sub (j B) N S mN mS) (le_trans left_le below_B);
        over = hold (j B) (S - N) (mult_sub (j B) S N mS mN) (le_trans over_le below_B);
        beyond_le = upper S A s;
        short_le = minus A S;
        left_le = left_le;
        over_le = over_le;
      }
    where
      sums : (x y : ℕ) → x ≤ x + y
      sums x y = omega arith

      twice : (x y : ℕ) → y ≤ x → x + y ≤ x + x
      twice x y h = omega arith

      upper : (s x : ℕ) → s ≤ x + x → s - x ≤ x
      upper s x h = omega arith

      none : (x s : ℕ) → x ≤ s → x - s ≡ 0
      none x s h = omega arith

      minus : (x s : ℕ) → x - s ≤ x
      minus x s = omega arith

      bound : (d x y z : ℕ) → d ≤ x + y - z → x ≤ z → d ≤ y
      bound d x y z h k = omega arith

  -- ---- taken from each other
  abbrev M : ℕ
  M = A - B

  pub parts_taken : Parts (p f) A B M (rounded f M)
  parts_taken =
      let S = rounded f M in
      let u : j M ≤ j A = lower_unit M A (minus A B) in
      let s : S ≤ A = le_trans (rounded_mono f M A (minus A B)) (le_of_eq (rounded_held f A a)) in
      let m = mult_lower (j M) (j A) A u multiple_A in
      let d = near_above M (unit f M) S m.0 (pow_pos (j M)) (rounded_near f M) (le_trans (minus A B) (le_of_eq m.1)) in
      let left_le : M - S ≤ B = bound (M - S) A B (m.0 * unit f M) h m.1 d.1 in
      let over_le : S - M ≤ B = bound (S - M) A B (m.0 * unit f M) h m.1 d.0 in
      go S s left_le over_le m (rounded_multiple f M) (rounded_multiple_is f M) (dec_le (j M) (j B))
    where
      minus : (x s : ℕ) → x - s ≤ x
      minus x s = omega arith

      none : (x s : ℕ) → s ≤ x → s - x ≡ 0
      none x s h = omega arith

      itself : (x : ℕ) → x - x ≡ 0
      itself x = omega arith

      bound : (d x y z : ℕ) → y ≤ x → x ≡ z → d ≤ z - (x - y) → d ≤ y
      bound d x y z h e k = omega arith

      small : (x y s : ℕ) → y ≤ x → x - y - s ≤ y → x - s ≤ y + y
      small x y s h k = omega arith

      rest : (x y : ℕ) → y ≤ x → x - (x - y) ≡ y
      rest x y h = omega arith

      fits_short : (k i : ℕ) → i < k → B ≤ 2 ^ p f * 2 ^ i → B + B ≤ 2 ^ p f * 2 ^ k
      fits_short k i l g =
          le_trans (double B (2 ^ p f * 2 ^ i) g)
          (le_trans (le_of_eq (sym (mul-add (2 ^ p f) (2 ^ i) (2 ^ i)) ∙ ap (λ (x : ℕ). 2 ^ p f * x) (sym (two-pow-succ i))))
          (times (2 ^ p f) (2 ^ suc i) (2 ^ k) (pow_mono l)))
        where
          double : (x y : ℕ) → x ≤ y → x + x ≤ y + y
          double x y h = omega arith

          times : (c x y : ℕ) → x ≤ y → c * x ≤ c * y
          times c x y h = le_trans (le_of_eq (mul_comm c x)) (le_trans (mul-le-mul_right c h) (le_of_eq (mul_comm y c)))

      go : (S : ℕ) → S ≤ A → M - S ≤ B → S - M ≤ B → Multiple (j M) A → Multiple (j M) S → (Multiple (j M) M → S ≡ M) → Dec (j M ≤ j B) → Parts (p f) A B M S
      go S s ll ol mA mS e (yes l) =
          let same = e (mult_sub (j M) A B mA (mult_lower (j M) (j B) B l multiple_B)) in
          record {
            beyond = subst (Digits (p f)) (sym (none A S s)) (held_zero (p f) (p_pos f));
            short = subst (Digits (p f)) (sym (ap (λ (x : ℕ). A - x) same ∙ rest A B h)) b;
            left = subst (Digits (p f)) (sym (ap (λ (x : ℕ). M - x) same ∙ itself M)) (held_zero (p f) (p_pos f));
            over = subst (Digits (p f)) (sym (ap (λ (x : ℕ). x - M) same ∙ itself M)) (held_zero (p f) (p_pos f));
            beyond_le = le_trans (le_of_eq (none A S s)) (native.Mathlib.Nat.le_trans (zero_first A) (le_of_eq refl));
            short_le = minus A S;
            left_le = ll;
            over_le = ol;
          }
        where
          zero_first : (x : ℕ) → 0 ≤ x
          zero_first x = omega arith
      go S s ll ol mA mS e (no l) =
          let k = lt_of_not-le l in
          let mS' : Multiple (j B) S = mult_lower (j B) (j M) S (le_of_lt k) mS in
          let mM : Multiple (j B) M = mult_sub (j B) A B A-over-B multiple_B in
          record {
            beyond = subst (Digits (p f)) (sym (none A S s)) (held_zero (p f) (p_pos f));
            short = hold (j M) (A - S) (mult_sub (j M) A S mA mS) (le_trans (small A B S h ll) (fits_short (j M) (j B) k below_B));
            left = hold (j B) (M - S) (mult_sub (j B) M S mM mS') (le_trans ll below_B);
            over = hold (j B) (S - M) (mult_sub (j B) S M mS' mM) (le_trans ol below_B);
            beyond_le = le_trans (le_of_eq (none A S s)) (zero_first A);
            short_le = minus A S;
            left_le = ll;
            over_le = ol;
          }
        where
          zero_first : (x : ℕ) → 0 ≤ x
          zero_first x = omega arith
