-- Laws of lists filled in order, and of the places of pairs. Assumes nothing.
use Prim.Native.Nat.{ℕ, zero, suc, ◌+◌, ◌*◌, ◌-◌, ◌/◌, ◌≤◌, ◌<◌, min, max}
use native.Mathlib.Nat.{mul_comm, mul-suc, suc-mul, mul-add, add-mul, mul-le-mul, mul_assoc}
use native.Mathlib.Numerals.{add-one}
use native.Mathlib.Omega.{arith}
use lib.ListN.{length, get_or, take, set, replicate}
use lib.Seq.{take-suc-set}
use Rattle.std.proofs.lemmas.List.{take-replicate, replicate_more}
use mathlib.Core.Path.{◌≡◌, refl, sym, ap, ◌∙◌}
use mathlib.Core.List.{List, [], ◌∷◌, ◌++◌, append_assoc, append-nil}
use Rattle.number.specs.Walk.{turns}
use Rattle.card.specs.Fields.{joined}
use Rattle.card.proofs.Fields.{below}
use Rattle.number.specs.Arith.{zero64}
use lib.Ieee.{Float, of_bits, binary64}
use borrow.Author.Tests.{eq-eqb, ne_eqb}
use Rattle.card_lists.specs.Lists.{pairs_before, pair_number, pair_entry}

-- one number in the first places
each_one : {S : Type 0} (x : S) (n : ℕ) → replicate n x ≡ joined n (λ _. x ∷ [])
unfolding joined
each_one x zero = refl
each_one {S} x (suc n) = (rw add-one at (sym (replicate_more n x))) ∙ ap (λ (s : List S). s ++ x ∷ []) (each_one x n)

pub all_one : {S : Type 0} (x : S) (n m : ℕ) → n ≤ m → take n (replicate m x) ≡ joined n (λ _. x ∷ [])
all_one x n m h = take-replicate n m x h ∙ each_one x n

-- one entry more
module _ {S : Type 0} (f : ℕ → S) where
  pub fill_none : (l : List S) → take 0 l ≡ joined 0 (λ i. f i ∷ [])
  unfolding joined
  fill_none l = refl

  pub fill_next : (l : List S) (i : ℕ) (x : S) → i < length l → take i l ≡ joined i (λ i. f i ∷ []) → x ≡ f i → take (i + 1) (set l i x) ≡ joined (i + 1) (λ i. f i ∷ [])
  unfolding joined
  fill_next l i x h p e = rw (add-one, take-suc-set l i x h, p, e)

  -- the same behind what stands there
  pub row_next : (l l₀ : List S) (s j : ℕ) (x : S) → s + j < length l → take (s + j) l ≡ take s l₀ ++ joined j (λ i. f i ∷ []) → x ≡ f j
      → take (s + (j + 1)) (set l (s + j) x) ≡ take s l₀ ++ joined (j + 1) (λ i. f i ∷ [])
  unfolding joined
  row_next l l₀ s j x h p e =
      let d : s + (j + 1) ≡ suc (s + j) = omega arith in
      rw (d, take-suc-set l (s + j) x h, p, add-one, e, append_assoc (take s l₀) (joined j (λ i. f i ∷ [])) (f j ∷ []))

  pub row_none : (l : List S) (s : ℕ) → take (s + 0) l ≡ take s l ++ joined 0 (λ i. f i ∷ [])
  unfolding joined
  row_none l s = let d : s + 0 ≡ s = omega arith in rw (d, append-nil (take s l))

-- no row yet
pub rows_none : {S : Type 0} (f : ℕ → List S) (l : List S) (n : ℕ) → take (n * 0) l ≡ joined 0 f
unfolding joined
rows_none f l n = let e : n * 0 ≡ 0 = omega arith in rw e

-- a row more
pub rows_next : {S : Type 0} (f : ℕ → List S) (l₀ l : List S) (n i : ℕ) → take (n * i) l₀ ≡ joined i f → take (n * i + n) l ≡ take (n * i) l₀ ++ f i → take (n * (i + 1)) l ≡ joined (i + 1) f
unfolding joined
rows_next f l₀ l n i p q =
    let d : n * (i + 1) ≡ n * i + n = rw add-one (mul-suc n i) in
    rw (d, q, p, add-one)

pub cell_below : (n i j : ℕ) → i < n → j < n → n * i + j < n * n
cell_below n i j h g = rw (mul_comm n i) (below i n n j h g)

pub square_small : (n : ℕ) → n ≤ 12 → n * n ≤ 144
square_small n h = mul-le-mul h h

-- ---- places of pairs
pub twice_before : (n i : ℕ) → i ≤ n → 2 * pairs_before n i + i * i + i ≡ 2 * (n * i)
unfolding pairs_before turns
twice_before n zero h = omega (arith, mul_comm n 0)
twice_before n (suc i) h =
    let p = twice_before n i (omega arith) in
    let a : suc i * suc i ≡ i * i + 2 * i + 1 = rw (suc-mul i (suc i), mul-suc i i) (omega arith) in
    let b = mul-suc n i in
    omega (arith, p, a, b)

pub before_closed : (n i : ℕ) → i < n → i * (2 * n - 1 - i) / 2 ≡ pairs_before n i
before_closed n i h =
    let m = 2 * n - 1 - i in
    let e : m + (i + 1) ≡ 2 * n = omega arith in
    let p = twice_before n i (omega arith) in
    let a : i * (m + (i + 1)) ≡ i * (2 * n) = ap (λ (x : ℕ). i * x) e in
    let f = mul-add i m (i + 1) in
    let g = mul-add i i 1 in
    let b : i * (2 * n) ≡ 2 * (n * i) = rw (mul_comm i (2 * n), mul_assoc 2 n i) in
    omega (arith, p, a, b, f, g)

-- products about n = k + d
square_of : (k d : ℕ) → (k + d) * (k + d) ≡ k * k + 2 * (k * d) + d * d
square_of k d = rw (add-mul k d (k + d), mul-add k k d, mul-add d k d, mul_comm d k) (omega arith)

product_of : (k d : ℕ) → (k + d) * k ≡ k * k + k * d
product_of k d = rw (mul_comm (k + d) k, mul-add k k d)

le_square : (d : ℕ) → d ≤ d * d
le_square zero = omega arith
le_square (suc d) = omega (arith, suc-mul d (suc d))

pub less_one : (n : ℕ) → n * (n - 1) + n ≡ n * n
less_one zero = omega arith
less_one (suc m) = let e : suc m - 1 ≡ m = omega arith in rw (e, mul-suc (suc m) m)

-- the pairs' numbers before a row, and those of all rows
pub before_none : (n : ℕ) → pairs_before n 0 ≡ 0
unfolding pairs_before turns
before_none n = refl

pub before_next : (n i : ℕ) → pairs_before n (i + 1) ≡ pairs_before n i + (n - 1 - i)
unfolding pairs_before turns
before_next n i = rw add-one refl

pub before_within : (n i : ℕ) → i ≤ n → 2 * pairs_before n i ≤ n * (n - 1)
before_within n i h =
    let d = n - i in
    let e : i + d ≡ n = omega arith in
    let p = twice_before n i h in
    let a = rw e at (square_of i d) in
    let b = rw e at (product_of i d) in
    omega (arith, p, a, b, le_square d, less_one n)

pub before_all : (n : ℕ) → 2 * pairs_before n n ≡ n * (n - 1)
before_all n = omega (arith, twice_before n n (omega arith), less_one n)

-- the numbers of a pair lie among those of all pairs
pub pair_below : (n i j : ℕ) → i < j → j < n → 2 * (pairs_before n i + (j - 1 - i)) + 1 < n * (n - 1)
unfolding pairs_before turns
pair_below n i j h g =
    let k = suc i in
    let d = n - suc i in
    let e : k + d ≡ n = omega arith in
    let p = twice_before n (suc i) (omega arith) in
    let a = rw e at (square_of k d) in
    let b = rw e at (product_of k d) in
    omega (arith, p, a, b, le_square d, less_one n)

-- ---- entries of the square
pub entry_end : (values : List ℕ) (start n e i j : ℕ) → i ≡ j → zero64 ≡ pair_entry values start n e i j
unfolding pair_entry
entry_end values start n e i j p = rw (eq-eqb i j p)

module _ (values : List ℕ) (start n e i j low high before : ℕ) (a : low ≡ min i j) (b : high ≡ max i j) (d : before ≡ pairs_before n low) where
  pub entry_pair : (r : Float) → (i ≡ j → ⊥) → r ≡ of_bits binary64 (get_or values (start + 2 * (before + (high - 1 - low)) + e) 0) → r ≡ pair_entry values start n e i j
  unfolding pair_entry pair_number
  entry_pair r z p = rw (p, ne_eqb i j z, d, a, b)

  pub entry_below : (i ≡ j → ⊥) → i < n → j < n → 2 * (before + (high - 1 - low)) + 1 < n * (n - 1)
  entry_below z h g =
      let f : low < high = omega (arith, a, b, z) in
      let k : high < n = omega (arith, b) in
      rw d (pair_below n low high f k)
