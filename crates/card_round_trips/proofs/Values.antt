-- A card's numbers as lists and back: columns, pairs and their widths. Assumes nothing.
use Prim.Native.Nat.{ℕ, zero, suc, ◌+◌, ◌*◌, ◌-◌, ◌%◌, ◌^◌, ◌≤◌, ◌<◌, min, max}
use native.Mathlib.Nat.{mul-suc, mul_comm, le_of_eq, mul-le-mul, le_refl, lt_of_lt_of_le}
use native.Mathlib.Omega.{arith}
use lib.Dec.{T, eqb, ltb}
use lib.Pow.{pow_mono}
use lib.Ieee.{Float, nan, is_nan, fits, of_bits, binary64, round}
use lib.ListN.{length, take, drop, get_or, replicate, length-drop, length-append, get_or-append}
use lib.Seq.{take_all, drop-drop, get_or-drop, get_or-append-add}
use mathlib.Core.Path.{◌≡◌, refl, sym, ap, ◌∙◌}
use mathlib.Core.Bool.{Bool, true, false, cond}
use mathlib.Core.List.{List, [], ◌∷◌, ◌++◌}
use borrow.Author.Tests.{eqb-true, eqb-false, ne_eqb, ltb-true, ltb-false}
use Rattle.number.specs.Arith.{decimal, zero64}
use Rattle.number.specs.Lists.{at}
use Rattle.number.specs.Walk.{turns}
use Rattle.limits.specs.Limits.{square}
use Rattle.card.specs.declared.Field.{Field}
use Rattle.card.specs.Fields.{joined}
use Rattle.card.specs.Card.{Form, float, component, pair_value, layout, size}
use Rattle.card.proofs.Fields.{below, joined_length, joined_at}
use Rattle.card_lists.specs.Lists.{number_at, column, orders, pairs_before, pair_number, pair_entry, pair_list}
use Rattle.card_lists.proofs.Lists.{twice_before, pair_below, less_one, entry_end}
use Rattle.card_of_lists.specs.Cards.{pattern, pair_row, pair_rows}
use Rattle.card_round_trips.proofs.Fields.{Fits}
use Rattle.card_round_trips.proofs.Joined.{joined_same, singles, cut, take_2, parts_length, entry_of, Below, below_append, below_joined}
use Rattle.card_round_trips.proofs.Tested.{number_back, pattern_back, pattern_small, same_float, same_number, Pairs}

-- each number of a list is an f64: what a list of the code keeps
abbrev pub Floats : List Float → Type 0
Floats l = (i : ℕ) → T (fits binary64 (at l i))

-- ---- entries of the lists of a card
pub column_at : (v : List ℕ) (size n e i : ℕ) → i < n → at (column v size n e) i ≡ number_at v (i * size + e)
unfolding column
column_at v size n e i h =
    let k : i * 1 + 0 ≡ i = omega arith in
    rw k at (joined_at n 1 (λ i. number_at v (i * size + e) ∷ []) (λ _. refl) i 0 nan h (omega arith))

pub orders_at_entry : (v : List ℕ) (n i : ℕ) → i < n → get_or (orders v n) i 0 ≡ get_or v (i * 6 + 5) 0 % 4
unfolding orders
orders_at_entry v n i h =
    let k : i * 1 + 0 ≡ i = omega arith in
    rw k at (joined_at n 1 (λ i. get_or v (i * 6 + 5) 0 % 4 ∷ []) (λ _. refl) i 0 0 h (omega arith))

pub pairs_at : (v : List ℕ) (start n e i j : ℕ) → i < n → j < n → square n (pair_list v start n e) i j ≡ pair_entry v start n e i j
unfolding pair_list
pairs_at v start n e i j h g =
    let row : ℕ → List Float = λ i. joined n (λ j. pair_entry v start n e i j ∷ []) in
    let one : n * 1 ≡ n = omega arith in
    let k : j * 1 + 0 ≡ j = omega arith in
    let m : i * n + j ≡ n * i + j = rw (mul_comm i n) in
    rw m at (joined_at n n row (λ i. joined_length n 1 (λ j. pair_entry v start n e i j ∷ []) (λ _. refl) ∙ one) i j nan h g)
    ∙ rw k at (joined_at n 1 (λ j. pair_entry v start n e i j ∷ []) (λ _. refl) j 0 nan g (omega arith))

module _ (v : List ℕ) (start n e i d : ℕ) where
  pub entry_above : pair_entry v start n e i (i + 1 + d) ≡ number_at v (start + 2 * (pairs_before n i + d) + e)
  unfolding pair_entry pair_number
  entry_above =
      let z = ne_eqb i (i + 1 + d) (λ q. omega (arith, q)) in
      let a : min i (i + 1 + d) ≡ i = omega arith in
      let b : max i (i + 1 + d) ≡ i + 1 + d = omega arith in
      let c : i + 1 + d - 1 - i ≡ d = omega arith in
      rw (z, a, b, c)

  pub entry_below : pair_entry v start n e (i + 1 + d) i ≡ number_at v (start + 2 * (pairs_before n i + d) + e)
  unfolding pair_entry pair_number
  entry_below =
      let z = ne_eqb (i + 1 + d) i (λ q. omega (arith, q)) in
      let a : min (i + 1 + d) i ≡ i = omega arith in
      let b : max (i + 1 + d) i ≡ i + 1 + d = omega arith in
      let c : i + 1 + d - 1 - i ≡ d = omega arith in
      rw (z, a, b, c)

-- how many numbers all pairs have
pub before_all : (n : ℕ) → 2 * pairs_before n n ≡ n * (n - 1)
before_all n = let a = twice_before n n (omega arith) in let b = less_one n in omega (arith, a, b)

before_next : (n i : ℕ) → 2 * pairs_before n (suc i) ≡ 2 * pairs_before n i + 2 * (n - 1 - i)
unfolding pairs_before turns
before_next n i = omega arith

before_none : (n : ℕ) → 2 * pairs_before n 0 ≡ 0
unfolding pairs_before turns
before_none n = refl

-- ---- from a card's numbers to lists and back
pub value_back : (v : List ℕ) (k : ℕ) → get_or v k 0 < 2 ^ 64 → is_nan (number_at v k) ≡ false → pattern (number_at v k) ≡ get_or v k 0
value_back v k h e = pattern_back (get_or v k 0) h e

module _ (v : List ℕ) (start n : ℕ) (whole : length v ≡ start + n * (n - 1)) (small : (k : ℕ) → get_or v k 0 < 2 ^ 64)
    (p : Pairs n (square n (pair_list v start n 0))) (q : Pairs n (square n (pair_list v start n 1))) where
  pair_back : (e i d : ℕ) → Pairs n (square n (pair_list v start n e)) → i + 1 + d < n → pattern (square n (pair_list v start n e) i (i + 1 + d)) ≡ get_or v (start + 2 * (pairs_before n i + d) + e) 0
  pair_back e i d s h =
      let a = pairs_at v start n e i (i + 1 + d) (omega arith) h ∙ entry_above v start n e i d in
      let z = same_number _ _ (s.swap i (i + 1 + d) (omega arith) h (λ q. omega (arith, q))) in
      rw a (value_back v (start + 2 * (pairs_before n i + d) + e) (small (start + 2 * (pairs_before n i + d) + e)) (rw a at z))

  row_back : (i : ℕ) → i < n → pair_row n (pair_list v start n 0) (pair_list v start n 1) i ≡ take (2 * (n - 1 - i)) (drop (2 * pairs_before n i) (drop start v))
  unfolding pair_row
  row_back i h =
      cut (λ d. 2 * d) (λ _. 2) (λ d. pattern (square n (pair_list v start n 0) i (i + 1 + d)) ∷ pattern (square n (pair_list v start n 1) i (i + 1 + d)) ∷ []) (drop (2 * pairs_before n i) (drop start v)) (n - 1 - i) refl (λ d g. omega arith) (λ d g. two d g)
    where
      two : (d : ℕ) → d < n - 1 - i → pattern (square n (pair_list v start n 0) i (i + 1 + d)) ∷ pattern (square n (pair_list v start n 1) i (i + 1 + d)) ∷ [] ≡ take 2 (drop (2 * d) (drop (2 * pairs_before n i) (drop start v)))
      two d g =
          let a = start + 2 * (pairs_before n i + d) in
          let e : start + (2 * pairs_before n i + 2 * d) ≡ a = omega arith in
          let z : a + 0 ≡ a = omega arith in
          let c : i + 1 + d - 1 - i ≡ d = omega arith in
          let b = rw c at (pair_below n i (i + 1 + d) (omega arith) (omega arith)) in
          let t = take_2 a v (omega (arith, b, whole)) in
          let x = rw z at (pair_back 0 i d p (omega arith)) in
          let y = pair_back 1 i d q (omega arith) in
          rw (x, y, drop-drop (2 * d) (2 * pairs_before n i) (drop start v), drop-drop (2 * pairs_before n i + 2 * d) start v, e) (sym t)

  pub rows_back : pair_rows n (pair_list v start n 0) (pair_list v start n 1) ≡ drop start v
  unfolding pair_rows
  rows_back =
      let l : length (drop start v) ≤ 2 * pairs_before n n = rw (length-drop start v, before_all n) (omega (arith, whole)) in
      cut (λ i. 2 * pairs_before n i) (λ i. 2 * (n - 1 - i)) (pair_row n (pair_list v start n 0) (pair_list v start n 1)) (drop start v) n (before_none n) (λ i h. before_next n i) (λ i h. row_back i h)
      ∙ take_all (2 * pairs_before n n) (drop start v) l

-- ---- from lists to a card's numbers and back
pub column_back : (v : List ℕ) (size n e : ℕ) (l : List Float) → length l ≡ n → Floats l → ((i : ℕ) → i < n → get_or v (i * size + e) 0 ≡ pattern (at l i)) → column v size n e ≡ l
unfolding column
column_back v size n e l w f h =
    joined_same n (λ i. number_at v (i * size + e) ∷ []) (λ i. at l i ∷ []) (λ i g. ap (λ (x : Float). x ∷ []) (ap (of_bits binary64) (h i g) ∙ number_back (at l i) (f i)))
    ∙ singles nan l n (le_of_eq (sym w))
    ∙ take_all n l (le_of_eq w)

zero_is : zero64 ≡ decimal false 0 0
unfolding decimal of_bits round
zero_is = refl

module _ (v : List ℕ) (start n e : ℕ) (l : List Float) (w : length l ≡ n * n) (f : Floats l) (s : Pairs n (square n l))
    (h : (i d : ℕ) → i + 1 + d < n → get_or v (start + 2 * (pairs_before n i + d) + e) 0 ≡ pattern (square n l i (i + 1 + d))) where
  above : (i d : ℕ) → i + 1 + d < n → number_at v (start + 2 * (pairs_before n i + d) + e) ≡ square n l i (i + 1 + d)
  above i d g = ap (of_bits binary64) (h i d g) ∙ number_back (square n l i (i + 1 + d)) (f (n * i + (i + 1 + d)))

  entry_is : (i j : ℕ) → i < n → j < n → pair_entry v start n e i j ≡ square n l i j
  unfolding fits decimal
  entry_is i j a b = first (eqb i j) refl
    where
      below : (t : Bool) → ltb i j ≡ t → (i ≡ j → ⊥) → pair_entry v start n e i j ≡ square n l i j
      below true t z =
          let lt = ltb-true i j t in
          let d = j - 1 - i in
          let k : i + 1 + d ≡ j = omega arith in
          rw k at (entry_above v start n e i d ∙ above i d (omega arith))
      below false t z =
          let ge = ltb-false i j t in
          let d = i - 1 - j in
          let k : j + 1 + d ≡ i = omega (arith, z) in
          rw k at (entry_below v start n e j d ∙ above j d (omega (arith, z))) ∙ sym (same_float (square n l i j) (square n l j i) (f (n * i + j)) (f (n * j + i)) (s.swap i j a b z))

      first : (t : Bool) → eqb i j ≡ t → pair_entry v start n e i j ≡ square n l i j
      first true t =
          let k = eqb-true i j t in
          let x = same_float (square n l i i) (decimal false 0 0) (f (n * i + i)) tt (s.end i a) in
          sym (entry_end v start n e i j k) ∙ zero_is ∙ sym x ∙ ap (λ (m : ℕ). square n l i m) k
      first false t = below (ltb i j) refl (eqb-false i j t)

  pub pairs_back : pair_list v start n e ≡ l
  unfolding pair_list
  pairs_back =
      cut (λ i. n * i) (λ _. n) (λ i. joined n (λ j. pair_entry v start n e i j ∷ [])) l n (omega arith) (λ i g. mul-suc n i) (λ i g. row i g)
      ∙ take_all (n * n) l (le_of_eq w)
    where
      row : (i : ℕ) → i < n → joined n (λ j. pair_entry v start n e i j ∷ []) ≡ take n (drop (n * i) l)
      row i g =
          let a = mul-suc n i in
          let b = mul-le-mul (le_refl n) g in
          let k : n ≤ length (drop (n * i) l) = rw (length-drop (n * i) l, w) (omega (arith, a, b)) in
          joined_same n (λ j. pair_entry v start n e i j ∷ []) (λ j. get_or (drop (n * i) l) j nan ∷ []) (λ j c. ap (λ (x : Float). x ∷ []) (entry_is i j g c ∙ sym (get_or-drop (n * i) l j nan)))
          ∙ singles nan (drop (n * i) l) n k

-- ---- where a card's numbers lie, those of components in parts of m
module _ (n m : ℕ) (part : ℕ → List ℕ) (parts : (i : ℕ) → length (part i) ≡ m) (k l : List Float) where
  front : length (joined n part) ≡ n * m
  front = joined_length n m part parts

  row_length : (i : ℕ) → length (pair_row n k l i) ≡ 2 * (n - 1 - i)
  unfolding pair_row
  row_length i = joined_length (n - 1 - i) 2 (λ d. pattern (square n k i (i + 1 + d)) ∷ pattern (square n l i (i + 1 + d)) ∷ []) (λ _. refl) ∙ mul_comm (n - 1 - i) 2

  rows_length : (i : ℕ) → length (joined i (pair_row n k l)) ≡ 2 * pairs_before n i
  rows_length i = parts_length (λ i. 2 * pairs_before n i) (λ i. 2 * (n - 1 - i)) (pair_row n k l) i (before_none n) (λ j h. before_next n j) (λ j h. row_length j)

  pub numbers_length : length (joined n part ++ pair_rows n k l) ≡ n * m + n * (n - 1)
  unfolding pair_rows
  numbers_length = length-append (joined n part) (joined n (pair_row n k l)) ∙ rw (front, rows_length n, before_all n)

  pub component_entry : (i e : ℕ) → i < n → e < m → get_or (joined n part ++ pair_rows n k l) (i * m + e) 0 ≡ get_or (part i) e 0
  component_entry i e h g =
      get_or-append (joined n part) (pair_rows n k l) 0 (i * m + e) (rw front (below i n m e h g)) ∙ joined_at n m part parts i e 0 h g

  pub pair_entry_is : (i d e : ℕ) → i + 1 + d < n → e < 2
      → get_or (joined n part ++ pair_rows n k l) (n * m + 2 * (pairs_before n i + d) + e) 0 ≡ get_or (pattern (square n k i (i + 1 + d)) ∷ pattern (square n l i (i + 1 + d)) ∷ []) e 0
  unfolding pair_rows pair_row
  pair_entry_is i d e h g =
      let a : n * m + 2 * (pairs_before n i + d) + e ≡ n * m + (2 * pairs_before n i + (d * 2 + e)) = omega arith in
      let b : d * 2 + e < length (pair_row n k l i) = rw (row_length i) (omega arith) in
      let c = rw (rows_length i) at (entry_of (pair_row n k l) 0 n i (d * 2 + e) (omega arith) b) in
      let f = rw front at (get_or-append-add (joined n part) (joined n (pair_row n k l)) (2 * pairs_before n i + (d * 2 + e)) 0) in
      rw a (f ∙ c ∙ joined_at (n - 1 - i) 2 (λ d. pattern (square n k i (i + 1 + d)) ∷ pattern (square n l i (i + 1 + d)) ∷ []) (λ _. refl) d e 0 (omega arith) g)

  -- every number is below 2^64
  pub numbers_small : Floats k → Floats l → ((i : ℕ) → i < n → Below (2 ^ 64) (part i)) → Below (2 ^ 64) (joined n part ++ pair_rows n k l)
  unfolding pair_rows pair_row
  numbers_small f g h =
      below_append (2 ^ 64) (joined n part) (pair_rows n k l) (below_joined (2 ^ 64) n part (omega arith) h)
      (below_joined (2 ^ 64) n (pair_row n k l) (omega arith) (λ i p. below_joined (2 ^ 64) (n - 1 - i) (λ d. pattern (square n k i (i + 1 + d)) ∷ pattern (square n l i (i + 1 + d)) ∷ []) (omega arith) (λ d q. two i d)))
    where
      two : (i d : ℕ) → Below (2 ^ 64) (pattern (square n k i (i + 1 + d)) ∷ pattern (square n l i (i + 1 + d)) ∷ [])
      two i d zero = pattern_small (square n k i (i + 1 + d)) (f (n * i + (i + 1 + d)))
      two i d (suc zero) = pattern_small (square n l i (i + 1 + d)) (g (n * i + (i + 1 + d)))
      two i d (suc (suc j)) = omega arith

-- ---- widths: no field is wider than 64 bits
abbrev Narrow : List Field → Type 0
Narrow fs = (k : ℕ) → (get_or fs k float).width ≤ 64

narrow_append : (s t : List Field) → Narrow s → Narrow t → Narrow (s ++ t)
narrow_append [] t v w k = w k
narrow_append (f ∷ s) t v w zero = v 0
narrow_append (f ∷ s) t v w (suc k) = narrow_append s t (λ j. v (suc j)) w k

narrow_joined : (n : ℕ) (fs : List Field) → Narrow fs → Narrow (joined n (λ _. fs))
unfolding joined
narrow_joined zero fs w k = omega arith
narrow_joined (suc n) fs w k = narrow_append (joined n (λ _. fs)) fs (λ j. narrow_joined n fs w j) w k

narrow_pairs : (m : ℕ) (f : Form) → Narrow (replicate m (pair_value f))
narrow_pairs zero f k = omega arith
narrow_pairs (suc m) f zero = omega arith
narrow_pairs (suc m) f (suc k) = narrow_pairs m f k

narrow_component : (kind : ℕ) → Narrow (component kind)
unfolding component
narrow_component kind = either (eqb kind 0)
  where
    either : (b : Bool) (k : ℕ) → (get_or (cond b (float ∷ float ∷ float ∷ float ∷ float ∷ record { width = 2; spared = false } ∷ []) (float ∷ float ∷ float ∷ float ∷ float ∷ [])) k float).width ≤ 64
    either true zero = omega arith
    either true (suc zero) = omega arith
    either true (suc (suc zero)) = omega arith
    either true (suc (suc (suc zero))) = omega arith
    either true (suc (suc (suc (suc zero)))) = omega arith
    either true (suc (suc (suc (suc (suc zero))))) = omega arith
    either true (suc (suc (suc (suc (suc (suc k)))))) = omega arith
    either false zero = omega arith
    either false (suc zero) = omega arith
    either false (suc (suc zero)) = omega arith
    either false (suc (suc (suc zero))) = omega arith
    either false (suc (suc (suc (suc zero)))) = omega arith
    either false (suc (suc (suc (suc (suc k))))) = omega arith

pub layout_narrow : (f : Form) (kind n k : ℕ) → (get_or (layout f kind n) k float).width ≤ 64
unfolding layout
layout_narrow f kind n k = narrow_append (joined n (λ _. component kind)) (replicate (n * (n - 1)) (pair_value f)) (narrow_joined n (component kind) (narrow_component kind)) (narrow_pairs (n * (n - 1)) f) k

-- every number of fields that it fits
pub values_small : (f : Form) (kind n : ℕ) (vs : List ℕ) → Fits (layout f kind n) vs → (k : ℕ) → get_or vs k 0 < 2 ^ 64
values_small f kind n vs w k = either (ltb k (length vs)) refl
  where
    beyond : (l : List ℕ) (k : ℕ) → length l ≤ k → get_or l k 0 ≡ 0
    beyond [] k h = refl
    beyond (x ∷ l) zero h = absurd (omega arith)
    beyond (x ∷ l) (suc k) h = beyond l k (omega arith)

    either : (b : Bool) → ltb k (length vs) ≡ b → get_or vs k 0 < 2 ^ 64
    either true e =
        let h = ltb-true k (length vs) e in
        let s = w.same in
        lt_of_lt_of_le (w.small k (omega (arith, s, h))) (pow_mono (layout_narrow f kind n k))
    either false e = rw (beyond vs k (ltb-false k (length vs) e)) (omega arith)
