-- Laws of numbers stored one after the other. Assumes nothing.
use Prim.Native.Nat.{ℕ, suc, ◌+◌, ◌*◌, ◌-◌, ◌≤◌, ◌<◌}
use native.Mathlib.Nat.{mul-le-mul, le_refl, suc-mul, mul_comm}
use native.Mathlib.Numerals.{add-one}
use native.Mathlib.Omega.{arith}
use lib.Ieee.{Float}
use lib.ListN.{length, take, get_or, set, length-set}
use lib.Seq.{take-suc-set}
use mathlib.Core.Path.{◌≡◌, sym, ◌∙◌}
use mathlib.Core.List.{List, [], ◌∷◌, ◌++◌, append_assoc, append-nil}
use Rattle.card.specs.Fields.{joined}
use Rattle.number.specs.Lists.{at}
use Rattle.card_of_lists.specs.Cards.{pattern, quantum_component, mie_component}

-- one number behind those that stand
pub push : (l xs : List ℕ) (at v : ℕ) → take at l ≡ xs → at < length l → take (at + 1) (set l at v) ≡ xs ++ (v ∷ [])
push l xs at v p h = rw (add-one, take-suc-set l at v h, p)

-- two, five and six of them, the first at `at + 0`: the code has named places
module _ (l xs : List ℕ) (at a b : ℕ) (p : take at l ≡ xs) where
  none : at + 0 ≡ at
  none = omega arith

  two : at + 2 ≤ length l → take (at + 2) (set (set l at a) (at + 1) b) ≡ xs ++ (a ∷ b ∷ [])
  two h =
      let one = push l xs at a p (omega arith) in
      let e : at + 2 ≡ at + 1 + 1 = omega arith in
      rw e (push (set l at a) (xs ++ (a ∷ [])) (at + 1) b one (rw (length-set l at a) (omega arith)) ∙ append_assoc xs (a ∷ []) (b ∷ []))

  pub push_2 : at + 2 ≤ length l → take (at + 2) (set (set l (at + 0) a) (at + 1) b) ≡ xs ++ (a ∷ b ∷ [])
  push_2 h = rw none (two h)

  module _ (c d e : ℕ) where
    five : at + 5 ≤ length l → take (at + 5) (set (set (set (set (set l at a) (at + 1) b) (at + 2) c) (at + 3) d) (at + 4) e) ≡ xs ++ (a ∷ b ∷ c ∷ d ∷ e ∷ [])
    five h =
        let l₂ = set (set l at a) (at + 1) b in
        let l₃ = set l₂ (at + 2) c in
        let l₄ = set l₃ (at + 3) d in
        let n₂ : length l₂ ≡ length l = length-set (set l at a) (at + 1) b ∙ length-set l at a in
        let n₃ : length l₃ ≡ length l = length-set l₂ (at + 2) c ∙ n₂ in
        let n₄ : length l₄ ≡ length l = length-set l₃ (at + 3) d ∙ n₃ in
        let e₃ : at + 3 ≡ at + 2 + 1 = omega arith in
        let e₄ : at + 4 ≡ at + 3 + 1 = omega arith in
        let e₅ : at + 5 ≡ at + 4 + 1 = omega arith in
        let q₃ : take (at + 3) l₃ ≡ xs ++ (a ∷ b ∷ c ∷ []) = rw e₃ (push l₂ (xs ++ (a ∷ b ∷ [])) (at + 2) c (two (omega arith)) (omega (arith, n₂)) ∙ append_assoc xs (a ∷ b ∷ []) (c ∷ [])) in
        let q₄ : take (at + 4) l₄ ≡ xs ++ (a ∷ b ∷ c ∷ d ∷ []) = rw e₄ (push l₃ (xs ++ (a ∷ b ∷ c ∷ [])) (at + 3) d q₃ (omega (arith, n₃)) ∙ append_assoc xs (a ∷ b ∷ c ∷ []) (d ∷ [])) in
        rw e₅ (push l₄ (xs ++ (a ∷ b ∷ c ∷ d ∷ [])) (at + 4) e q₄ (omega (arith, n₄)) ∙ append_assoc xs (a ∷ b ∷ c ∷ d ∷ []) (e ∷ []))

    six : (f : ℕ) → at + 6 ≤ length l
        → take (at + 6) (set (set (set (set (set (set l at a) (at + 1) b) (at + 2) c) (at + 3) d) (at + 4) e) (at + 5) f) ≡ xs ++ (a ∷ b ∷ c ∷ d ∷ e ∷ f ∷ [])
    six f h =
        let l₂ = set (set l at a) (at + 1) b in
        let l₃ = set l₂ (at + 2) c in
        let l₄ = set l₃ (at + 3) d in
        let l₅ = set l₄ (at + 4) e in
        let n₅ : length l₅ ≡ length l = length-set l₄ (at + 4) e ∙ length-set l₃ (at + 3) d ∙ length-set l₂ (at + 2) c ∙ length-set (set l at a) (at + 1) b ∙ length-set l at a in
        let e₆ : at + 6 ≡ at + 5 + 1 = omega arith in
        rw e₆ (push l₅ (xs ++ (a ∷ b ∷ c ∷ d ∷ e ∷ [])) (at + 5) f (five (omega arith)) (omega (arith, n₅)) ∙ append_assoc xs (a ∷ b ∷ c ∷ d ∷ e ∷ []) (f ∷ []))

    pub push_5 : at + 5 ≤ length l → take (at + 5) (set (set (set (set (set l (at + 0) a) (at + 1) b) (at + 2) c) (at + 3) d) (at + 4) e) ≡ xs ++ (a ∷ b ∷ c ∷ d ∷ e ∷ [])
    push_5 h = rw none (five h)

    pub push_6 : (f : ℕ) → at + 6 ≤ length l
        → take (at + 6) (set (set (set (set (set (set l (at + 0) a) (at + 1) b) (at + 2) c) (at + 3) d) (at + 4) e) (at + 5) f) ≡ xs ++ (a ∷ b ∷ c ∷ d ∷ e ∷ f ∷ [])
    push_6 f h = rw none (six f h)

-- one part more
pub joined_next : (n m at i : ℕ) (f : ℕ → List ℕ) (x part : List ℕ) → at ≡ i * m → part ≡ f i → take (at + m) x ≡ joined i f ++ part → take ((i + 1) * m) x ≡ joined (i + 1) f
unfolding joined
joined_next n m at i f x part a p e =
    let k : suc i * m ≡ at + m = suc-mul i m ∙ rw a in
    rw (add-one, k, ← p) e

pub parts_below : (i n m : ℕ) → i < n → i * m + m ≤ n * m
parts_below i n m h = rw (← suc-mul i m) (mul-le-mul h (le_refl m))

pub parts_small : (n m : ℕ) → n ≤ 12 → m ≤ 6 → n * m ≤ 72
parts_small n m h g = mul-le-mul h g

-- ---- pairs
pub row_none : (l : List ℕ) (at : ℕ) (g : ℕ → List ℕ) → take (at + 2 * 0) l ≡ take at l ++ joined 0 g
unfolding joined
row_none l at g = let e : at + 2 * 0 ≡ at = omega arith in rw e (sym (append-nil (take at l)))

pub row_next : (l l₀ : List ℕ) (at d a b : ℕ) (g : ℕ → List ℕ) → take (at + 2 * d) l ≡ take at l₀ ++ joined d g → at + 2 * d + 2 ≤ length l → a ∷ b ∷ [] ≡ g d
    → take (at + 2 * (d + 1)) (set (set l (at + 2 * d + 0) a) (at + 2 * d + 1) b) ≡ take at l₀ ++ joined (d + 1) g
unfolding joined
row_next l l₀ at d a b g p h e =
    let k : at + 2 * (d + 1) ≡ at + 2 * d + 2 = omega arith in
    rw (k, add-one d, ← e) (push_2 l (take at l₀ ++ joined d g) (at + 2 * d) a b p h ∙ append_assoc (take at l₀) (joined d g) (a ∷ b ∷ []))

-- the same of the pairs (i, i + 1) to (i, j - 1), by the pair's second component j
pub row_begun : (l : List ℕ) (at i : ℕ) (g : ℕ → List ℕ) → take (at + 2 * (i + 1 - i - 1)) l ≡ take at l ++ joined (i + 1 - i - 1) g
row_begun l at i g = let e : i + 1 - i - 1 ≡ 0 = omega arith in rw e (row_none l at g)

pub row_pair : (l l₀ : List ℕ) (at i j a b : ℕ) (g : ℕ → List ℕ) → i + 1 ≤ j → take (at + 2 * (j - i - 1)) l ≡ take at l₀ ++ joined (j - i - 1) g → at + 2 * (j - i - 1) + 2 ≤ length l → a ∷ b ∷ [] ≡ g (j - i - 1)
    → take (at + 2 * (j + 1 - i - 1)) (set (set l (at + 2 * (j - i - 1) + 0) a) (at + 2 * (j - i - 1) + 1) b) ≡ take at l₀ ++ joined (j + 1 - i - 1) g
row_pair l l₀ at i j a b g k p h e =
    let z : j + 1 - i - 1 ≡ j - i - 1 + 1 = omega arith in
    rw z (row_next l l₀ at (j - i - 1) a b g p h e)

pub row_end : (l l₀ : List ℕ) (at n d : ℕ) (g : ℕ → List ℕ) → d ≤ n → n ≤ d → take (at + 2 * d) l ≡ take at l₀ ++ joined d g → take (at + 2 * n) l ≡ take at l₀ ++ joined n g
row_end l l₀ at n d g h k p = let e : d ≡ n = omega arith in rw e at p

pub rows_none : (l : List ℕ) (at : ℕ) (g : ℕ → List ℕ) → take at l ≡ take at l ++ joined 0 g
unfolding joined
rows_none l at g = sym (append-nil (take at l))

pub rows_next : (l new l₀ : List ℕ) (at more start i : ℕ) (g : ℕ → List ℕ) → take at l ≡ take start l₀ ++ joined i g → take (at + more) new ≡ take at l ++ g i → take (at + more) new ≡ take start l₀ ++ joined (i + 1) g
unfolding joined
rows_next l new l₀ at more start i g p q = rw (add-one i) (q ∙ rw p (append_assoc (take start l₀) (joined i g) (g i)))

pub cell_below : (n i j : ℕ) → i < n → j < n → n * i + j < n * n
cell_below n i j h g =
    let a = mul-le-mul (le_refl n) h in
    let b = mul_comm n (suc i) in
    let c = suc-mul i n in
    let d = mul_comm i n in
    omega (arith, a, b, c, d)

pub square_small : (n : ℕ) → n ≤ 12 → n * n ≤ 144
square_small n h = mul-le-mul h h

pub pairs_small : (n : ℕ) → n ≤ 12 → n * (n - 1) ≤ 132
pairs_small n h = let g : n - 1 ≤ 11 = omega arith in mul-le-mul h g

-- ---- a component's numbers, as the code works them
pub quantum_part : (sigma epsilon_k lr la mass : List Float) (fh : List ℕ) (i a b c d e : ℕ)
    → a ≡ pattern (at sigma i) → b ≡ pattern (at epsilon_k i) → c ≡ pattern (at lr i) → d ≡ pattern (at la i) → e ≡ pattern (at mass i)
    → a ∷ b ∷ c ∷ d ∷ e ∷ get_or fh i 0 ∷ [] ≡ quantum_component sigma epsilon_k lr la mass fh i
unfolding quantum_component
quantum_part sigma epsilon_k lr la mass fh i a b c d e p q r s t = rw (p, q, r, s, t)

pub mie_part : (m sigma epsilon_k lr la : List Float) (i a b c d e : ℕ)
    → a ≡ pattern (at m i) → b ≡ pattern (at sigma i) → c ≡ pattern (at epsilon_k i) → d ≡ pattern (at lr i) → e ≡ pattern (at la i)
    → a ∷ b ∷ c ∷ d ∷ e ∷ [] ≡ mie_component m sigma epsilon_k lr la i
unfolding mie_component
mie_part m sigma epsilon_k lr la i a b c d e p q r s t = rw (p, q, r, s, t)

pub pair_part : (x y : Float) (a b : ℕ) → a ≡ pattern x → b ≡ pattern y → a ∷ b ∷ [] ≡ pattern x ∷ pattern y ∷ []
pair_part x y a b p q = rw (p, q)

pub parts_none : (m : ℕ) (f : ℕ → List ℕ) (l : List ℕ) → take (0 * m) l ≡ joined 0 f
unfolding joined
parts_none m f l = let e : 0 * m ≡ 0 = omega arith in rw e
