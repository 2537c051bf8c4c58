-- Laws of the list of fields: which field stands where, and how many there are. Assumes nothing.
use Prim.Native.Nat.{ℕ, zero, suc, ◌+◌, ◌*◌, ◌-◌, ◌/◌, ◌%◌, ◌≤◌, ◌<◌}
use native.Mathlib.Nat.{eq-or-lt_of_le, mul-le-mul, le_refl, suc-mul}
use native.Mathlib.Omega.{arith}
use lib.Dec.{eqb}
use lib.ListN.{length, get_or, replicate, length-append, length-replicate, get_or-replicate, get_or-append}
use lib.Seq.{get_or-append-add}
use mathlib.Core.Path.{◌≡◌, refl, sym, ◌∙◌, subst}
use mathlib.Core.Bool.{Bool, true, false, cond}
use mathlib.Core.List.{List, [], ◌∷◌, ◌++◌}
use mathlib.Core.Logic.{⊎_elim}
use Rattle.card.specs.Fields.{joined}
use Rattle.card.specs.Card.{Form, form_of, float, pair_value, component, size, layout, value_count, kind_of, number_of}
use Rattle.card.specs.declared.Field.{Field}
use Rattle.card.specs.declared.Kind.{Kind}
use Rattle.card.specs.declared.Kind.TheVariants.{Quantum, Mie}

pub joined_length : {S : Type 0} (n m : ℕ) (f : ℕ → List S) → ((i : ℕ) → length (f i) ≡ m) → length (joined n f) ≡ n * m
unfolding joined
joined_length zero m f h = omega arith
joined_length (suc n) m f h = rw (length-append (joined n f) (f n), joined_length n m f h, h n, suc-mul n m)

pub below : (i n m e : ℕ) → i < n → e < m → i * m + e < n * m
below i n m e h g = let p = mul-le-mul h (le_refl m) in omega (arith, rw (suc-mul i m) at p)

-- entry e of part i
pub joined_at : {S : Type 0} (n m : ℕ) (f : ℕ → List S) → ((i : ℕ) → length (f i) ≡ m) → (i e : ℕ) (d : S) → i < n → e < m → get_or (joined n f) (i * m + e) d ≡ get_or (f i) e d
unfolding joined
joined_at zero m f h i e d p q = absurd (omega arith)
joined_at (suc n) m f h i e d p q =
    let whole = joined_length n m f h in
    let i-le : i ≤ n = omega arith in
    ⊎_elim
    (λ r. subst (λ (x : ℕ). get_or (joined n f ++ f n) (x * m + e) d ≡ get_or (f x) e d) (sym r) (subst (λ (x : ℕ). get_or (joined n f ++ f n) (x + e) d ≡ get_or (f n) e d) whole (get_or-append-add (joined n f) (f n) e d)))
    (λ r. get_or-append (joined n f) (f n) d (i * m + e) (rw whole (below i n m e r q)) ∙ joined_at n m f h i e d r q)
    (eq-or-lt_of_le i-le)

-- ---- a card's fields
component_length : (kind : ℕ) → length (component kind) ≡ size kind
unfolding component
component_length kind = either (eqb kind 0)
  where
    either : (b : Bool) → length (cond b (float ∷ float ∷ float ∷ float ∷ float ∷ record { width = 2; spared = false } ∷ []) (float ∷ float ∷ float ∷ float ∷ float ∷ [])) ≡ cond b 6 5
    either true = refl
    either false = refl

pub layout_length : (f : Form) (kind n : ℕ) → length (layout f kind n) ≡ value_count kind n
unfolding layout
layout_length f kind n =
    rw (length-append (joined n (λ _. component kind)) (replicate (n * (n - 1)) (pair_value f)), joined_length n (size kind) (λ _. component kind) (λ _. component_length kind), length-replicate (n * (n - 1)) (pair_value f))

module _ (f : Form) (kind n : ℕ) where
  parts : length (joined n (λ _. component kind)) ≡ n * size kind
  parts = joined_length n (size kind) (λ _. component kind) (λ _. component_length kind)

  pub layout_component : (i e : ℕ) → i < n → e < size kind → get_or (layout f kind n) (i * size kind + e) float ≡ get_or (component kind) e float
  unfolding layout
  layout_component i e h g =
      get_or-append (joined n (λ _. component kind)) (replicate (n * (n - 1)) (pair_value f)) float (i * size kind + e) (rw parts (below i n (size kind) e h g))
      ∙ joined_at n (size kind) (λ _. component kind) (λ _. component_length kind) i e float h g

  pub layout_pair : (e : ℕ) → e < n * (n - 1) → get_or (layout f kind n) (n * size kind + e) float ≡ pair_value f
  unfolding layout
  layout_pair e h =
      rw (← parts, get_or-append-add (joined n (λ _. component kind)) (replicate (n * (n - 1)) (pair_value f)) e float)
      (get_or-replicate (n * (n - 1)) e (pair_value f) float h)

-- ---- a number for a kind: the kind of it has the number's fields
number_any : {S : Type 0} (k : ℕ) (x y : S) → cond (eqb (number_of (kind_of k)) 0) x y ≡ cond (eqb k 0) x y
number_any {S} k x y = either (eqb k 0)
  where
    either : (b : Bool) → cond (eqb (number_of (cond b Quantum Mie)) 0) x y ≡ cond b x y
    either true = refl
    either false = refl

pub count_any : (k n : ℕ) → value_count (number_of (kind_of k)) n ≡ value_count k n
count_any k n = rw (number_any {S = ℕ} k 6 5) refl

pub layout_any : (f : Form) (k n : ℕ) → layout f (number_of (kind_of k)) n ≡ layout f k n
unfolding layout component
layout_any f k n = rw (number_any {S = List Field} k (float ∷ float ∷ float ∷ float ∷ float ∷ record { width = 2; spared = false } ∷ []) (float ∷ float ∷ float ∷ float ∷ float ∷ [])) refl

-- of the kind of 0 or 1 the number is that again
pub number_same : (kind : Kind) (k : ℕ) → kind ≡ kind_of k → k ≤ 1 → number_of kind ≡ k
number_same kind zero e h = rw e refl
number_same kind (suc zero) e h = rw e refl
number_same kind (suc (suc k)) e h = absurd (omega arith)

-- ---- field k as the code finds it, of s numbers a component
module _ (newer : Bool) (n k s kind : ℕ) (y : s ≡ size kind) where
  -- of the quantum model
  pub order_field : kind ≡ 0 → k < n * s → k % 6 ≡ 5 → record { width = 2; spared = false } ≡ get_or (layout (form_of newer) kind n) k float
  unfolding component
  order_field z h e =
      let b : k < n * 6 = rw (y, z) at h in
      let d : k / 6 * 6 + 5 ≡ k = omega arith in
      sym (rw z (rw d at (layout_component (form_of newer) 0 n (k / 6) 5 (omega arith) (omega arith))))

  pub quantum_field : kind ≡ 0 → k < n * s → (k % 6 ≡ 5 → ⊥) → float ≡ get_or (layout (form_of newer) kind n) k float
  unfolding component
  quantum_field z h e =
      let a : k < n * 6 = rw (y, z) at h in
      let d : k / 6 * 6 + k % 6 ≡ k = omega arith in
      let b : k % 6 < 5 = omega arith in
      sym (rw z (rw d at (layout_component (form_of newer) 0 n (k / 6) (k % 6) (omega arith) (omega arith) ∙ fifth (k % 6) b)))
    where
      fifth : (e : ℕ) → e < 5 → get_or (float ∷ float ∷ float ∷ float ∷ float ∷ record { width = 2; spared = false } ∷ []) e float ≡ float
      fifth zero b = refl
      fifth (suc zero) b = refl
      fifth (suc (suc zero)) b = refl
      fifth (suc (suc (suc zero))) b = refl
      fifth (suc (suc (suc (suc zero)))) b = refl
      fifth (suc (suc (suc (suc (suc e))))) b = absurd (omega arith)

  pub mie_field : kind ≡ 1 → k < n * s → float ≡ get_or (layout (form_of newer) kind n) k float
  unfolding component
  mie_field z h =
      let a : k < n * 5 = rw (y, z) at h in
      let d : k / 5 * 5 + k % 5 ≡ k = omega arith in
      sym (rw z (rw d at (layout_component (form_of newer) 1 n (k / 5) (k % 5) (omega arith) (omega arith) ∙ fifth (k % 5))))
    where
      fifth : (e : ℕ) → get_or (float ∷ float ∷ float ∷ float ∷ float ∷ []) e float ≡ float
      fifth zero = refl
      fifth (suc zero) = refl
      fifth (suc (suc zero)) = refl
      fifth (suc (suc (suc zero))) = refl
      fifth (suc (suc (suc (suc zero)))) = refl
      fifth (suc (suc (suc (suc (suc e))))) = refl

  pub pair_field : (spared : Bool) → spared ≡ (form_of newer).spared → n * s ≤ k → k < value_count kind n → record { width = 64; spared = spared } ≡ get_or (layout (form_of newer) kind n) k float
  pair_field spared z h g =
      let d : n * s + (k - n * s) ≡ k = omega arith in
      let b = rw (sym y) at g in
      let p = rw (sym y) at (layout_pair (form_of newer) kind n (k - n * s)) in
      sym (rw (d, ← z) at (p (omega (arith, b))))
