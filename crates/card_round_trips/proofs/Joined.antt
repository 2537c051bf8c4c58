-- Laws of lists that are joined from parts. Assumes nothing.
use Prim.Native.Nat.{ℕ, zero, suc, ◌+◌, ◌≤◌, ◌<◌}
use native.Mathlib.Nat.{eq-or-lt_of_le}
use mathlib.Core.Logic.{⊎_elim}
use native.Mathlib.Numerals.{add-one}
use native.Mathlib.Omega.{arith}
use lib.ListN.{length, take, drop, get_or, length-append, get_or-append}
use lib.Seq.{take-suc, take-add, drop-cons, get_or-append-add}
use mathlib.Core.Path.{◌≡◌, refl, sym, ◌∙◌, subst}
use mathlib.Core.List.{List, [], ◌∷◌, ◌++◌}
use Rattle.card.specs.Fields.{joined}

pub joined_same : {S : Type 0} (n : ℕ) (f g : ℕ → List S) → ((i : ℕ) → i < n → f i ≡ g i) → joined n f ≡ joined n g
unfolding joined
joined_same zero f g h = refl
joined_same (suc n) f g h = rw (joined_same n f g (λ i p. h i (omega arith)), h n (omega arith))

-- the entries of a list
pub singles : {S : Type 0} (d : S) (l : List S) (n : ℕ) → n ≤ length l → joined n (λ i. get_or l i d ∷ []) ≡ take n l
unfolding joined
singles d l zero h = refl
singles d l (suc n) h = rw (singles d l n (omega arith)) (sym (take-suc l n d (omega arith)))

-- parts of a list, cut one behind the other
pub cut : {S : Type 0} (at size : ℕ → ℕ) (f : ℕ → List S) (l : List S) (n : ℕ) → at 0 ≡ 0 → ((i : ℕ) → i < n → at (suc i) ≡ at i + size i) → ((i : ℕ) → i < n → f i ≡ take (size i) (drop (at i) l)) → joined n f ≡ take (at n) l
unfolding joined
cut at size f l zero z s h = rw z
cut at size f l (suc n) z s h =
    rw (cut at size f l n z (λ i p. s i (omega arith)) (λ i p. h i (omega arith)), h n (omega arith), s n (omega arith)) (sym (take-add (at n) (size n) l))

-- ---- the first entries behind a place
pub take_cons : (m a : ℕ) (l : List ℕ) → a < length l → take (suc m) (drop a l) ≡ get_or l a 0 ∷ take m (drop (a + 1) l)
take_cons m a l h = rw (add-one a, drop-cons l a 0 h)

pub take_2 : (a : ℕ) (l : List ℕ) → a + 2 ≤ length l → take 2 (drop a l) ≡ get_or l a 0 ∷ get_or l (a + 1) 0 ∷ []
take_2 a l h = rw (take_cons 1 a l (omega arith), take_cons 0 (a + 1) l (omega arith))

pub take_5 : (a : ℕ) (l : List ℕ) → a + 5 ≤ length l → take 5 (drop a l) ≡ get_or l (a + 0) 0 ∷ get_or l (a + 1) 0 ∷ get_or l (a + 2) 0 ∷ get_or l (a + 3) 0 ∷ get_or l (a + 4) 0 ∷ []
take_5 a l h =
    let e₀ : a + 0 ≡ a = omega arith in
    let e₂ : a + 1 + 1 ≡ a + 2 = omega arith in
    let e₃ : a + 2 + 1 ≡ a + 3 = omega arith in
    let e₄ : a + 3 + 1 ≡ a + 4 = omega arith in
    rw (e₀, take_cons 4 a l (omega arith), take_cons 3 (a + 1) l (omega arith), e₂, take_cons 2 (a + 2) l (omega arith), e₃, take_cons 1 (a + 3) l (omega arith), e₄, take_cons 0 (a + 4) l (omega arith))

pub take_6 : (a : ℕ) (l : List ℕ) → a + 6 ≤ length l
    → take 6 (drop a l) ≡ get_or l (a + 0) 0 ∷ get_or l (a + 1) 0 ∷ get_or l (a + 2) 0 ∷ get_or l (a + 3) 0 ∷ get_or l (a + 4) 0 ∷ get_or l (a + 5) 0 ∷ []
take_6 a l h =
    let e₀ : a + 0 ≡ a = omega arith in
    let e₂ : a + 1 + 1 ≡ a + 2 = omega arith in
    let e₃ : a + 2 + 1 ≡ a + 3 = omega arith in
    let e₄ : a + 3 + 1 ≡ a + 4 = omega arith in
    let e₅ : a + 4 + 1 ≡ a + 5 = omega arith in
    rw (e₀, take_cons 5 a l (omega arith), take_cons 4 (a + 1) l (omega arith), e₂, take_cons 3 (a + 2) l (omega arith), e₃, take_cons 2 (a + 3) l (omega arith), e₄, take_cons 1 (a + 4) l (omega arith), e₅, take_cons 0 (a + 5) l (omega arith))

-- ---- where the entries of a part lie
pub parts_length : {S : Type 0} (at size : ℕ → ℕ) (f : ℕ → List S) (n : ℕ) → at 0 ≡ 0 → ((i : ℕ) → i < n → at (suc i) ≡ at i + size i) → ((i : ℕ) → i < n → length (f i) ≡ size i) → length (joined n f) ≡ at n
unfolding joined
parts_length at size f zero z s h = sym z
parts_length at size f (suc n) z s h =
    rw (length-append (joined n f) (f n), parts_length at size f n z (λ i p. s i (omega arith)) (λ i p. h i (omega arith)), h n (omega arith)) (sym (s n (omega arith)))

inside : {S : Type 0} (f : ℕ → List S) (n i k : ℕ) → i < n → k < length (f i) → length (joined i f) + k < length (joined n f)
unfolding joined
inside f zero i k h g = absurd (omega arith)
inside f (suc n) i k h g =
    let i-le : i ≤ n = omega arith in
    ⊎_elim
    (λ r. let z : length (joined i f) + k < length (joined i f) + length (f i) = omega arith in rw (length-append (joined n f) (f n)) (subst (λ (m : ℕ). length (joined i f) + k < length (joined m f) + length (f m)) r z))
    (λ r. let q = inside f n i k r g in rw (length-append (joined n f) (f n)) (omega (arith, q)))
    (eq-or-lt_of_le i-le)

pub entry_of : {S : Type 0} (f : ℕ → List S) (d : S) (n i k : ℕ) → i < n → k < length (f i) → get_or (joined n f) (length (joined i f) + k) d ≡ get_or (f i) k d
unfolding joined
entry_of f d zero i k h g = absurd (omega arith)
entry_of f d (suc n) i k h g =
    let i-le : i ≤ n = omega arith in
    ⊎_elim
    (λ r. subst (λ (m : ℕ). get_or (joined m f ++ f m) (length (joined i f) + k) d ≡ get_or (f i) k d) r (get_or-append-add (joined i f) (f i) k d))
    (λ r. get_or-append (joined n f) (f n) d (length (joined i f) + k) (inside f n i k r g) ∙ entry_of f d n i k r g)
    (eq-or-lt_of_le i-le)

-- each entry below a bound
abbrev pub Below : ℕ → List ℕ → Type 0
Below b l = (k : ℕ) → get_or l k 0 < b

pub below_append : (b : ℕ) (s t : List ℕ) → Below b s → Below b t → Below b (s ++ t)
below_append b [] t v w k = w k
below_append b (x ∷ s) t v w zero = v 0
below_append b (x ∷ s) t v w (suc k) = below_append b s t (λ j. v (suc j)) w k

pub below_joined : (b n : ℕ) (f : ℕ → List ℕ) → 0 < b → ((i : ℕ) → i < n → Below b (f i)) → Below b (joined n f)
unfolding joined
below_joined b zero f z h k = z
below_joined b (suc n) f z h k = below_append b (joined n f) (f n) (λ j. below_joined b n f z (λ i p. h i (omega arith)) j) (h n (omega arith)) k
