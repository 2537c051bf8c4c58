-- Laws of walks, one for each place of a loop; of answers; and of what a call gave. Assumes nothing.
use Rattle.std.proofs.Common.{◌≡◌, ℕ, zero, suc, ◌+◌, ◌-◌, ◌<◌, ◌≤◌, Bool, true, false, sym, refl, ap, ◌∙◌, subst, add-one, arith}
use Rattle.std.specs.Prelude.{Result, Ok, Err, IsErr, IsErrAnd}
use Rattle.number.specs.Ans.{Ans, held, refused, ◌>>=◌, demand}
use Rattle.number.specs.Walk.{turns, walk}

-- what a call ensures, at the variant that it gave
pub via : {E S : Type 0} (f : E → S) {e x : E} {a : S} → f e ≡ a → e ≡ x → a ≡ f x
via f p q = sym p ∙ ap f q

-- a test that a call gave, at the branch that was taken
pub told : {S : Type 0} {r t b : S} → r ≡ t → r ≡ b → t ≡ b
told p q = sym p ∙ q

pub turns_none : {S : Type 0} (f : ℕ → S → S) (s : S) → s ≡ turns 0 f s
unfolding turns
turns_none f s = refl

pub turns_next : {S : Type 0} (n : ℕ) (f : ℕ → S → S) (s x y : S) → x ≡ turns n f s → y ≡ f n x → y ≡ turns (n + 1) f s
unfolding turns
turns_next n f s x y p q = rw add-one (q ∙ ap (f n) p)

pub turns_end : {S : Type 0} (n j : ℕ) (f : ℕ → S → S) (s x : S) → j ≤ n → n ≤ j → x ≡ turns j f s → x ≡ turns n f s
turns_end n j f s x p q e = let h : j ≡ n = omega arith in rw h at e

module _ {S : Type 0} (f : ℕ → S → Ans S) (s : S) where
  pub walk_none : held s ≡ walk 0 f s
  unfolding walk
  walk_none = refl

  step : (j : ℕ) → walk (j + 1) f s ≡ (walk j f s >>= f j)
  unfolding walk
  step j = rw add-one

  pub walk_next : (j : ℕ) (x y : S) → held x ≡ walk j f s → f j x ≡ held y → held y ≡ walk (j + 1) f s
  unfolding ◌>>=◌
  walk_next j x y q r = rw (step j, ← q, r)

  stays : (m j k : ℕ) → walk j f s ≡ refused m → walk (j + k) f s ≡ refused m
  unfolding ◌>>=◌
  stays m j zero e = let d : j + 0 ≡ j = omega arith in rw d e
  stays m j (suc k) e =
      let d : j + suc k ≡ (j + k) + 1 = omega arith in
      rw (d, step (j + k), stays m j k e)

  -- a turn that refuses is the answer
  pub walk_stop : (n j m : ℕ) (x : S) → j < n → held x ≡ walk j f s → f j x ≡ refused m → refused m ≡ walk n f s
  unfolding ◌>>=◌
  walk_stop n j m x h q r =
      let d : j + 1 + (n - (j + 1)) ≡ n = omega arith in
      let e : walk (j + 1) f s ≡ refused m = rw (step j, ← q) r in
      sym (rw d at (stays m (j + 1) (n - (j + 1)) e))

  pub walk_end : (n j : ℕ) (x : S) → j ≤ n → n ≤ j → held x ≡ walk j f s → held x ≡ walk n f s
  walk_end n j x p r e = let d : j ≡ n = omega arith in rw d at e

pub held_inj : {S : Type 0} (x y : S) → held x ≡ held y → x ≡ y
held_inj x y p = cc

pub then_held : {S T : Type 0} (a : Ans S) (f : S → Ans T) (y : T) → (a >>= f) ≡ held y → (x : S) × (a ≡ held x) × (f x ≡ held y)
unfolding ◌>>=◌
then_held (held x) f y p = (x, refl, p)
then_held (refused n) f y p = absurd (never n p)
  where
    never : (n : ℕ) → refused n ≡ held y → ⊥
    never n p = let z : ◌≡◌ {A = ℕ} 0 1 = cc in omega arith

pub demanded : (n : ℕ) (t x : Bool) → demand n t ≡ held x → t ≡ true
unfolding demand
demanded n true x p = refl
demanded n false x p = let z : ◌≡◌ {A = ℕ} 0 1 = cc in absurd (omega arith)

-- ---- answers that go on alike
pub then_same : {S T : Type 0} (a : Ans S) (f g : S → Ans T) → ((x : S) → f x ≡ g x) → (a >>= f) ≡ (a >>= g)
unfolding ◌>>=◌
then_same (held x) f g h = h x
then_same (refused n) f g h = refl

pub then_then : {S T U : Type 0} (a : Ans S) (f : S → Ans T) (g : T → Ans U) → ((a >>= f) >>= g) ≡ (a >>= λ x. f x >>= g)
unfolding ◌>>=◌
then_then (held x) f g = refl
then_then (refused n) f g = refl

pub walk_same : {S : Type 0} (n : ℕ) (f g : ℕ → S → Ans S) (s : S) → ((i : ℕ) (x : S) → f i x ≡ g i x) → walk n f s ≡ walk n g s
unfolding walk
walk_same zero f g s h = refl
walk_same (suc n) f g s h = ap (λ a. a >>= f n) (walk_same n f g s h) ∙ then_same (walk n g s) (f n) (g n) (h n)

-- what each turn keeps, the walk keeps
pub walk_keeps : {S : Type 0} (P : S → Type 0) (n : ℕ) (f : ℕ → S → Ans S) (s y : S)
    → ((j : ℕ) (x z : S) → P x → f j x ≡ held z → P z) → P s → walk n f s ≡ held y → P y
unfolding walk
walk_keeps P zero f s y k p e = subst P (held_inj s y e) p
walk_keeps P (suc n) f s y k p e = let h = then_held (walk n f s) (f n) y e in k n h.0 y (walk_keeps P n f s h.0 k p h.1) h.2

-- an error that `?` hands on
pub handed_on : {S E : Type 0} (r : Result S E) {e : E} → IsErr r × IsErrAnd r (λ x. x ≡ e) → r ≡ Err e
handed_on (Err x) (_, p) = ap Err p
handed_on (Ok x) (_, p) = absurd p
