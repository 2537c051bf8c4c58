-- Answers where the first may refuse more: two of one run (`Le`: what holds stays), and two that a relation holds between (`Kept`). Assumes nothing.
use Prim.Native.Nat.{ℕ, zero, suc}
use native.Mathlib.Omega.{arith}
use mathlib.Core.Path.{◌≡◌, refl, subst}
use mathlib.Core.Bool.{Bool, true, false, cond}
use Rattle.number.specs.Ans.{Ans, held, refused, ◌>>=◌}
use Rattle.number.specs.Walk.{walk}
use Rattle.number.proofs.Walk.{then_held, held_inj}
use Rattle.number.proofs.Rel.{Both, both_held, both_refused}

-- ---- fewer refusals keep what holds
pub record Le {S : Type 0} (a b : Ans S) : Type 0 where
  pub stays : (x : S) → a ≡ held x → b ≡ held x

pub le_refl : {S : Type 0} {a : Ans S} → Le a a
le_refl = record { stays = λ x p. p }

never : {S : Type 0} (n : ℕ) (x : S) → refused n ≡ held x → ⊥
never n x p = let z : ◌≡◌ {A = ℕ} 0 1 = cc in omega arith

pub le_refused : {S : Type 0} (n : ℕ) (b : Ans S) → Le (refused n) b
le_refused n b = record { stays = λ x p. absurd (never n x p) }

joined : {S T : Type 0} (b : Ans S) (g : S → Ans T) (x : S) (y : T) → b ≡ held x → g x ≡ held y → (b >>= g) ≡ held y
unfolding ◌>>=◌
joined b g x y p q = rw p q

pub then_le : {S T : Type 0} {a b : Ans S} {f g : S → Ans T} → Le a b → ((x : S) → Le (f x) (g x)) → Le (a >>= f) (b >>= g)
then_le {a = a} {b = b} {f = f} {g = g} p q = record { stays = λ y e. (let h = then_held a f y e in joined b g h.0 y (p.stays h.0 h.1) ((q h.0).stays y h.2)) }

pub cond_le : {S : Type 0} (t : Bool) {a b : Ans S} (c : Ans S) → Le a b → Le (cond t a c) (cond t b c)
cond_le true c p = p
cond_le false c p = le_refl

pub walk_le : {S : Type 0} (n : ℕ) (f g : ℕ → S → Ans S) (s : S) → ((j : ℕ) (x : S) → Le (f j x) (g j x)) → Le (walk n f s) (walk n g s)
unfolding walk
walk_le zero f g s h = le_refl
walk_le (suc n) f g s h = then_le (walk_le n f g s h) (h n)

-- ---- where the first holds, the second holds, and the relation between what they hold
pub data Kept {S T : Type 0} (R : S → T → Type 0) : Ans S → Ans T → Type 0 where
  kept_held : {x : S} {y : T} → R x y → Kept R (held x) (held y)
  kept_refused : {n : ℕ} {b : Ans T} → Kept R (refused n) b

pub both_kept : {S T : Type 0} {R : S → T → Type 0} {a : Ans S} {b : Ans T} → Both R a b → Kept R a b
both_kept (both_held p) = kept_held p
both_kept both_refused = kept_refused

pub le_kept : {S T : Type 0} {R : S → T → Type 0} (a a' : Ans S) {b : Ans T} → Le a a' → Both R a' b → Kept R a b
le_kept {R = R} (held x) a' {b} p q = both_kept (subst (λ (c : Ans _). Both R c b) (p.stays x refl) q)
le_kept (refused n) a' p q = kept_refused

pub then_kept : {S T S' T' : Type 0} {R : S → T → Type 0} {R' : S' → T' → Type 0} {a : Ans S} {b : Ans T} {f : S → Ans S'} {g : T → Ans T'}
    → Kept R a b → ((x : S) (y : T) → R x y → Kept R' (f x) (g y)) → Kept R' (a >>= f) (b >>= g)
unfolding ◌>>=◌
then_kept (kept_held p) q = q _ _ p
then_kept kept_refused q = kept_refused

pub map_kept : {S T S' : Type 0} {R : S → T → Type 0} {R' : S' → T → Type 0} {a : Ans S} {b : Ans T} (f : S → S') → Kept R a b → ((x : S) (y : T) → R x y → R' (f x) y) → Kept R' (a >>= λ x. held (f x)) b
unfolding ◌>>=◌
map_kept f (kept_held p) q = kept_held (q _ _ p)
map_kept f kept_refused q = kept_refused

pub walk_kept : {S T : Type 0} (R : S → T → Type 0) (n : ℕ) (f : ℕ → S → Ans S) (g : ℕ → T → Ans T) {s : S} {t : T}
    → ((j : ℕ) (x : S) (y : T) → R x y → Kept R (f j x) (g j y)) → R s t → Kept R (walk n f s) (walk n g t)
unfolding walk
walk_kept R zero f g h p = kept_held p
walk_kept R (suc n) f g h p = then_kept (walk_kept R n f g h p) (h n)

-- what a relation gives where the first holds
pub kept_gives : {S T : Type 0} {R : S → T → Type 0} (a : Ans S) (b : Ans T) (x : S) → Kept R a b → a ≡ held x → (y : T) × (b ≡ held y) × R x y
kept_gives {R = R} a b x (kept_held {x = z} {y = y} p) e = (y, refl, subst (λ (w : _). R w y) (held_inj z x e) p)
kept_gives a b x (kept_refused {n = n}) e = absurd (never n x e)
