-- Sums and walks of a run that begin at a number taken as a D: v is held as such before the first turn, and as it is from then on. Assumes nothing.
use Prim.Native.Nat.{ℕ, ◌+◌, ◌≤◌, ◌<◌}
use native.Mathlib.Omega.{arith}
use mathlib.Core.Path.{◌≡◌, sym, ap, ◌∙◌}
use Rattle.number.specs.Ans.{Ans, held, refused}
use Rattle.number.specs.Walk.{turns, walk}
use Rattle.number.proofs.Walk.{turns_none, turns_next, turns_end, walk_none, walk_next, walk_stop, walk_end}

module _ {S N : Type 0} (of : S → N) (taken : N → N) where
  pub record Holds (i : ℕ) (r : S) (v : N) : Type 0 where
    pub begun : taken v ≡ of r
    pub is : 0 < i → of r ≡ v

  pub holds_none : (r : S) (f : ℕ → N → N) (s : N) → taken s ≡ of r → Holds 0 r (turns 0 f s)
  holds_none r f s p = record { begun = rw (← turns_none f s) p; is = λ h. absurd (omega (arith, h)) }

  pub holds_next : ((x : S) → taken (of x) ≡ of x) → (i : ℕ) (f : ℕ → N → N) (s : N) (r : S) → of r ≡ f i (turns i f s) → Holds (i + 1) r (turns (i + 1) f s)
  holds_next law i f s r p =
      let e = turns_next i f s _ (of r) (mathlib.Core.Path.refl) p in
      record { begun = ap taken (sym e) ∙ law r; is = λ h. e }

  pub holds_end : (n i : ℕ) (f : ℕ → N → N) (s : N) (r : S) → i ≤ n → n ≤ i → 0 < n → Holds i r (turns i f s) → of r ≡ turns n f s
  holds_end n i f s r p q h t = turns_end n i f s (of r) p q (t.is (omega (arith, h, q)))

  -- a number added, to what is held
  pub added : (add : N → N → N) → ((v : N) (x : S) → add (taken v) (of x) ≡ add v (of x)) → (r p t : S) (v q : N) → of t ≡ add (of r) (of p) → taken v ≡ of r → of p ≡ q → of t ≡ add v q
  added add law r p t v q e b h = e ∙ ap (λ (a : N). add a (of p)) (sym b) ∙ law v p ∙ ap (add v) h

  -- where a turn can refuse
  pub record Walked (i : ℕ) (r : S) (a : Ans N) : Type 0 where
    pub v : N
    pub run : held v ≡ a
    pub holds : Holds i r v

  pub walked_none : (r : S) (f : ℕ → N → Ans N) (s : N) → taken s ≡ of r → Walked 0 r (walk 0 f s)
  walked_none r f s p = record { v = s; run = walk_none f s; holds = record { begun = p; is = λ h. absurd (omega (arith, h)) } }

  pub walked_next : ((x : S) → taken (of x) ≡ of x) → (i : ℕ) (f : ℕ → N → Ans N) (s : N) (r y : S) (t : Walked i r (walk i f s)) → f i t.v ≡ held (of y) → Walked (i + 1) y (walk (i + 1) f s)
  walked_next law i f s r y t p = record { v = of y; run = walk_next f s i t.v (of y) t.run p; holds = record { begun = law y; is = λ h. mathlib.Core.Path.refl } }

  pub walked_stop : (n i k : ℕ) (f : ℕ → N → Ans N) (s : N) (r : S) → i < n → (t : Walked i r (walk i f s)) → f i t.v ≡ refused k → refused k ≡ walk n f s
  walked_stop n i k f s r h t p = walk_stop f s n i k t.v h t.run p

  pub walked_end : (n i : ℕ) (f : ℕ → N → Ans N) (s : N) (r : S) → i ≤ n → n ≤ i → 0 < n → Walked i r (walk i f s) → held (of r) ≡ walk n f s
  walked_end n i f s r p q h t = walk_end f s n i (of r) p q (rw (t.holds.is (omega (arith, h, q))) t.run)
