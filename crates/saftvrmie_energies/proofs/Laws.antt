-- Laws of the energies over plain values: unused work leaves a float as it is; the operation, test by test. Assumes nothing.
use Prim.Native.Nat.{ℕ, zero, suc, ◌≤◌}
use native.Mathlib.Omega.{arith}
use lib.Dec.{eqb}
use lib.Ieee.{Float}
use lib.ListN.{length}
use mathlib.Core.List.{List}
use mathlib.Core.Path.{◌≡◌, refl}
use mathlib.Core.Bool.{Bool, true, false, ◌&&◌}
use borrow.Author.Tests.{eqb-true}
use Rattle.std.proofs.lemmas.Bool.{and_parts}
use Rattle.number.specs.Ans.{Ans, held, refused, ◌>>=◌, demand}
use Rattle.std.specs.Prelude.{Result, Ok, Err, cond}
use Rattle.number.specs.Answer.{answer, answer_by, if_finite}
use Rattle.number.specs.declared.refusal.Refusal.{Refusal}
use Rattle.number.specs.Arith.{floats}
use Rattle.number.specs.Functions.{calls}
use Rattle.sizes.specs.Sizes.{side}
use Rattle.number.specs.Walk.{turns}
use Rattle.elementary.specs.Port.{port}
use Rattle.limits.specs.Limits.{count_within, state_within}
use Rattle.mie_parameters.proofs.Laws.{count_high}
use Rattle.saftvrmie_parameters.specs.declared.SaftVRMiePars.{SaftVRMiePars}
use Rattle.saftvrmie_energies.specs.Properties.{after_lower}
use Rattle.saftvrmie_energies.specs.Energies.{state_lengths, energy_run, energy_by, energy}

same : {S : Type 0} (n : ℕ) (f : ℕ → S → S) (s : S) → ((i : ℕ) (x : S) → f i x ≡ x) → turns n f s ≡ s
unfolding turns
same zero f s h = refl
same (suc n) f s h = rw (h n (turns n f s), same n f s h)

pub lower_is : (n : ℕ) (f : ℕ → ℕ → Float) (x : Float) → after_lower floats n f x ≡ x
unfolding after_lower
lower_is n f x = same n _ x (λ i y. same i _ y (λ j z. refl))

-- ---- 1 at last: the lists are as long as the count
module _ (n x rho d : ℕ) (p : state_lengths n x rho d ≡ true) where
  pub right_high : n ≤ side
  unfolding state_lengths
  right_high = count_high n (and_parts (count_within n) (eqb x n) (and_parts _ (eqb rho n) (and_parts _ (eqb d n) p).0).0).0

  pub right_x : x ≡ n
  unfolding state_lengths
  right_x = eqb-true x n (and_parts (count_within n) (eqb x n) (and_parts _ (eqb rho n) (and_parts _ (eqb d n) p).0).0).1

  pub right_rho : rho ≡ n
  unfolding state_lengths
  right_rho = eqb-true rho n (and_parts (count_within n && eqb x n) (eqb rho n) (and_parts _ (eqb d n) p).0).1

  pub right_d : d ≡ n
  unfolding state_lengths
  right_d = eqb-true d n (and_parts ((count_within n && eqb x n) && eqb rho n) (eqb d n) p).1

-- ---- 1, then 2: both tests pass, or the first that does not is told
pub first_passed : (a b : Bool) → cond a (cond b (held true) (refused 2)) (refused 1) ≡ held true → a ≡ true
first_passed true b h = refl
first_passed false b h = let z : ◌≡◌ {A = ℕ} 0 1 = cc in absurd (omega arith)

pub second_passed : (a b : Bool) → cond a (cond b (held true) (refused 2)) (refused 1) ≡ held true → b ≡ true
second_passed true true h = refl
second_passed true false h = let z : ◌≡◌ {A = ℕ} 0 1 = cc in absurd (omega arith)
second_passed false b h = let z : ◌≡◌ {A = ℕ} 0 1 = cc in absurd (omega arith)

pub test_told : {T : Type 0} (a b : Bool) (k : ℕ) (r : Ans T) → cond a (cond b (held true) (refused 2)) (refused 1) ≡ refused k → (a ≡ false → refused 1 ≡ r) → (a ≡ true → b ≡ false → refused 2 ≡ r) → refused k ≡ r
test_told true true k r h f g = let z : ◌≡◌ {A = ℕ} 0 1 = cc in absurd (omega arith)
test_told true false k r h f g = let z : ◌≡◌ {A = ℕ} k 2 = cc in rw z (g refl refl)
test_told false b k r h f g = let z : ◌≡◌ {A = ℕ} k 1 = cc in rw z (f refl)

-- ---- numbers that a run holds as they are
pub as_it_is : {T : Type 0} (r : Result T Refusal) → answer r ≡ answer_by (λ x. x) r
as_it_is (Ok x) = refl
as_it_is (Err r) = refl

-- ---- the operation
module _ (s : SaftVRMiePars) (t : Float) (x rho d : List Float) (chain : Bool) where
  pub refuses_1 : state_lengths s.count (length x) (length rho) (length d) ≡ false → refused 1 ≡ energy s t x rho d chain
  unfolding energy_by demand ◌>>=◌
  refuses_1 p = rw p

  module _ (p : state_lengths s.count (length x) (length rho) (length d) ≡ true) where
    pub refuses_2 : state_within s.count t x rho ≡ false → refused 2 ≡ energy s t x rho d chain
    unfolding energy_by demand ◌>>=◌
    refuses_2 q = rw (p, q)

    module _ (q : state_within s.count t x rho ≡ true) where
      pub refuses_6 : (k : ℕ) → energy_run floats (calls floats port) s t x rho d chain ≡ refused k → refused k ≡ energy s t x rho d chain
      unfolding energy_by demand ◌>>=◌
      refuses_6 k r = rw (p, q, r)

      pub refuses_or_holds : (v : Float) (w : Ans Float) → energy_run floats (calls floats port) s t x rho d chain ≡ held v → w ≡ if_finite v → w ≡ energy s t x rho d chain
      unfolding energy_by if_finite demand ◌>>=◌
      refuses_or_holds v w r e = rw (p, q, r) e
