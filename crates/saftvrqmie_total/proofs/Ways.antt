-- The total, test by test, over plain values. Assumes nothing.
use mathlib.Core.Path.{◌≡◌, refl}
use native.Mathlib.Omega.{arith}
use mathlib.Core.List.{List}
use mathlib.Core.Bool.{Bool, true, false}
use Prim.Native.Nat.{ℕ}
use lib.Ieee.{Float}
use lib.Ieee.Scale.{finite}
use Rattle.number.specs.Ans.{held, refused, ◌>>=◌, demand}
use Rattle.number.specs.Answer.{if_finite}
use Rattle.number.specs.Arith.{zero64}
use Rattle.rounded_sum.specs.declared.RoundedSum.{RoundedSum}
use Rattle.rounded_sum.specs.RoundedSum.{rounded_sum}
use Rattle.saftvrqmie_parameters.specs.declared.SaftVRQMiePars.{SaftVRQMiePars}
use Rattle.saftvrqmie_energies.specs.Energies.{EnergiesIn, energies}
use Rattle.saftvrqmie_total.specs.Total.{finite_sum, contributions_total, total}

-- a rounded sum, refused or held as its number is
module _ (x y : Float) (a : RoundedSum) (is-a : a ≡ rounded_sum x y) where
  pub sum_refused : (k : ℕ) → if_finite a.sum ≡ refused k → refused k ≡ finite_sum x y
  unfolding if_finite finite_sum demand ◌>>=◌
  sum_refused k p = rw (← is-a) (go (finite a.sum) p)
    where
      go : (b : Bool) → (demand 7 b >>= λ _. held a.sum) ≡ refused k → refused k ≡ (demand 7 b >>= λ _. held a)
      go true p = let z : ◌≡◌ {A = ℕ} 0 1 = cc in absurd (omega arith)
      go false p = let z : ◌≡◌ {A = ℕ} k 7 = cc in rw z

  pub sum_held : (v : Float) → if_finite a.sum ≡ held v → held a ≡ finite_sum x y
  unfolding if_finite finite_sum demand ◌>>=◌
  sum_held v p = rw (← is-a) (go (finite a.sum) p)
    where
      go : (b : Bool) → (demand 7 b >>= λ _. held a.sum) ≡ held v → held a ≡ (demand 7 b >>= λ _. held a)
      go true p = refl
      go false p = let z : ◌≡◌ {A = ℕ} 0 1 = cc in absurd (omega arith)

module _ (e : EnergiesIn Float) (wanted : Bool) where
  pub first_refused : (k : ℕ) → finite_sum e.hard_sphere e.dispersion ≡ refused k → refused k ≡ contributions_total e wanted
  unfolding contributions_total ◌>>=◌
  first_refused k p = rw p

  module _ (a : RoundedSum) (p : finite_sum e.hard_sphere e.dispersion ≡ held a) where
    pub alone : wanted ≡ false → held (record { first = a; last = record { sum = a.sum; remainder = zero64 } }) ≡ contributions_total e wanted
    unfolding contributions_total ◌>>=◌
    alone w = rw (p, w)

    pub last_refused : (k : ℕ) → wanted ≡ true → finite_sum a.sum e.non_additive ≡ refused k → refused k ≡ contributions_total e wanted
    unfolding contributions_total ◌>>=◌
    last_refused k w q = rw (p, w, q)

    pub both : (b : RoundedSum) → wanted ≡ true → finite_sum a.sum e.non_additive ≡ held b → held (record { first = a; last = b }) ≡ contributions_total e wanted
    unfolding contributions_total ◌>>=◌
    both b w q = rw (p, w, q)

module _ (s : SaftVRQMiePars) (t : Float) (x rho table : List Float) (wanted : Bool) where
  pub energies_refused : (k : ℕ) → energies s t x rho table wanted ≡ refused k → refused k ≡ total s t x rho table wanted
  unfolding total ◌>>=◌
  energies_refused k p = rw p

  pub energies_held : (e : EnergiesIn Float) → energies s t x rho table wanted ≡ held e → contributions_total e wanted ≡ total s t x rho table wanted
  unfolding total ◌>>=◌
  energies_held e p = rw p
