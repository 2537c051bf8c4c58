-- The ways of the stages, over plain values. Assumes nothing.
use native.Mathlib.Omega.{arith}
use Prim.Native.Nat.{ℕ, ◌-◌, ◌≤◌}
use lib.Ieee.{Float}
use mathlib.Core.List.{List}
use mathlib.Core.Path.{◌≡◌, refl, ap, subst}
use mathlib.Core.Bool.{Bool, true, false}
use lib.ListN.{take, drop}
use Rattle.number.specs.Ans.{Ans, held, refused, ◌>>=◌, demand}
use Rattle.sizes.specs.Sizes.{side}
use Rattle.number.proofs.Walk.{then_held, held_inj}
use Rattle.saftvrqmie_parameters.specs.Parameters as Quantum
use Rattle.saftvrqmie_parameters.specs.declared.SaftVRQMiePars.{SaftVRQMiePars}
use Rattle.saftvrqmie.specs.Table.{Lent, temperature_table, blank}
use Rattle.saftvrqmie_energies.specs.Energies.{EnergiesIn, energies}
use Rattle.saftvrmie_parameters.specs.Parameters as Mie
use Rattle.saftvrmie_parameters.specs.declared.SaftVRMiePars.{SaftVRMiePars}
use Rattle.saftvrmie_parameters.proofs.Laws as MieLaws
use Rattle.saftvrmie.specs.Diameters.{diameters}
use Rattle.saftvrmie_energies.specs.Energies.{energy}
use Rattle.stages.specs.Stages.{quantum_stage, own_diameters, mie_energy, mie_stage}

module _ (l : Quantum.Lists) (t : Float) (x rho : List Float) (wanted : Bool) where
  pub quantum_parameters : (a : Ans (EnergiesIn Float)) (k : ℕ) → Quantum.saft_vrq_mie_pars l ≡ refused k → a ≡ refused k → a ≡ quantum_stage l t x rho wanted
  unfolding quantum_stage ◌>>=◌
  quantum_parameters a k p q = rw (p, q)

  module _ (s : SaftVRQMiePars) (p : Quantum.saft_vrq_mie_pars l ≡ held s) where
    pub quantum_table : (a : Ans (EnergiesIn Float)) (k : ℕ) → temperature_table s t blank ≡ refused k → a ≡ refused k → a ≡ quantum_stage l t x rho wanted
    unfolding quantum_stage ◌>>=◌
    quantum_table a k q r = rw (p, q, r)

    pub quantum_energies : (a : Ans (EnergiesIn Float)) (w : Lent) (table : List Float) → temperature_table s t blank ≡ held w → table ≡ w.values → a ≡ energies s t x rho table wanted → a ≡ quantum_stage l t x rho wanted
    unfolding quantum_stage ◌>>=◌
    quantum_energies a w table q e r = rw (p, q, ← e) r

module _ (s : SaftVRMiePars) (t : Float) (x rho own : List Float) (chain : Bool) where
  pub mie_diameters : (a : Ans Float) (k : ℕ) → diameters s.count s.sheets t own ≡ refused k → a ≡ refused k → a ≡ mie_energy s t x rho own chain
  unfolding mie_energy ◌>>=◌
  mie_diameters a k p q = rw (p, q)

  pub mie_energies : (a : Ans Float) (d e : List Float) → diameters s.count s.sheets t own ≡ held d → e ≡ d → a ≡ energy s t x rho e chain → a ≡ mie_energy s t x rho own chain
  unfolding mie_energy ◌>>=◌
  mie_energies a d e p q r = rw (p, ← q) r

demand_true : (n : ℕ) (b z : Bool) → demand n b ≡ held z → b ≡ true
unfolding demand
demand_true n true z p = refl
demand_true n false z p = absurd (never p)
  where
    never : refused n ≡ held z → ⊥
    never p = let z : ◌≡◌ {A = ℕ} 0 1 = cc in omega arith

module _ (l : Mie.Lists) (t : Float) (x rho : List Float) (chain : Bool) where
  pub mie_parameters : (a : Ans Float) (k : ℕ) → Mie.saft_vr_mie_pars l ≡ refused k → a ≡ refused k → a ≡ mie_stage l t x rho chain
  unfolding mie_stage ◌>>=◌
  mie_parameters a k p q = rw (p, q)

  pub mie_energy_is : (s : SaftVRMiePars) (a : Ans Float) (own : List Float) → Mie.saft_vr_mie_pars l ≡ held s → own ≡ own_diameters s.count → a ≡ mie_energy s t x rho own chain → a ≡ mie_stage l t x rho chain
  unfolding mie_stage ◌>>=◌
  mie_energy_is s a own p q r = rw (p, ← q) r

-- the first n places
pub first_part : {X : Type 0} (n : ℕ) (l : List X) → take (n - 0) (drop 0 l) ≡ take n l
first_part n l = let d : n - 0 ≡ n = omega arith in rw d

-- a set that is held has a count within the limit
pub mie_count : (l : Mie.Lists) (s : SaftVRMiePars) → Mie.saft_vr_mie_pars l ≡ held s → s.count ≤ side
unfolding Mie.saft_vr_mie_pars
mie_count l s p =
    let a = then_held (demand 1 (Mie.right_lengths l)) _ s p in
    let b = then_held (demand 2 (Mie.within_in l)) _ s a.2 in
    let d = then_held (MieLaws.sheets_in l) _ s b.2 in
    let high = (MieLaws.lengths l (demand_true 1 (Mie.right_lengths l) a.0 a.1)).high in
    subst (λ (n : ℕ). n ≤ side) (ap (λ (v : SaftVRMiePars). v.count) (held_inj _ s d.2)) high
