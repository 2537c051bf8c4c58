-- The three contributions from what the code works of each, in any arithmetic. Assumes nothing.
use Prim.Native.Nat.{ℕ}
use mathlib.Core.Bool.{Bool, true, false, cond}
use mathlib.Core.Path.{◌≡◌, refl, sym, ap, ◌∙◌}
use Rattle.number.specs.Ans.{Ans, held, refused, ◌>>=◌}
use Rattle.number.specs.Arith.{Arith, zero64}
use Rattle.number.specs.Functions.{Functions}
use Rattle.saftvrqmie_hard_sphere.specs.State.{diagonal}
use Rattle.saftvrqmie_hard_sphere.specs.HardSphere.{hard_sphere}
use Rattle.saftvrqmie_hard_sphere.specs.NonAdditive.{non_additive}
use Rattle.saftvrqmie_dispersion_sums.specs.State.{SheetsIn}
use Rattle.saftvrqmie_dispersion_sums.specs.Dispersion.{dispersion}
use Rattle.saftvrqmie_energies.specs.Energies.{EnergiesIn, each_taken, contributions}

-- a part that is not wanted, taken as a D
pub wanted_taken : {N : Type 0} (taken : N → N) (b : Bool) (r p q : N) → taken r ≡ r → r ≡ cond b p (taken q) → r ≡ taken (cond b p q)
wanted_taken taken true r p q k h = sym k ∙ ap taken h
wanted_taken taken false r p q k h = h

-- where each number is taken as it is
pub as_it_is : {N : Type 0} (taken : N → N) → ((m : N) → taken m ≡ m) → (a : Ans (EnergiesIn N)) → each_taken taken a ≡ a
unfolding ◌>>=◌
as_it_is taken p (held e) = rw (p e.hard_sphere, p e.dispersion, p e.non_additive)
as_it_is taken p (refused n) = refl

module _ (A : Arith) (F : Functions A.Num) (s : SheetsIn A.Num) (x rho m : ℕ → A.Num) (t : A.Num) (wanted : Bool) (taken : A.Num → A.Num) where
  abbrev result : Ans (EnergiesIn A.Num)
  result = each_taken taken (contributions A F s x rho m t wanted)

  abbrev hard : Ans A.Num
  hard = hard_sphere A F s.count x rho (diagonal s.hs_diameter) m

  abbrev dispersed : Ans A.Num
  dispersed = dispersion A F s x rho m t

  pub no_hard_sphere : (k : ℕ) → hard ≡ refused k → refused k ≡ result
  unfolding contributions ◌>>=◌
  no_hard_sphere k h = rw h

  module _ (a : A.Num) (is-a : hard ≡ held a) where
    pub no_dispersion : (k : ℕ) → dispersed ≡ refused k → refused k ≡ result
    unfolding contributions ◌>>=◌
    no_dispersion k h = rw (is-a, h)

    pub worked : (b c : A.Num) → dispersed ≡ held b → taken a ≡ a → taken b ≡ b → taken c ≡ c → c ≡ cond wanted (non_additive A F s.count rho m s.hs_diameter) (taken (A.lit zero64)) → held (record { hard_sphere = a; dispersion = b; non_additive = c }) ≡ result
    unfolding contributions ◌>>=◌
    worked b c is_b p q r h = rw (is-a, is_b, ← wanted_taken taken wanted c _ _ r h, p, q)
