-- What demand 3 says of the ends of the three contributions.
use Rattle.std.specs.Prelude.{Float}
use Rattle.number.specs.Ans.{Ans, held, ◌>>=◌}
use Rattle.enclosure.specs.declared.Ends.{Ends}
use Rattle.enclosure.specs.Exact.{Exact}
use Rattle.enclosure.specs.Ends.{Encloses}
use Rattle.saftvrqmie_energies.specs.Energies.{EnergiesIn}

-- one contribution of a run
abbrev pub part_of : {N : Type 0} → (EnergiesIn N → N) → Ans (EnergiesIn N) → Ans N
part_of f a = a >>= λ v. held (f v)

-- each contribution's ends enclose both runs of it
pub record EachEncloses (e : EnergiesIn Ends) (float : Ans (EnergiesIn Float)) (exact : Ans (EnergiesIn Exact)) : Type 0 where
  pub hard_sphere : Encloses e.hard_sphere (part_of (λ v. v.hard_sphere) float) (part_of (λ v. v.hard_sphere) exact)
  pub dispersion : Encloses e.dispersion (part_of (λ v. v.dispersion) float) (part_of (λ v. v.dispersion) exact)
  pub non_additive : Encloses e.non_additive (part_of (λ v. v.non_additive) float) (part_of (λ v. v.non_additive) exact)
