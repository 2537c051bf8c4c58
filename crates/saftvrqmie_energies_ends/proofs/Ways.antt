-- The ways of the two-ended operation, test by test: the two-ended run alone gives the float operation's refusals too; then 8. Assumes nothing.
use Prim.Native.Nat.{ℕ}
use lib.Ieee.{Float}
use mathlib.Core.List.{List}
use mathlib.Core.Path.{◌≡◌, refl, sym}
use mathlib.Core.Bool.{Bool, true, false}
use Rattle.number.specs.Ans.{Ans, held, refused, ◌>>=◌, demand}
use Rattle.number.specs.Arith.{floats}
use Rattle.number.specs.Functions.{Answers, calls}
use Rattle.number.proofs.Rel.{Both, both_held, both_refused, calls_rel}
use Rattle.enclosure.specs.declared.Enclosure.{Enclosure}
use Rattle.enclosure.specs.Enclosure.{enclosures}
use Rattle.enclosure.proofs.Relations.{Value, values}
use Rattle.saftvrqmie_parameters.specs.declared.SaftVRQMiePars.{SaftVRQMiePars}
use Rattle.limits.specs.Limits.{state_within}
use Rattle.saftvrqmie_energies.specs.Energies.{EnergiesIn, contributions_of, energies_finite, state_lengths, tested, energies_by}
use Rattle.saftvrqmie_energies.proofs.Relation.{EnergiesR, contributions_of_rel}
use Rattle.saftvrqmie_energies_ends.specs.Operation.{values_of, each_ends, all_sound, sound_ends, energies_enclosed, energies_ends}

parts : (v w : EnergiesIn Float) → v.hard_sphere ≡ w.hard_sphere → v.dispersion ≡ w.dispersion → v.non_additive ≡ w.non_additive → v ≡ w
parts v w p q r = rw (p, q, r)

pub float_held : {e : Ans (EnergiesIn Enclosure)} {f : Ans (EnergiesIn Float)} → Both (EnergiesR Value) e f → (b : EnergiesIn Enclosure) → e ≡ held b → f ≡ held (values_of b)
float_held (both_held {x = x} {y = y} p) b h =
    let z : x ≡ b = cc in
    let g : y ≡ values_of x = sym (parts (values_of x) y p.hard_sphere p.dispersion p.non_additive) in
    rw (g, z)
float_held (both_refused {n = n}) b h = let z : ◌≡◌ {A = Bool} true false = cc in absurd (mathlib.Core.Bool.true≢false z)

pub float_refused : {e : Ans (EnergiesIn Enclosure)} {f : Ans (EnergiesIn Float)} → Both (EnergiesR Value) e f → (k : ℕ) → e ≡ refused k → f ≡ refused k
float_refused (both_held p) k h = let z : ◌≡◌ {A = Bool} true false = cc in absurd (mathlib.Core.Bool.true≢false z)
float_refused both_refused k h = cc

after_seven : {S T : Type 0} (b : Bool) (x : S) (y : T) → (demand 7 b >>= λ _. held x) ≡ ((demand 7 b >>= λ _. held y) >>= λ _. held x)
unfolding demand ◌>>=◌
after_seven true x y = refl
after_seven false x y = refl

values_tested : {e : Ans (EnergiesIn Enclosure)} {f : Ans (EnergiesIn Float)} → Both (EnergiesR Value) e f → (e >>= λ b. demand 7 (energies_finite (values_of b)) >>= λ _. held b) ≡ ((f >>= λ v. demand 7 (energies_finite v) >>= λ _. held v) >>= λ _. e)
unfolding ◌>>=◌
values_tested (both_held {x = x} {y = y} p) =
    let g : y ≡ values_of x = sym (parts (values_of x) y p.hard_sphere p.dispersion p.non_additive) in
    rw g (after_seven (energies_finite (values_of x)) x (values_of x))
values_tested (both_refused {n = n}) = refl

behind_tests : {S T : Type 0} (l i : Bool) (v : Ans S) (f : Ans T) (e : Ans S) → v ≡ (f >>= λ _. e) → (demand 1 l >>= λ _. demand 2 i >>= λ _. v) ≡ ((demand 1 l >>= λ _. demand 2 i >>= λ _. f) >>= λ _. e)
unfolding demand ◌>>=◌
behind_tests false i v f e h = refl
behind_tests true false v f e h = refl
behind_tests true true v f e h = h

module _ (E : Answers) (s : SaftVRQMiePars) (t : Float) (x rho table : List Float) (wanted : Bool) where
  abbrev worked : Ans (EnergiesIn Enclosure)
  worked = contributions_of enclosures (calls enclosures E) s t x rho table wanted

  abbrev floating : Ans (EnergiesIn Float)
  floating = contributions_of floats (calls floats E) s t x rho table wanted

  abbrev outcome : Ans (EnergiesIn Enclosure)
  outcome = energies_enclosed E s t x rho table wanted

  pub worked_values : Both (EnergiesR Value) worked floating
  worked_values = contributions_of_rel enclosures floats values (calls enclosures E) (calls floats E) (calls_rel enclosures floats values E) s t x rho table wanted

  -- the float operation's refusals are the two-ended run's own
  pub enclosed : tested enclosures s t x rho table worked ≡ outcome
  unfolding energies_enclosed energies_by
  enclosed = behind_tests (state_lengths s.count x rho table) (state_within s.count t x rho) _ _ worked (values_tested worked_values)

-- ---- then 8
pub unsound : (b : EnergiesIn Enclosure) → all_sound b ≡ false → refused 8 ≡ sound_ends b
unfolding demand ◌>>=◌
unsound b p = rw p

pub sound : (b : EnergiesIn Enclosure) → all_sound b ≡ true → held (each_ends b) ≡ sound_ends b
unfolding demand ◌>>=◌
sound b p = rw p

behind : {X Y Z : Type 0} (a : Ans X) (r : Ans Y) (f : Y → Ans Z) → (a >>= λ _. r >>= f) ≡ ((a >>= λ _. r) >>= f)
unfolding ◌>>=◌
behind (held x) r f = refl
behind (refused n) r f = refl

module _ (E : Answers) (s : SaftVRQMiePars) (t : Float) (x rho table : List Float) (wanted : Bool) where
  ends_behind : energies_ends E s t x rho table wanted ≡ (energies_enclosed E s t x rho table wanted >>= sound_ends)
  unfolding energies_ends energies_enclosed
  ends_behind = behind (energies_by E s t x rho table wanted) (contributions_of enclosures (calls enclosures E) s t x rho table wanted) sound_ends

  pub ends_refused : (k : ℕ) → energies_enclosed E s t x rho table wanted ≡ refused k → refused k ≡ energies_ends E s t x rho table wanted
  unfolding ◌>>=◌
  ends_refused k p = rw (ends_behind, p)

  pub ends_held : (b : EnergiesIn Enclosure) → energies_enclosed E s t x rho table wanted ≡ held b → sound_ends b ≡ energies_ends E s t x rho table wanted
  unfolding ◌>>=◌
  ends_held b p = rw (ends_behind, p)
