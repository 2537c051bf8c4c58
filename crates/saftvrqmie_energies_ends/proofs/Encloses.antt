-- Demand 3 on the quantum energies: whatever is handed in, whatever the elementary functions answer and whatever fair choice of the constants the exact run takes, the ends that are reported enclose the float run and the exact run of each contribution. Assumes nothing.
use mathlib.Core.Path.{◌≡◌, subst}
use mathlib.Core.Bool.{Bool, true, false, ◌&&◌}
use mathlib.Core.List.{List}
use lib.Dec.{T}
use lib.Ieee.{Float}
use lib.Ieee.Fits.{and_l, and_r}
use Rattle.number.specs.Ans.{Ans, held, ◌>>=◌, demand}
use Rattle.number.specs.Arith.{floats}
use Rattle.number.specs.Functions.{Answers, calls}
use Rattle.number.proofs.Rel.{Both, both_held, then_both, calls_rel}
use Rattle.number.proofs.Walk.{then_held, held_inj}
use Rattle.enclosure.specs.declared.Enclosure.{Enclosure}
use Rattle.enclosure.specs.declared.Ends.{Ends}
use Rattle.enclosure.specs.Enclosure.{enclosures}
use Rattle.enclosure.specs.Constants.{Choice}
use Rattle.enclosure.specs.Exact.{Exact, exacts}
use Rattle.enclosure.specs.Ends.{Fair}
use Rattle.enclosure.proofs.Relations.{Value, Contains, contains}
use Rattle.enclosure.proofs.TwoEnds.{held_encloses}
use Rattle.saftvrqmie_parameters.specs.declared.SaftVRQMiePars.{SaftVRQMiePars}
use Rattle.saftvrqmie_energies.specs.Energies.{EnergiesIn, contributions_of, energies_by}
use Rattle.saftvrqmie_energies.proofs.Relation.{EnergiesR, contributions_of_rel}
use Rattle.saftvrqmie_energies_ends.specs.Operation.{each_ends, all_sound, each_ends_of, energies_ends}
use Rattle.saftvrqmie_energies_ends.specs.Encloses.{part_of, EachEncloses}
use Rattle.saftvrqmie_energies_ends.proofs.Ways.{worked_values}

is_part : {N : Type 0} (f : EnergiesIn N → N) (a : Ans (EnergiesIn N)) (b : EnergiesIn N) → a ≡ held b → part_of f a ≡ held (f b)
unfolding ◌>>=◌
is_part f a b e = rw e

told_true : (b x : Bool) → demand 8 b ≡ held x → T b
unfolding demand
told_true true x h = tt
told_true false x h = let z : ◌≡◌ {A = Bool} true false = cc in subst T z tt

module _ {enclosure : Ans (EnergiesIn Enclosure)} {float : Ans (EnergiesIn Float)} {exact : Ans (EnergiesIn Exact)} (K : Both (EnergiesR Value) enclosure float) (C : Both (EnergiesR Contains) enclosure exact) where
  sound_each : (b : EnergiesIn Enclosure) → enclosure ≡ held b → T (all_sound b) → EachEncloses (each_ends b) float exact
  unfolding all_sound
  sound_each b h t =
      let x = b.hard_sphere.ends.sound in
      let y = b.dispersion.ends.sound in
      let z = b.non_additive.ends.sound in
      let xy = and_l (x && y) z t in
      record {
        hard_sphere = held_encloses (then_both K (λ _ _ r. both_held r.hard_sphere)) (then_both C (λ _ _ r. both_held r.hard_sphere)) b.hard_sphere (is_part (λ v. v.hard_sphere) enclosure b h) (and_l x y xy);
        dispersion = held_encloses (then_both K (λ _ _ r. both_held r.dispersion)) (then_both C (λ _ _ r. both_held r.dispersion)) b.dispersion (is_part (λ v. v.dispersion) enclosure b h) (and_r x y xy);
        non_additive = held_encloses (then_both K (λ _ _ r. both_held r.non_additive)) (then_both C (λ _ _ r. both_held r.non_additive)) b.non_additive (is_part (λ v. v.non_additive) enclosure b h) (and_r (x && y) z t);
      }

  -- behind any demands: whatever runs keep both relations
  pub each_enclose : (operation : Ans (EnergiesIn Float)) (e : EnergiesIn Ends) → each_ends_of operation enclosure ≡ held e → EachEncloses e float exact
  each_enclose operation e h =
      let a = then_held operation _ e h in
      let b = then_held enclosure _ e a.2 in
      let d = then_held (demand 8 (all_sound b.0)) _ e b.2 in
      subst (λ (z : EnergiesIn Ends). EachEncloses z float exact) (held_inj _ _ d.2) (sound_each b.0 b.1 (told_true (all_sound b.0) d.0 d.1))

module _ (E : Answers) (s : SaftVRQMiePars) (t : Float) (x rho table : List Float) (wanted : Bool) where
  pub energies_enclose : (q : Choice) → Fair q → (e : EnergiesIn Ends) → energies_ends E s t x rho table wanted ≡ held e
      → EachEncloses e (contributions_of floats (calls floats E) s t x rho table wanted) (contributions_of (exacts q) (calls (exacts q) E) s t x rho table wanted)
  unfolding energies_ends
  energies_enclose q fair =
      each_enclose (worked_values E s t x rho table wanted)
      (contributions_of_rel enclosures (exacts q) (contains q fair) (calls enclosures E) (calls (exacts q) E) (calls_rel enclosures (exacts q) (contains q fair) E) s t x rho table wanted)
      (energies_by E s t x rho table wanted)
