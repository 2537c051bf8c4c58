-- A tank is two-ended as promised, whatever runs of its layers keep both relations. Assumes nothing.
use Prim.Native.Nat.{ℕ}
use mathlib.Core.Path.{◌≡◌, refl, sym, ◌∙◌, subst}
use mathlib.Core.List.{List}
use mathlib.Core.Bool.{Bool, true, false, cond}
use lib.Ieee.{Float}
use Rattle.number.specs.Ans.{Ans, held, refused, ◌>>=◌, demand}
use Rattle.number.specs.Arith.{floats}
use Rattle.number.proofs.Rel.{Both, both_held, both_refused}
use Rattle.number.proofs.Walk.{then_held}
use Rattle.enclosure.specs.declared.Enclosure.{Enclosure}
use Rattle.enclosure.specs.Enclosure.{enclosures}
use Rattle.enclosure.specs.Constants.{Choice}
use Rattle.enclosure.specs.Exact.{Exact, exacts}
use Rattle.enclosure.specs.Ends.{Fair}
use Rattle.enclosure.proofs.Relations.{Value, Contains, values, contains}
use Rattle.saftvrqmie_parameters.specs.declared.SaftVRQMiePars.{SaftVRQMiePars}
use Rattle.saftvrqmie_energies.specs.Energies.{EnergiesIn}
use Rattle.saftvrqmie_energies.proofs.Relation.{EnergiesR}
use Rattle.saftvrqmie_energies_ends.specs.Operation.{all_sound, each_ends, sound_ends, each_ends_of}
use Rattle.saftvrqmie_energies_ends.specs.Encloses.{EachEncloses}
use Rattle.saftvrqmie_energies_ends.proofs.Encloses.{each_enclose}
use Rattle.saftvrqmie_tank.specs.Tank.{TankLists, tank_run, tank_from}
use Rattle.saftvrqmie_tank.proofs.Runs.{tank_rel, tank_passes}
use Rattle.demand_three.specs.TwoEnded.{TwoEnded}

eight : (b : EnergiesIn Enclosure) (t : Bool) → all_sound b ≡ t → sound_ends b ≡ cond (all_sound b) (held (each_ends b)) (refused 8)
unfolding demand ◌>>=◌
eight b true e = rw e
eight b false e = rw e

holds_too : {B F : Type 0} {R : B → F → Type 0} {run : Ans B} {a : Ans F} → Both R run a → (v : F) → a ≡ held v → (b : B) × (run ≡ held b)
holds_too (both_held {x = b} r) v h = (b, refl)
holds_too (both_refused {n = n}) v h = absurd (mathlib.Core.Bool.true≢false cc)

module _ (q : Choice) (fair : Fair q) (s : SaftVRQMiePars) (y : TankLists) (tables : ℕ → Ans (List Float)) (wanted : Bool)
    {f : ℕ → List Float → Ans (EnergiesIn Float)} {b : ℕ → List Float → Ans (EnergiesIn Enclosure)} {x : ℕ → List Float → Ans (EnergiesIn Exact)}
    (K : (l : ℕ) (table : List Float) → Both (EnergiesR Value) (b l table) (f l table)) (C : (l : ℕ) (table : List Float) → Both (EnergiesR Contains) (b l table) (x l table)) where
  abbrev float : Ans (EnergiesIn Float)
  float = tank_from s y tables wanted f

  abbrev run : Ans (EnergiesIn Enclosure)
  run = tank_run enclosures y tables wanted b

  keeps : Both (EnergiesR Value) run (tank_run floats y tables wanted f)
  keeps = tank_rel enclosures floats values y tables wanted b f K

  holds : Both (EnergiesR Contains) run (tank_run (exacts q) y tables wanted x)
  holds = tank_rel enclosures (exacts q) (contains q fair) y tables wanted b x C

  first : (n : ℕ) → float ≡ refused n → each_ends_of float run ≡ refused n
  unfolding ◌>>=◌
  first n h = rw h

  then_ends : (v : EnergiesIn Float) (e : EnergiesIn Enclosure) → float ≡ held v → run ≡ held e → each_ends_of float run ≡ cond (all_sound e) (held (each_ends e)) (refused 8)
  unfolding ◌>>=◌
  then_ends v e h r = rw (h, r) (eight e (all_sound e) refl)

  pub tank_ended : TwoEnded all_sound each_ends EachEncloses float run (tank_run (exacts q) y tables wanted x) (each_ends_of float run)
  tank_ended =
      record {
        refuses = first;
        reports = λ v h. let t = holds_too keeps v (tank_passes s y tables wanted f v h) in (t.0, t.1, then_ends v t.0 h t.1);
        encloses = λ e h.
            let a = then_held float _ e h in
            subst (λ (z : Ans (EnergiesIn Float)). EachEncloses e z (tank_run (exacts q) y tables wanted x)) (tank_passes s y tables wanted f a.0 a.1 ∙ sym a.1) (each_enclose keeps holds float e h);
      }
