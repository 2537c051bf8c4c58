-- An operation of the form that all have is two-ended as promised. Assumes nothing.
use Prim.Native.Nat.{ℕ}
use mathlib.Core.Path.{◌≡◌, refl, sym, ◌∙◌, subst}
use mathlib.Core.Bool.{Bool, true, false, cond}
use lib.Ieee.{Float}
use lib.Ieee.Scale.{finite}
use Rattle.number.specs.Ans.{Ans, held, refused, ◌>>=◌, demand}
use Rattle.number.proofs.Rel.{Both, both_held, both_refused}
use Rattle.number.proofs.Walk.{then_held, held_inj}
use Rattle.enclosure.specs.declared.Enclosure.{Enclosure}
use Rattle.enclosure.specs.Exact.{Exact}
use Rattle.enclosure.specs.Ends.{ends_in, ends_of, or_unsound, Encloses}
use Rattle.enclosure.proofs.Relations.{Value, Contains}
use Rattle.enclosure.proofs.TwoEnds.{operation_encloses}
use Rattle.saftvrqmie_energies.specs.Energies.{EnergiesIn, energies_finite}
use Rattle.saftvrqmie_energies.proofs.Relation.{EnergiesR}
use Rattle.saftvrqmie_energies_ends.specs.Operation.{all_sound, each_ends, each_ends_of}
use Rattle.saftvrqmie_energies_ends.specs.Encloses.{EachEncloses}
use Rattle.saftvrqmie_energies_ends.proofs.Encloses.{each_enclose}
use Rattle.demand_three.specs.TwoEnded.{TwoEnded}
use Rattle.demand_three.specs.Demand.{is_sound}

-- two tests, the float run, and 7 at its end
abbrev tested : {F : Type 0} → Bool → Bool → (F → Bool) → Ans F → Ans F
tested p q fine a = demand 1 p >>= λ _. demand 2 q >>= λ _. a >>= λ v. demand 7 (fine v) >>= λ _. held v

-- what a tested run holds, the run holds
passes : {F : Type 0} (p q : Bool) (fine : F → Bool) (a : Ans F) (v : F) → tested p q fine a ≡ held v → a ≡ held v
passes p q fine a v h =
    let x = then_held (demand 1 p) _ v h in
    let y = then_held (demand 2 q) _ v x.2 in
    let z = then_held a _ v y.2 in
    let w = then_held (demand 7 (fine z.0)) _ v z.2 in
    subst (λ (u : _). a ≡ held u) (held_inj _ v w.2) z.1

-- runs of one formula hold together
together : {B F : Type 0} {R : B → F → Type 0} {run : Ans B} {a : Ans F} → Both R run a → (v : F) → a ≡ held v → (b : B) × (run ≡ held b)
together (both_held {x = b} r) v h = (b, refl)
together (both_refused {n = n}) v h = absurd (mathlib.Core.Bool.true≢false cc)

module _ {F B X E : Type 0} (sound : B → Bool) (ends-in : B → E) (Enclosed : E → Ans F → Ans X → Type 0) (p q : Bool) (fine : F → Bool) (a : Ans F) (run : Ans B) (exact : Ans X) where
  abbrev float : Ans F
  float = tested p q fine a

  abbrev answered : Ans E
  answered = float >>= λ _. run >>= λ b. demand 8 (sound b) >>= λ _. held (ends-in b)

  module _ (ends : Ans E) (is : ends ≡ answered) where
    first : (n : ℕ) → float ≡ refused n → ends ≡ refused n
    unfolding ◌>>=◌
    first n h = is ∙ rw h

    eight : (b : B) (s : Bool) → sound b ≡ s → (demand 8 (sound b) >>= λ _. held (ends-in b)) ≡ cond (sound b) (held (ends-in b)) (refused 8)
    unfolding demand ◌>>=◌
    eight b true e = rw e
    eight b false e = rw e

    after_float : (v : F) (b : B) → float ≡ held v → run ≡ held b → ends ≡ cond (sound b) (held (ends-in b)) (refused 8)
    unfolding ◌>>=◌
    after_float v b h r = is ∙ rw (h, r) (eight b (sound b) refl)

    -- what is said of the run holds of the operation
    of_operation : ((e : E) → ends ≡ held e → Enclosed e a exact) → (e : E) → ends ≡ held e → Enclosed e float exact
    of_operation inside e h =
        let x = then_held float _ e (sym is ∙ h) in
        subst (λ (z : Ans F). Enclosed e z exact) (passes p q fine a x.0 x.1 ∙ sym x.1) (inside e h)

    two_ended : {R : B → F → Type 0} → Both R run a → ((e : E) → ends ≡ held e → Enclosed e float exact) → TwoEnded sound ends-in Enclosed float run exact ends
    two_ended K inside =
        record {
          refuses = first;
          reports = λ v h. let t = together K v (passes p q fine a v h) in (t.0, t.1, after_float v t.0 h t.1);
          encloses = inside;
        }

-- the form with `endsOf`
unsound : (run : Ans Enclosure) → (run >>= or_unsound) ≡ (run >>= λ b. demand 8 b.ends.sound >>= λ _. held (ends_in b))
unfolding ◌>>=◌ or_unsound demand
unsound (held b) = go b.ends.sound refl
  where
    go : (s : Bool) → b.ends.sound ≡ s → cond b.ends.sound (held (ends_in b)) (refused 8) ≡ (cond b.ends.sound (held true) (refused 8) >>= λ _. held (ends_in b))
    go true e = rw e
    go false e = rw e
unsound (refused n) = refl

answered_is : (p q : Bool) (a : Ans Float) (run : Ans Enclosure) → ends_of (tested p q finite a) run ≡ (tested p q finite a >>= λ _. run >>= λ b. demand 8 b.ends.sound >>= λ _. held (ends_in b))
unfolding ends_of
answered_is p q a run = rw (unsound run)

-- ---- whatever runs keep both relations
-- one result
pub one_ended : (p q : Bool) {a : Ans Float} {run : Ans Enclosure} {exact : Ans Exact} → Both Value run a → Both Contains run exact
    → TwoEnded is_sound ends_in Encloses (tested p q finite a) run exact (ends_of (tested p q finite a) run)
one_ended p q {a = a} {run = run} {exact = exact} K C =
    two_ended is_sound ends_in Encloses p q finite a run exact (ends_of (tested p q finite a) run) (answered_is p q a run) K (operation_encloses K p q C)

-- three
pub three_ended : (p q : Bool) {a : Ans (EnergiesIn Float)} {run : Ans (EnergiesIn Enclosure)} {exact : Ans (EnergiesIn Exact)} → Both (EnergiesR Value) run a → Both (EnergiesR Contains) run exact
    → TwoEnded all_sound each_ends EachEncloses (tested p q energies_finite a) run exact (each_ends_of (tested p q energies_finite a) run)
three_ended p q {a = a} {run = run} {exact = exact} K C =
    let float = tested p q energies_finite a in
    two_ended all_sound each_ends EachEncloses p q energies_finite a run exact (each_ends_of float run) refl K
    (of_operation all_sound each_ends EachEncloses p q energies_finite a run exact (each_ends_of float run) refl (each_enclose K C float))
