-- The two-ended tank: the two-ended run alone gives the tank's refusals too; then 8. Assumes nothing.
use Prim.Native.Nat.{ℕ}
use lib.Ieee.{Float}
use mathlib.Core.List.{List}
use mathlib.Core.Path.{◌≡◌, refl, sym, subst}
use mathlib.Core.Bool.{Bool}
use Rattle.number.specs.Ans.{Ans, held, refused, ◌>>=◌, demand}
use Rattle.number.specs.Arith.{Arith, floats}
use Rattle.number.specs.Functions.{calls}
use Rattle.number.proofs.Rel.{Both, both_held, both_refused, then_both}
use Rattle.number.proofs.Walk.{then_held, held_inj}
use Rattle.elementary.specs.Port.{port}
use Rattle.enclosure.specs.declared.Enclosure.{Enclosure}
use Rattle.enclosure.specs.Enclosure.{enclosures}
use Rattle.enclosure.proofs.Relations.{Value, values}
use Rattle.saftvrqmie_parameters.specs.declared.SaftVRQMiePars.{SaftVRQMiePars}
use Rattle.saftvrqmie_energies.specs.Energies.{EnergiesIn, energies_finite}
use Rattle.saftvrqmie_energies.proofs.Relation.{EnergiesR}
use Rattle.saftvrqmie_energies_ends.specs.Operation.{values_of, sound_ends}
use Rattle.saftvrqmie_energies_ends.proofs.Ways.{worked_values, float_held, float_refused}
use Rattle.saftvrqmie_tank.specs.Tank.{TankLists, Layer, layer_at, layers_within, tank_lengths, tank_run, layer_run, layer_of, layers_of, tank_from, tank, table_of, tables_of, runs_by, layer_answer, layers_answer, tank_answer}
use Rattle.saftvrqmie_tank.proofs.Runs.{same, sum_rel, sum_passes, layer_passes}
use Rattle.saftvrqmie_tank_ends.specs.TankEnds.{tank_ends_by, tank_ends}

-- ---- its values are the float operation's; what it holds, the run without tests holds
behind : {B F : Type 0} {R : B → F → Type 0} {run : Ans B} {float : Ans F} → Both R run float → (a : Ans F) → ((v : F) → a ≡ held v → float ≡ held v) → Both R (a >>= λ _. run) a
unfolding ◌>>=◌
behind {R = R} {run = run} K (held v) passes = subst (λ (z : Ans _). Both R run z) (passes v refl) K
behind K (refused n) passes = both_refused

-- 7 of both runs
seven : (b : EnergiesIn Enclosure) (v : EnergiesIn Float) → EnergiesR Value b v → Both (EnergiesR Value) (demand 7 (energies_finite (values_of b)) >>= λ _. held b) (demand 7 (energies_finite v) >>= λ _. held v)
seven b v p =
    let g : v ≡ values_of b = held_inj v (values_of b) (float_held (both_held p) b refl) in
    then_both (subst (λ (u : EnergiesIn Float). Both (λ x y. x ≡ y) (demand 7 (energies_finite (values_of b))) (demand 7 (energies_finite u))) (sym g) (same (demand 7 (energies_finite (values_of b))))) (λ _ _ _. both_held p)

module _ (s : SaftVRQMiePars) (wanted : Bool) where
  abbrev run_of : (A : Arith) → Layer → Ans (EnergiesIn A.Num)
  run_of A y = table_of s y >>= layer_run A (calls A port) s y wanted

  run_values : (y : Layer) → Both (EnergiesR Value) (run_of enclosures y) (run_of floats y)
  run_values y =
      then_both (same (table_of s y)) (λ a b e.
      subst (λ (z : List Float). Both (EnergiesR Value) (layer_run enclosures (calls enclosures port) s y wanted a) (layer_run floats (calls floats port) s y wanted z)) e
      (worked_values port s y.temperature y.fractions y.densities a wanted))

  layer_values : (y : Layer) → Both (EnergiesR Value) (layer_answer enclosures s y wanted) (layer_of s y wanted)
  unfolding layer_answer
  layer_values y = behind (run_values y) _ (layer_passes s y (table_of s y) (layer_run floats (calls floats port) s y wanted))

  layer_enclosed : (y : Layer) (v : EnergiesIn Enclosure) → layer_answer enclosures s y wanted ≡ held v → run_of enclosures y ≡ held v
  unfolding layer_answer
  layer_enclosed y v h = (then_held (layer_of s y wanted) _ v h).2

  module _ (q : TankLists) where
    layers_values : Both (EnergiesR Value) (layers_answer enclosures s q wanted) (layers_of s q wanted)
    layers_values = sum_rel enclosures floats values q wanted _ _ (λ l. layer_values (layer_at s.count q l))

    layers_pass : (v : EnergiesIn Enclosure) → layers_answer enclosures s q wanted ≡ held v → tank_run enclosures q (tables_of s q) wanted (runs_by enclosures port s q wanted) ≡ held v
    layers_pass v h = sum_passes enclosures q wanted _ _ v (λ l e p. layer_enclosed (layer_at s.count q l) e p) h

    tank_values : Both (EnergiesR Value) (tank_answer enclosures s q wanted) (tank s q wanted)
    unfolding tank_answer tank_from
    tank_values = then_both (same (demand 14 (layers_within q.layers))) (λ _ _ _. then_both (same (demand 1 (tank_lengths s.count q))) (λ _ _ _. then_both layers_values seven))

    layers_held : (b : EnergiesIn Enclosure) → tank_answer enclosures s q wanted ≡ held b → layers_answer enclosures s q wanted ≡ held b
    unfolding tank_answer
    layers_held b h =
        let a = then_held (demand 14 (layers_within q.layers)) _ b h in
        let c = then_held (demand 1 (tank_lengths s.count q)) _ b a.2 in
        let d = then_held (layers_answer enclosures s q wanted) _ b c.2 in
        let e = then_held (demand 7 (energies_finite (values_of d.0))) _ b d.2 in
        subst (λ (u : EnergiesIn Enclosure). layers_answer enclosures s q wanted ≡ held u) (held_inj _ b e.2) d.1

    -- ---- the operation
    pub ends_refused : (k : ℕ) → tank_answer enclosures s q wanted ≡ refused k → refused k ≡ tank_ends s q wanted
    unfolding tank_ends_by ◌>>=◌
    ends_refused k h = rw (float_refused tank_values k h)

    pub ends_held : (b : EnergiesIn Enclosure) → tank_answer enclosures s q wanted ≡ held b → sound_ends b ≡ tank_ends s q wanted
    unfolding tank_ends_by ◌>>=◌
    ends_held b h = rw (float_held tank_values b h, layers_pass b (layers_held b h))
