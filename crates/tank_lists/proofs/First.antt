-- 'The first refused layer refuses the tank with that layer's number.' Of the tank and of its ends. Assumes nothing.
use Prim.Native.Nat.{ℕ, zero, suc, ◌+◌, ◌<◌}
use native.Mathlib.Omega.{arith}
use lib.Ieee.{Float}
use mathlib.Core.Path.{◌≡◌, refl, sym, ◌∙◌}
use mathlib.Core.Bool.{Bool, true}
use Rattle.number.specs.Ans.{held, refused, ◌>>=◌}
use Rattle.number.specs.Arith.{floats}
use Rattle.number.specs.Lists.{at}
use Rattle.number.specs.Walk.{walk}
use Rattle.number.proofs.Walk.{walk_none}
use Rattle.saftvrqmie_parameters.specs.declared.SaftVRQMiePars.{SaftVRQMiePars}
use Rattle.saftvrqmie_energies.specs.Energies.{EnergiesIn}
use Rattle.saftvrqmie_tank.specs.Tank.{TankLists, layer_at, layers_within, tank_lengths, layer_piled, bottom, layer_of, tank}
use Rattle.saftvrqmie_tank.proofs.Runs.{layers_same, tank_same}
use Rattle.saftvrqmie_tank.proofs.Ways.{answers_of, turn, pile_next, pile_stop, tank_layer}
use Rattle.saftvrqmie_tank_ends.specs.TankEnds.{tank_ends_by, tank_ends}

module _ (s : SaftVRQMiePars) (q : TankLists) (wanted : Bool) where
  -- layer l is held
  abbrev pub LayerHeld : ℕ → Type 0
  LayerHeld l = (e : EnergiesIn Float) × (layer_of s (layer_at s.count q l) wanted ≡ held e)

  reached : (l : ℕ) → ((j : ℕ) → j < l → LayerHeld j) → (below : EnergiesIn Float) × (held below ≡ walk l (turn floats q wanted (answers_of s q wanted)) (bottom floats))
  reached zero h = (bottom floats, walk_none _ _)
  reached (suc l) h =
      let r = reached l (λ j b. h j (omega arith)) in
      let a = h l (omega arith) in
      let next = layer_piled floats wanted (at q.volumes l) (at q.temperatures l) a.0 r.0 in
      let d : suc l ≡ l + 1 = omega arith in
      (next, rw d (pile_next floats q wanted (answers_of s q wanted) l r.0 a.0 next (at q.volumes l) (at q.temperatures l) refl refl r.1 a.1 refl))

  pub first_refused : layers_within q.layers ≡ true → tank_lengths s.count q ≡ true → (l k : ℕ) → l < q.layers → ((j : ℕ) → j < l → LayerHeld j) → layer_of s (layer_at s.count q l) wanted ≡ refused k → tank s q wanted ≡ refused k
  first_refused p r l k b below at_l =
      let w = reached l below in
      let stopped = pile_stop floats q wanted (answers_of s q wanted) l w.0 b w.1 (refused k) k (sym at_l) refl in
      sym (tank_layer floats s q wanted p r (refused k) k (layers_same s q wanted ∙ sym stopped) refl ∙ tank_same s q wanted)

  -- what refuses the tank refuses its ends
  pub ends_refused_too : (k : ℕ) → tank s q wanted ≡ refused k → tank_ends s q wanted ≡ refused k
  unfolding tank_ends_by ◌>>=◌
  ends_refused_too k h = rw h
