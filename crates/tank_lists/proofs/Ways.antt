-- The tank behind the boundary, test by test, over plain values. Assumes nothing.
use Prim.Native.Nat.{ℕ}
use lib.Ieee.{Float}
use mathlib.Core.Path.{◌≡◌}
use mathlib.Core.Bool.{Bool, true, false, ◌&&◌}
use Rattle.std.proofs.lemmas.Bool.{and_parts}
use Rattle.number.specs.Ans.{Ans, held, refused, ◌>>=◌, demand}
use Rattle.number.proofs.Walk.{then_held, demanded}
use Rattle.limits.specs.Limits.{count_within}
use Rattle.enclosure.specs.declared.Ends.{Ends}
use Rattle.saftvrqmie_parameters.specs.declared.SaftVRQMiePars.{SaftVRQMiePars}
use Rattle.saftvrqmie_energies.specs.Energies.{EnergiesIn}
use Rattle.saftvrqmie_tank.specs.Tank.{TankLists, layers_within, tank_lengths, tank}
use Rattle.saftvrqmie_tank_ends.specs.TankEnds.{tank_ends}
use Rattle.set_lists.specs.Sets.{QuantumLists, quantum_lengths, quantum_set}
use Rattle.tank_lists.specs.Lists.{tank_right, tank_set, listed_tank, listed_tank_ends}

-- the set, test by test
module _ (s : QuantumLists) (q : TankLists) (right : Bool) where
  pub set_14 : layers_within q.layers ≡ false → refused 14 ≡ tank_set s q right
  unfolding demand ◌>>=◌
  set_14 p = rw p

  pub set_is : layers_within q.layers ≡ true → (a : Ans SaftVRQMiePars) → quantum_set (right && tank_lengths s.count q) s ≡ a → a ≡ tank_set s q right
  unfolding demand ◌>>=◌ tank_right
  set_is p a h = rw (p, h)

module _ (s : QuantumLists) (q : TankLists) (wanted right : Bool) where
  -- what is held was lent a list of the right length
  set_right : (p : SaftVRQMiePars) → tank_set s q right ≡ held p → right ≡ true
  unfolding quantum_set tank_right
  set_right p h =
      let x = count_within s.count && quantum_lengths s.m s.sheets s.orders in
      let y = right && tank_lengths s.count q in
      let a = then_held (demand 14 (layers_within q.layers)) _ p h in
      let b = then_held (demand 1 (x && y)) _ p a.2 in
      (and_parts right (tank_lengths s.count q) (and_parts x y (demanded 1 (x && y) b.0 b.1)).1).0

  pub tank_right_told : (e : EnergiesIn Float) → listed_tank s q wanted right ≡ held e → right ≡ true
  unfolding listed_tank
  tank_right_told e h = let a = then_held (tank_set s q right) _ e h in set_right a.0 a.1

  pub ends_right : (e : EnergiesIn Ends) → listed_tank_ends s q wanted right ≡ held e → right ≡ true
  unfolding listed_tank_ends
  ends_right e h = let a = then_held (tank_set s q right) _ e h in set_right a.0 a.1

  -- what comes of it
  pub tank_refused : (k : ℕ) → tank_set s q right ≡ refused k → refused k ≡ listed_tank s q wanted right
  unfolding listed_tank ◌>>=◌
  tank_refused k h = rw h

  pub tank_held : (p : SaftVRQMiePars) → tank_set s q right ≡ held p → tank p q wanted ≡ listed_tank s q wanted right
  unfolding listed_tank ◌>>=◌
  tank_held p h = rw h

  pub ends_refused : (k : ℕ) → tank_set s q right ≡ refused k → refused k ≡ listed_tank_ends s q wanted right
  unfolding listed_tank_ends ◌>>=◌
  ends_refused k h = rw h

  pub ends_held : (p : SaftVRQMiePars) → tank_set s q right ≡ held p → tank_ends p q wanted ≡ listed_tank_ends s q wanted right
  unfolding listed_tank_ends ◌>>=◌
  ends_held p h = rw h
