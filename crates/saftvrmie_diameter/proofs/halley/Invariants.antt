-- `saftvrmie_diameter::halley` meets its contract. Assumes nothing.
use Rattle.saftvrmie_diameter.specs.Diameter.{halley}
use Rattle.number.specs.Arith.{floats}
use Rattle.number.specs.Functions.{calls}
use Rattle.elementary.specs.Port.{port}
use Prim.Native.Nat.{◌≤◌, ◌-◌}
use mathlib.Core.Path.{◌≡◌}
use Rattle.saftvrmie_diameter.proofs.halley.Given as goal

abbrev pub invariant-loop : goal.invariant-loop
invariant-loop l = (l.counter ≤ 4) × (halley floats (calls floats port) l.la l.lr l.c_eps_t (4 - l.counter) l.r ≡ halley floats (calls floats port) l.la l.lr l.c_eps_t 4 l.initial.r)

abbrev pub decreases-loop : goal.decreases-loop
decreases-loop l = 4 - l.counter
