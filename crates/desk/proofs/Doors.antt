-- The door, test by test, and that its tests are those of the direct calls for table and energies. Assumes nothing.
use Prim.Native.Nat.{ℕ, ◌*◌}
use mathlib.Core.Path.{◌≡◌, refl}
use mathlib.Core.Bool.{Bool, true, false, ◌&&◌}
use mathlib.Core.List.{List}
use lib.Dec.{eqb}
use lib.Ieee.{Float}
use lib.ListN.{length}
use borrow.Author.Tests.{eq-eqb}
use Rattle.number.specs.Ans.{refused, ◌>>=◌, demand}
use Rattle.sizes.specs.Sizes.{sheet}
use Rattle.limits.specs.Limits.{count_within, state_within}
use Rattle.saftvrqmie.specs.Table.{right_lists}
use Rattle.saftvrqmie_energies.specs.Energies as Energies
use Rattle.set_lists.specs.Sets.{quantum_lengths, orders_within, quantum_set}
use Rattle.desk_place.specs.Place.{Query}
use Rattle.desk.specs.Desk.{state_lengths, door}

-- ---- the tests in their order
module _ (q : Query) where
  abbrev right : Bool
  right = count_within q.lists.count && quantum_lengths q.lists.m q.lists.sheets q.lists.orders && state_lengths q.lists.count q.fractions q.densities

  pub door_refuses_1 : right ≡ false → door q ≡ refused 1
  unfolding door quantum_set demand ◌>>=◌
  door_refuses_1 h = rw h

  pub door_refuses_4 : right ≡ true → orders_within q.lists.count q.lists.orders ≡ false → door q ≡ refused 4
  unfolding door quantum_set demand ◌>>=◌
  door_refuses_4 h o = rw (h, o)

  pub door_refuses_2 : right ≡ true → orders_within q.lists.count q.lists.orders ≡ true → state_within q.lists.count q.temperature q.fractions q.densities ≡ false → door q ≡ refused 2
  unfolding door quantum_set demand ◌>>=◌
  door_refuses_2 h o s = rw (h, o, s)

-- ---- 1 of the table's call, with lists of its lengths, is the count's; 1 of the energies' call, with a table of its length, that and the state's
pub table_test : (n : ℕ) → right_lists n (4 * sheet) (3 * sheet) ≡ count_within n
unfolding right_lists
table_test n = by (count_within n)
  where
    by : (a : Bool) → (a && true && true) ≡ a
    by true = refl
    by false = refl

pub energies_test : (n : ℕ) (x rho table : List Float) → length table ≡ 4 * sheet → Energies.state_lengths n x rho table ≡ (count_within n && state_lengths n x rho)
unfolding Energies.state_lengths state_lengths
energies_test n x rho table h = rw (eq-eqb (length table) (4 * sheet) h) (by (count_within n) (eqb (length x) n) (eqb (length rho) n))
  where
    by : (a b c : Bool) → (a && b && c && true) ≡ (a && (b && c))
    by true true true = refl
    by true true false = refl
    by true false c = refl
    by false b c = refl
