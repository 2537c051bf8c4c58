-- `desk_place::store` meets its contract. Assumes nothing.
use lib.ListN.{length-set}
use native.Mathlib.Omega.{arith}
use Rattle.saftvrqmie.specs.Table.{store}
use mathlib.Core.Path.{refl}
use Rattle.desk_place.proofs.store.Goals as goal

pub bounds-table-e-2 : goal.bounds-table-e-2
bounds-table-e-2 c = rw (length-set) (omega (arith, c.requires.0, c.requires.1))

pub bounds-table-e-3 : goal.bounds-table-e-3
bounds-table-e-3 c = simp length-set (omega (arith, c.requires.0, c.requires.1))

pub bounds-table-e-4 : goal.bounds-table-e-4
bounds-table-e-4 c = simp length-set (omega (arith, c.requires.0, c.requires.1))

pub returns : goal.returns
unfolding store
returns c = refl
