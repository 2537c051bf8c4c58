-- `set_lists::quantum_set` meets its contract. Assumes nothing.
use Rattle.set_lists.proofs.Sets.{lengths}
use mathlib.Core.Path.{refl}
use native.Mathlib.Omega.{arith}
use Rattle.set_lists.specs.Sets.{quantum_read}
use Rattle.set_lists.proofs.quantum_set.Goals as goal

pub places-m-requires : goal.places-m-requires
places-m-requires c = let h = (lengths _ _ _ c.requires).places in omega (arith, h)

pub flat-sheets-requires : goal.flat-sheets-requires
flat-sheets-requires c = (lengths _ _ _ c.requires).flat

pub order_records-orders-requires : goal.order_records-orders-requires
order_records-orders-requires c = (lengths _ _ _ c.requires).records

pub returns : goal.returns
unfolding quantum_read
returns c = rw (c.places-m.ensures, c.flat-sheets.ensures, c.order_records-orders.ensures) refl
