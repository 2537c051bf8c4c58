use native.Mathlib.Omega.{arith}
use borrow.Author.Rules.{rules}
use Prim.Native.Nat.{◌*◌}
use Rattle.sizes.specs.Sizes.{side, sheet}
use Rattle.set_lists.proofs.Copies.{placed_array}
use Rattle.set_lists.proofs.Sets.{lengths}
use Rattle.set_lists.specs.Written.{set_written}
use Rattle.set_lists.proofs.written.write_quantum.Goals as goal

-- src/written.rt:83:5
pub write-requires : goal.write-requires
write-requires c = let h = (lengths _ _ _ c.requires).places in omega (arith, h)

-- src/written.rt:85:5
pub write-requires-2 : goal.write-requires-2
write-requires-2 c = let h = (lengths _ _ _ c.requires).flat in omega (arith, h)

-- src/written.rt:87:5
pub orders_written-requires : goal.orders_written-requires
orders_written-requires c = (lengths _ _ _ c.requires).records

-- src/written.rt:76:1
pub returns : goal.returns
unfolding set_written
returns c = (placed_array _ _ _ _ c.write.ensures side (search rules), placed_array _ _ _ _ c.write-2.ensures (6 * sheet) (search rules), c.orders_written.ensures)
