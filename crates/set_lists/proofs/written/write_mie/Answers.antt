use native.Mathlib.Omega.{arith}
use borrow.Author.Rules.{rules}
use Prim.Native.Nat.{◌*◌}
use Rattle.sizes.specs.Sizes.{sheet}
use Rattle.set_lists.proofs.Copies.{placed_array}
use Rattle.set_lists.proofs.Sets.{mie_lengths_told}
use Rattle.set_lists.specs.Written.{mie_written}
use Rattle.set_lists.proofs.written.write_mie.Goals as goal

-- src/written.rt:98:5
pub write_lists-requires : goal.write_lists-requires
write_lists-requires c = (mie_lengths_told _ _ c.requires).places

-- src/written.rt:99:5
pub write-requires : goal.write-requires
write-requires c = let h = (mie_lengths_told _ _ c.requires).flat in omega (arith, h)

-- src/written.rt:91:1
pub returns : goal.returns
unfolding mie_written
returns c = (c.write_lists.ensures, placed_array _ _ _ _ c.write.ensures (6 * sheet) (search rules))
