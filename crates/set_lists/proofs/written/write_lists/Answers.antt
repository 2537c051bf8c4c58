-- `set_lists::written::write_lists` meets its contract. Assumes nothing.
use borrow.Author.Rules.{rules}
use Rattle.sizes.specs.Sizes.{side}
use Rattle.set_lists.specs.Written.{lists_written}
use Rattle.set_lists.proofs.Copies.{placed_array}
use Rattle.set_lists.proofs.written.write_lists.Goals as goal

pub returns : goal.returns
unfolding lists_written
returns c =
    rw (
      placed_array _ _ _ _ c.write-5.ensures side (search rules),
      placed_array _ _ _ _ c.write-4.ensures side (search rules),
      placed_array _ _ _ _ c.write-3.ensures side (search rules),
      placed_array _ _ _ _ c.write-2.ensures side (search rules),
      placed_array _ _ _ _ c.write.ensures side (search rules),
    )
