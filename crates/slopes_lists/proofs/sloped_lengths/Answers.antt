-- `slopes_lists::sloped_lengths` meets its contract. Assumes nothing.
use Rattle.slopes_lists.specs.Lists.{sloped_lengths}
use Rattle.slopes_lists.proofs.sloped_lengths.Goals as goal

pub returns : goal.returns
unfolding sloped_lengths
returns c =
    rw (
      c.right_lengths-2.ensures,
      c.right_lengths.ensures,
      c.count_within.ensures,
    )
