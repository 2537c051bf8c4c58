-- `slopes_lists::supplied_finite` meets its contract. Assumes nothing.
use Rattle.dual.specs.Value.{dual_of}
use Rattle.slopes_lists.specs.Lists.{supplied_finite}
use Rattle.slopes_lists.proofs.supplied_finite.Goals as goal

pub returns : goal.returns
unfolding supplied_finite dual_of
returns c =
    rw (
      c.all_finite-2.ensures,
      c.all_finite.ensures,
      c.is_finite.ensures,
      c.requires.0,
      c.requires.1,
    )
