-- `set_lists::places` meets its contract. Assumes nothing.
use Rattle.std.proofs.Common.{◌∙◌}
use Rattle.sizes.specs.Sizes.{side}
use Rattle.set_lists.proofs.Copies.{taken_part}
use Rattle.set_lists.proofs.places.Goals as goal

pub returns : goal.returns
returns c = c.copy_from_slice.ensures.after ∙ taken_part side c.args.list.now c.args.from c.requires
