-- `set_lists::flat` meets its contract. Assumes nothing.
use Rattle.std.proofs.Common.{◌∙◌, ◌*◌}
use Rattle.sizes.specs.Sizes.{sheet}
use Rattle.set_lists.proofs.Copies.{taken_whole}
use Rattle.set_lists.proofs.flat.Goals as goal

pub returns : goal.returns
returns c = c.copy_from_slice.ensures.after ∙ taken_whole (6 * sheet) c.args.sheets.now c.requires
