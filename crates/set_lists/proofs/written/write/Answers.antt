-- `set_lists::written::write` meets its contract. Assumes nothing.
use Rattle.set_lists.proofs.Copies.{placed_by}
use Rattle.set_lists.proofs.written.write.Goals as goal

pub returns : goal.returns
returns c = placed_by c.args.d.now c.args.l.now c.args.to c.copy_from_slice.new.self c.copy_from_slice.ensures.after c.requires
