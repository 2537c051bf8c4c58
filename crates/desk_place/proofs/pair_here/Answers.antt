-- `desk_place::pair_here` meets its contract. Assumes nothing.
use Rattle.desk_place.proofs.Pair.{pair_is}
use Rattle.desk_place.proofs.pair_here.Goals as goal

pub returns : goal.returns
returns c = pair_is (record { floats = c.args.floats.now; bytes = c.args.bytes.now }) c.args.e _ c.requires.2 c.from-order.ensures
