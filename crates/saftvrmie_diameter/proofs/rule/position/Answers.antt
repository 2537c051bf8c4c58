-- `saftvrmie_diameter::rule::position` meets its contract: the static is the table of the rule's decimals. Assumes nothing.
use mathlib.Core.Bool.{false}
use lib.Dec.{T}
use lib.ListN.{get_or}
use lib.Ieee.{of_bits, to_bits, fits, neg}
use Rattle.number.specs.Arith.{decimal, node}
use Rattle.number.specs.Neighbour.{step_up, step_down, next_up, next_down}
use Rattle.number.specs.Functions.{dec, entry}
use Rattle.interval.specs.Interval as Interval
use Rattle.enclosure.specs.Constants as Constants
use Rattle.enclosure.specs.Enclosure.{constant_e}
use Rattle.enclosure.specs.Enclosed.{enclosed}
use Rattle.enclosure.proofs.Entries.{sounds, entry_is}
use Rattle.saftvrmie_diameter.specs.Diameter.{positions}
use Rattle.saftvrmie_diameter.proofs.rule.position.Goals as goal

all_sound : T (sounds positions)
unfolding constant_e Constants.below Constants.above Interval.point next_up next_down step_up step_down to_bits decimal of_bits fits neg
all_sound = tt

pub returns : goal.returns
unfolding entry enclosed constant_e Constants.below Constants.above Interval.point next_up next_down step_up step_down to_bits decimal of_bits fits neg
returns g c w =
    let e = get_or positions c.args.k (dec false 0 0) in
    c.constant.ensures w (node e.minus e.digits e.places) (rw c.table_entry.ensures (entry_is positions all_sound c.args.k))
