-- `interval::IntervalAdd::add` meets its contract. Assumes nothing.
use Rattle.interval.proofs.Near.{sum_usual, by_corners, in_order_of}
use lib.Ieee.{binary64, add}
use Rattle.std.proofs.Common.{rules}
use mathlib.Core.Path.{refl, ◌∙◌}
use mathlib.Core.Bool.{true, ◌&&◌}
use Rattle.interval.specs.Interval.{add_i}
use Rattle.interval.proofs.IntervalAdd.add.Goals as goal

pub stepped-requires : goal.stepped-requires
stepped-requires c = in_order_of true _ _ _ (sum_usual true _ _ _ _ c.if-self-y.true)

pub returns-in-Some : goal.returns-in-Some
unfolding add_i
returns-in-Some c = let e = c.in-Some.ensures in e.2 ∙ (sum_usual _ _ _ _ _ c.if-self-y.true (e.0, e.1)).is

pub returns : goal.returns
unfolding add_i
returns c = let e = c.corners-q.ensures in by_corners (add binary64) (c.args.self.sound && c.args.y.sound) c.args.self c.args.y _ e.0 e.1 e.2 e.3 (search rules) (search rules) (search rules) (search rules) e.8
