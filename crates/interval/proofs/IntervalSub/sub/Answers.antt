-- `interval::IntervalSub::sub` meets its contract. Assumes nothing.
use Rattle.interval.proofs.Near.{difference_usual, by_corners, in_order_of}
use lib.Ieee.{binary64, sub}
use Rattle.std.proofs.Common.{rules}
use mathlib.Core.Path.{refl, ◌∙◌}
use mathlib.Core.Bool.{true, ◌&&◌}
use Rattle.interval.specs.Interval.{sub_i}
use Rattle.interval.proofs.IntervalSub.sub.Goals as goal

pub stepped-requires : goal.stepped-requires
stepped-requires c = in_order_of true _ _ _ (difference_usual true _ _ _ _ c.if-self-y.true)

pub returns-in-Some : goal.returns-in-Some
unfolding sub_i
returns-in-Some c = let e = c.in-Some.ensures in e.2 ∙ (difference_usual _ _ _ _ _ c.if-self-y.true (e.0, e.1)).is

pub returns : goal.returns
unfolding sub_i
returns c = let e = c.corners-q.ensures in by_corners (sub binary64) (c.args.self.sound && c.args.y.sound) c.args.self c.args.y _ e.0 e.1 e.2 e.3 (search rules) (search rules) (search rules) (search rules) e.8
