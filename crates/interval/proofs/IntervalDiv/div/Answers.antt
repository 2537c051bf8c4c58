-- `interval::IntervalDiv::div` meets its contract. Assumes nothing.
use Rattle.interval.proofs.Near.{by_chosen, one_sound, one_sign_told, outward_same, by_corners, in_order_of}
use Rattle.std.proofs.Common.{rules}
use mathlib.Core.Path.{refl, ◌∙◌}
use mathlib.Core.Bool.{true, ◌&&◌}
use lib.Ieee.{binary64, lt, div, of_bits}
use Rattle.number.specs.Arith.{zero64}
use Rattle.interval.specs.Interval.{one_sign, div_i}
use Rattle.interval.proofs.IntervalDiv.div.Goals as goal

pub stepped-requires : goal.stepped-requires
unfolding of_bits
stepped-requires c = in_order_of true _ _ _ (by_chosen true _ _ _ _ _ _ c.if-self-y.true c.chosen.ensures c.chosen-then-self-y.ensures)

pub returns-in-Some : goal.returns-in-Some
unfolding div_i one_sign of_bits
returns-in-Some c = let e = c.in-Some.ensures in e.2 ∙ outward_same _ _ _ _ (one_sound (c.args.self.sound && c.args.y.sound) (lt zero64 c.args.y.lower) (lt c.args.y.upper zero64) (one_sign_told true _ _ _ _ c.if-self-y.true)) ∙ (by_chosen _ _ _ _ _ _ _ c.if-self-y.true c.chosen.ensures c.chosen-then-self-y.ensures (e.0, e.1)).is

pub returns : goal.returns
unfolding div_i one_sign of_bits
returns c = let e = c.corners-q.ensures in by_corners (div binary64) (c.args.self.sound && c.args.y.sound && one_sign c.args.y) c.args.self c.args.y _ e.0 e.1 e.2 e.3 (search rules) (search rules) (search rules) (search rules) e.8
