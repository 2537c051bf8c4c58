-- `number::step_down` meets its contract. Assumes nothing.
use Rattle.std.proofs.Common.{◌≡◌, sym, ap, ◌∙◌, rules}
use Rattle.number.proofs.Neighbour.{down_above, down_zero, down_minus_zero, down_below}
use Rattle.number.specs.Neighbour.{step_down}
use Rattle.number.proofs.step_down.Goals as goal

pub returns-then-b-gt9223372036854775808 : goal.returns-then-b-gt9223372036854775808
returns-then-b-gt9223372036854775808 c = sym (down_above c.args.b (search rules))

pub returns-then-b-eq9223372036854775808 : goal.returns-then-b-eq9223372036854775808
returns-then-b-eq9223372036854775808 c = let e : c.args.b ≡ 0x8000_0000_0000_0000 = search rules in sym (ap step_down e ∙ down_minus_zero)

pub returns-then-b-eq0 : goal.returns-then-b-eq0
returns-then-b-eq0 c = let e : c.args.b ≡ 0 = search rules in sym (ap step_down e ∙ down_zero)

pub returns-else-b-eq0 : goal.returns-else-b-eq0
returns-else-b-eq0 c = sym (down_below c.args.b (search rules) (search rules))
