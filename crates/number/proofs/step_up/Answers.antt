-- `number::step_up` meets its contract. Assumes nothing.
use Rattle.std.proofs.Common.{◌≡◌, sym, ap, ◌∙◌, rules}
use Rattle.number.proofs.Neighbour.{up_below, up_zero, up_onto_zero, up_above}
use Rattle.number.specs.Neighbour.{step_up}
use Rattle.number.proofs.step_up.Goals as goal

pub returns-then-b-lt9223372036854775808 : goal.returns-then-b-lt9223372036854775808
returns-then-b-lt9223372036854775808 c = sym (up_below c.args.b (search rules))

pub returns-then-b-eq9223372036854775808 : goal.returns-then-b-eq9223372036854775808
returns-then-b-eq9223372036854775808 c = let e : c.args.b ≡ 0x8000_0000_0000_0000 = search rules in sym (ap step_up e ∙ up_zero)

pub returns-then-b-eq9223372036854775809 : goal.returns-then-b-eq9223372036854775809
returns-then-b-eq9223372036854775809 c = let e : c.args.b ≡ 0x8000_0000_0000_0001 = search rules in sym (ap step_up e ∙ up_onto_zero)

pub returns-else-b-eq9223372036854775809 : goal.returns-else-b-eq9223372036854775809
returns-else-b-eq9223372036854775809 c = sym (up_above c.args.b (search rules))
