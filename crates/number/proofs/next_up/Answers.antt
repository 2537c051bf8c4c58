-- `number::next_up` meets its contract. Assumes nothing.
use Rattle.std.proofs.Common.{ℕ, not, T, sym, ap, ◌∙◌, subst}
use lib.Ieee.{binary64, fits, nan_bits, of_bits}
use lib.Ieee.Scale.{finite}
use Rattle.number.proofs.Rank.{finite_no_nan}
use Rattle.number.proofs.Neighbour.{up_no_nan, up_finite, up_other}
use Rattle.number.proofs.next_up.Goals as goal
use Rattle.number.proofs.next_up.Goals.{Start, Then-is_finite}

-- what owning an `f64` tells: the format holds it
held : (c : Start) → T (fits binary64 c.args.x)
held c = subst T (sym c.well_formed.0.1) tt

is_finite : (c : Then-is_finite) → T (finite c.args.x)
is_finite c = subst T (sym c.if-is_finite.true ∙ c.is_finite.ensures) tt

pub float_to_bits-b : goal.float_to_bits-b
float_to_bits-b c = finite_no_nan c.args.x (is_finite c)

pub float_from_bits-result : goal.float_from_bits-result
float_from_bits-result c =
    let t = c.before in
    subst (λ (b : ℕ). T (not (nan_bits binary64 b))) (sym c.step_up.ensures) (up_no_nan t.before.before.args.x (held t.before.before) (is_finite t))

pub returns-then-is_finite : goal.returns-then-is_finite
returns-then-is_finite c = ap (of_bits binary64) c.step_up.ensures ∙ up_finite c.args.x (is_finite c.before)

pub returns-else-is_finite : goal.returns-else-is_finite
returns-else-is_finite c = up_other c.args.x (sym c.is_finite.ensures ∙ c.if-is_finite.false)
