-- `rounded_sum::rounded_sum` meets its contract. Assumes nothing.
use mathlib.Core.Path.{◌≡◌, sym, ◌∙◌, subst}
use mathlib.Core.Bool.{false}
use lib.Dec.{T}
use lib.Ieee.{binary64, add, fits}
use lib.Ieee.Scale.{finite}
use Rattle.rounded_sum.specs.RoundedSum.{rounded_sum}
use Rattle.rounded_sum.proofs.Exact.{made, first_is, second_is}
use Rattle.rounded_sum.proofs.rounded_sum.Goals as goal
use Rattle.rounded_sum.proofs.rounded_sum.Goals.{Else-not-is_finite, Start}

-- what owning an `f64` tells: the format holds it
held_x : (c : Start) → T (fits binary64 c.args.x)
held_x c = subst T (sym c.well_formed.0.1) tt

held_y : (c : Start) → T (fits binary64 c.args.y)
held_y c = subst T (sym c.well_formed.1.0.1) tt

is_finite : (c : Else-not-is_finite) → T (finite (add binary64 c.args.x c.args.y))
is_finite c = subst T (sym (sym c.is_finite.ensures ∙ c.if-not-is_finite.false)) tt

pub returns-then-not-is_finite : goal.returns-then-not-is_finite
unfolding rounded_sum
returns-then-not-is_finite c = let e : finite (add binary64 c.args.x c.args.y) ≡ false = sym c.is_finite.ensures ∙ c.if-not-is_finite.true in rw e

pub returns-then-abs : goal.returns-then-abs
returns-then-abs c =
    let a = c.before.before.before.before.before.before in
    let t = is_finite c.before.before.before.before in
    made a.args.x a.args.y (held_x a) (held_y a) t c.remainder-remainder.result
    (c.remainder-remainder.ensures ∙ second_is a.args.x a.args.y (held_x a) (held_y a) t (rw (c.abs.ensures, c.abs-2.ensures) at c.if-abs.true))

pub returns-else-abs : goal.returns-else-abs
returns-else-abs c =
    let a = c.before.before.before.before.before.before in
    let t = is_finite c.before.before.before.before in
    made a.args.x a.args.y (held_x a) (held_y a) t c.remainder-remainder-else-abs.result
    (c.remainder-remainder-else-abs.ensures ∙ first_is a.args.x a.args.y (held_x a) (held_y a) t (rw (c.abs.ensures, c.abs-2.ensures) at c.if-abs.false))
