-- `exponential::exp_m1` meets its contract. Assumes nothing.
use mathlib.Core.Path.{subst}
use Prim.Native.Nat.{ℕ, ◌≤◌, ◌<◌}
use Rattle.exponential.proofs.Argument.{no_nan, accepted}
use Rattle.exponential.proofs.LargePart.{m1_outside, m1_tiny, m1_away}
use Rattle.exponential.proofs.exp_m1.Goals as goal

pub returns-then-not-exp_inside : goal.returns-then-not-exp_inside
returns-then-not-exp_inside c = m1_outside _ _ c.exp_inside.ensures c.if-not-exp_inside.true

pub float_to_bits-x : goal.float_to_bits-x
float_to_bits-x c = no_nan c.args.x (accepted c.args.x c.exp_inside.result c.exp_inside.ensures c.if-not-exp_inside.false)

pub returns-then-exponent_field-lt969 : goal.returns-then-exponent_field-lt969
returns-then-exponent_field-lt969 c = m1_tiny _ _ c.exp_inside.ensures c.if-not-exp_inside.false (subst (λ (f : ℕ). f < 969) c.exponent_field.ensures c.if-exponent_field-lt969.true)

pub returns : goal.returns
returns c = m1_away _ _ c.exp_inside.ensures c.away.result c.if-not-exp_inside.false (subst (λ (f : ℕ). 969 ≤ f) c.exponent_field.ensures c.if-exponent_field-lt969.false) c.away.ensures
