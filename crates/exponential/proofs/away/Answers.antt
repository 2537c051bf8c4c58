-- `exponential::away` meets its contract. Assumes nothing.
use mathlib.Core.Path.{subst, sym}
use Prim.Native.Nat.{ℕ, ◌≤◌, ◌<◌}
use lib.Dec.{T}
use Rattle.fixed_point.proofs.Sign.{set, not_set}
use Rattle.exponential.proofs.Argument.{no_nan}
use Rattle.exponential.proofs.LargePart.{far_below, far_above, away_small, away_below, away_above}
use Rattle.exponential.proofs.away.Goals as goal

pub float_to_bits-b : goal.float_to_bits-b
float_to_bits-b c = no_nan c.args.x c.requires

pub returns-then-exponent_field-lt1021 : goal.returns-then-exponent_field-lt1021
returns-then-exponent_field-lt1021 c = away_small c.args.x c.small.result (subst (λ (f : ℕ). f < 1021) c.exponent_field.ensures c.if-exponent_field-lt1021.true) c.small.ensures

pub below-requires : goal.below-requires
below-requires c =
    let a = c.before.before.before in
    far_below a.args.x (subst T (sym a.well_formed.0.1) tt) a.requires (subst (λ (f : ℕ). 1021 ≤ f) c.exponent_field.ensures c.if-exponent_field-lt1021.false) (set _ _ c.is_negative.ensures c.if-is_negative.true) c.exponent-w.result c.exponent-w.ensures.value c.exponent-w.ensures.range.0

pub above-requires : goal.above-requires
above-requires c =
    let a = c.before.before.before in
    far_above a.args.x (subst T (sym a.well_formed.0.1) tt) a.requires (subst (λ (f : ℕ). 1021 ≤ f) c.exponent_field.ensures c.if-exponent_field-lt1021.false) (not_set _ _ c.is_negative.ensures c.if-is_negative.false) c.exponent-w.result c.exponent-w.ensures.value c.exponent-w.ensures.range.1

pub returns-then-is_negative : goal.returns-then-is_negative
returns-then-is_negative c = away_below c.args.x c.exponent-w.result c.below.result (subst (λ (f : ℕ). 1021 ≤ f) c.exponent_field.ensures c.if-exponent_field-lt1021.false) (set _ _ c.is_negative.ensures c.if-is_negative.true) c.exponent-w.ensures.value c.below.ensures

pub returns-else-is_negative : goal.returns-else-is_negative
returns-else-is_negative c = away_above c.args.x c.exponent-w.result c.above.result (subst (λ (f : ℕ). 1021 ≤ f) c.exponent_field.ensures c.if-exponent_field-lt1021.false) (not_set _ _ c.is_negative.ensures c.if-is_negative.false) c.exponent-w.ensures.value c.above.ensures
