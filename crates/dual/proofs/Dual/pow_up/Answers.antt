-- `dual::Dual::pow_up` meets its contract. Assumes nothing.
use mathlib.Core.Path.{refl, ap, ◌∙◌}
use Prim.Native.Nat.{ℕ, ◌-◌}
use Rattle.number.specs.Arith.{floats}
use Rattle.dual.specs.Value.{dual_of}
use Rattle.dual.proofs.Power.{pow_zero, pow_above}
use Rattle.dual.proofs.Dual.pow_up.Goals as goal

pub returns-then-n-eq0 : goal.returns-then-n-eq0
unfolding dual_of
returns-then-n-eq0 c = pow_zero floats _ _ _ _ c.if-n-eq0.true c.pow_up.ensures refl

pub returns : goal.returns
unfolding dual_of
returns c =
    pow_above floats _ _ _ _ _ c.if-n-eq0.false (c.pow_up-2.ensures ∙ ap (floats.pow c.args.self.re) c.from-2.ensures) (c.pow_up-below.ensures ∙ ap (λ (k : ℕ). floats.pow c.args.self.re (k - 1)) c.from.ensures) c.from-3.ensures
