-- `dual::Dual::pow_down` meets its contract. Assumes nothing.
use mathlib.Core.Path.{refl, ap, ◌∙◌}
use Prim.Native.Nat.{ℕ, ◌+◌}
use lib.Ieee as Ieee
use Rattle.number.specs.Arith.{floats}
use Rattle.dual.specs.Value.{dual_of}
use Rattle.dual.proofs.Power.{down_zero, down_above}
use Rattle.dual.proofs.Dual.pow_down.Goals as goal

pub returns-then-n-eq0 : goal.returns-then-n-eq0
unfolding dual_of
returns-then-n-eq0 c = down_zero floats _ _ _ _ c.if-n-eq0.true c.pow_down.ensures refl

pub returns : goal.returns
unfolding dual_of
returns c =
    down_above floats _ _ _ _ _ c.if-n-eq0.false (c.pow_down-2.ensures ∙ ap (floats.pow_down c.args.self.re) c.from-2.ensures) (c.pow_down-beyond.ensures ∙ ap (λ (k : ℕ). floats.pow_down c.args.self.re (k + 1)) c.from.ensures) (ap Ieee.neg c.from-3.ensures)
