-- `enclosure_dual::EnclosureDual::pow_up` meets its contract. Assumes nothing.
use mathlib.Core.Path.{ap, ◌∙◌}
use Prim.Native.Nat.{ℕ, ◌-◌}
use Rattle.enclosure.specs.Enclosure.{enclosures, point}
use Rattle.dual.proofs.Power.{pow_zero, pow_above}
use Rattle.enclosure_dual.specs.Value.{dual_of}
use Rattle.enclosure_dual.proofs.EnclosureDual.pow_up.Goals as goal

pub returns-then-n-eq0 : goal.returns-then-n-eq0
unfolding dual_of
returns-then-n-eq0 c = pow_zero enclosures _ _ _ _ c.if-n-eq0.true c.pow_up.ensures c.point.ensures

pub returns : goal.returns
unfolding dual_of
returns c =
    rw (c.mul.ensures, c.mul-factor.ensures)
    (pow_above enclosures _ _ _ _ _ c.if-n-eq0.false (c.pow_up-2.ensures ∙ ap (enclosures.pow c.args.self.re) c.from-3.ensures) (c.pow_up-below.ensures ∙ ap (λ (k : ℕ). enclosures.pow c.args.self.re (k - 1)) c.from.ensures) (c.point-2.ensures ∙ ap point c.from-2.ensures))
