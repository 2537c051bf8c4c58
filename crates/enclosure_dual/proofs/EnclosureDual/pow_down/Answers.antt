-- `enclosure_dual::EnclosureDual::pow_down` meets its contract. Assumes nothing.
use mathlib.Core.Path.{ap, ◌∙◌}
use Prim.Native.Nat.{ℕ, ◌+◌}
use lib.Ieee as Ieee
use lib.Ieee.{Float}
use Rattle.enclosure.specs.Enclosure.{enclosures, point}
use Rattle.dual.proofs.Power.{down_zero, down_above}
use Rattle.enclosure_dual.specs.Value.{dual_of}
use Rattle.enclosure_dual.proofs.EnclosureDual.pow_down.Goals as goal

pub returns-then-n-eq0 : goal.returns-then-n-eq0
unfolding dual_of
returns-then-n-eq0 c = down_zero enclosures _ _ _ _ c.if-n-eq0.true c.pow_down.ensures c.point.ensures

pub returns : goal.returns
unfolding dual_of
returns c =
    rw (c.mul.ensures, c.mul-factor.ensures)
    (down_above enclosures _ _ _ _ _ c.if-n-eq0.false (c.pow_down-2.ensures ∙ ap (enclosures.pow_down c.args.self.re) c.from-3.ensures) (c.pow_down-beyond.ensures ∙ ap (λ (k : ℕ). enclosures.pow_down c.args.self.re (k + 1)) c.from.ensures) (c.point-2.ensures ∙ ap (λ (v : Float). point (Ieee.neg v)) c.from-2.ensures))
