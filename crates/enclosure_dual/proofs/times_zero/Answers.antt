-- `enclosure_dual::times_zero` meets its contract. Assumes nothing.
use mathlib.Core.Path.{refl, sym, ◌∙◌}
use Rattle.enclosure_dual.proofs.Zero.{right_is}
use Rattle.enclosure_dual.proofs.times_zero.Goals as goal

pub returns : goal.returns
returns c = right_is c.args.x refl refl (sym c.is_finite.ensures ∙ c.if-not-is_finite.false) c.about_zero.ensures
