-- `enclosure_dual::zero_times` meets its contract. Assumes nothing.
use mathlib.Core.Path.{refl, sym, ◌∙◌}
use Rattle.enclosure_dual.proofs.Zero.{left_is}
use Rattle.enclosure_dual.proofs.zero_times.Goals as goal

pub returns : goal.returns
returns c = left_is c.args.x refl refl (sym c.is_finite.ensures ∙ c.if-not-is_finite.false) c.about_zero.ensures
