-- `limits::all_finite` meets its contract. Assumes nothing.
use Rattle.std.proofs.Common.{rules, refl, length, ◌∙◌}
use Rattle.std.proofs.lemmas.Iterator.{YieldsList-from_slice}
use Rattle.std.proofs.lemmas.Iterator.Search.{all_from_yields_List}
use Rattle.std.specs.Float.{nan}
use lib.Ieee.Scale.{finite}
use Rattle.number.proofs.Every.{every_all}
use Rattle.limits.specs.Limits.{all_finite}
use Rattle.limits.proofs.all_finite.Goals as goal

pub returns : goal.returns
unfolding all_finite
returns c = all_from_yields_List finite _ _ _ c.all.ensures.ran (YieldsList-from_slice c.args.l.now c.iter.ensures.rest) (λ x b q k. search rules) ∙ every_all finite nan c.args.l.now (length c.args.l.now) refl
