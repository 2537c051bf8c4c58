-- `limits::all_within` meets its contract. Assumes nothing.
use Rattle.std.proofs.Common.{rules, refl, length, ◌∙◌}
use Rattle.std.proofs.lemmas.Iterator.{YieldsList-from_slice}
use Rattle.std.proofs.lemmas.Iterator.Search.{all_from_yields_List}
use Rattle.std.specs.Float.{nan}
use Rattle.number.proofs.Every.{every_all}
use Rattle.limits.specs.Limits.{in_limits, all_within}
use Rattle.limits.proofs.all_within.Goals as goal

pub returns : goal.returns
unfolding all_within in_limits
returns c = let test = in_limits c.args.low c.args.high in all_from_yields_List test _ _ _ c.all.ensures.ran (YieldsList-from_slice c.args.l.now c.iter.ensures.rest) (λ x b q k. search rules) ∙ every_all test nan c.args.l.now (length c.args.l.now) refl
