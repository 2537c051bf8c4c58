-- `limits::all_one` meets its contract. Assumes nothing.
use Rattle.std.proofs.Common.{rules, refl, length, ◌∙◌}
use Rattle.std.proofs.lemmas.Iterator.{YieldsList-from_slice}
use Rattle.std.proofs.lemmas.Iterator.Search.{all_from_yields_List}
use Rattle.std.specs.Float.{nan}
use lib.Ieee.{of_bits}
use Rattle.number.specs.Arith.{decimal}
use Rattle.number.proofs.Every.{every_all}
use Rattle.limits.specs.Limits.{is_one, all_one}
use Rattle.limits.proofs.all_one.Goals as goal

pub returns : goal.returns
unfolding all_one decimal of_bits
returns c = all_from_yields_List is_one _ _ _ c.all.ensures.ran (YieldsList-from_slice c.args.m.now c.iter.ensures.rest) (λ x b q k. search rules) ∙ every_all is_one nan c.args.m.now (length c.args.m.now) refl
