-- `limits::row_within` meets its contract. Assumes nothing.
use Rattle.std.proofs.Common.{rules, ◌∙◌, refl, arith}
use Rattle.std.proofs.lemmas.Iterator.{YieldsList-from_range}
use Rattle.std.proofs.lemmas.Iterator.Search.{all_from_yields_List}
use Rattle.limits.specs.Limits.{square, pair_within}
use Rattle.limits.proofs.Range.{every_range}
use Rattle.limits.proofs.row_within.Goals as goal

pub returns : goal.returns
returns c =
    let test = pair_within (square c.args.n c.args.k.now) c.args.i in
    all_from_yields_List test _ _ _ c.all.ensures.ran (YieldsList-from_range 0 c.args.n c.args.n refl (omega arith)) (λ x b q k. search rules) ∙ every_range test c.args.n
