-- `limits::pairs_within` meets its contract. Assumes nothing.
use Rattle.std.proofs.Common.{ℕ, Bool, rules, ◌∙◌, refl, arith}
use Rattle.std.proofs.lemmas.Iterator.{YieldsList-from_range}
use Rattle.std.proofs.lemmas.Iterator.Search.{all_from_yields_List}
use Rattle.number.specs.Walk.{every}
use Rattle.limits.specs.Limits.{square, pair_within, pairs_within}
use Rattle.limits.proofs.Range.{every_range}
use Rattle.limits.proofs.pairs_within.Goals as goal

pub returns : goal.returns
unfolding pairs_within
returns c =
    let test : ℕ → Bool = λ i. every c.args.n (pair_within (square c.args.n c.args.k.now) i) in
    all_from_yields_List test _ _ _ c.all.ensures.ran (YieldsList-from_range 0 c.args.n c.args.n refl (omega arith)) (λ x b q k. search rules) ∙ every_range test c.args.n
