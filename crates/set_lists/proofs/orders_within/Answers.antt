-- `set_lists::orders_within` meets its contract. Assumes nothing.
use Rattle.std.proofs.Common.{ℕ, Bool, rules, ◌∙◌, refl, arith}
use Rattle.std.proofs.lemmas.Iterator.{YieldsList-from_range}
use Rattle.std.proofs.lemmas.Iterator.Search.{all_from_yields_List}
use Rattle.limits.proofs.Range.{every_range}
use Rattle.set_lists.specs.Sets.{row_within, orders_within}
use Rattle.set_lists.proofs.orders_within.Goals as goal

pub returns : goal.returns
unfolding orders_within
returns c =
    let test : ℕ → Bool = row_within c.args.n c.args.l.now in
    all_from_yields_List test _ _ _ c.all.ensures.ran (YieldsList-from_range 0 c.args.n c.args.n refl (omega arith)) (λ x b q k. search rules) ∙ every_range test c.args.n
