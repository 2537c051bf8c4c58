-- `set_lists::row_within` meets its contract. Assumes nothing.
use Rattle.std.proofs.Common.{ℕ, Bool, rules, ◌∙◌, ◌*◌, ◌-◌, ◌+◌, take, drop, arith}
use Rattle.std.proofs.lemmas.Iterator.{YieldsList-from_slice}
use Rattle.std.proofs.lemmas.Iterator.Search.{all_from_yields_List}
use lib.Dec.{leb}
use Rattle.sizes.specs.Sizes.{side}
use Rattle.set_lists.specs.Sets.{row_within}
use Rattle.set_lists.proofs.Copies.{every_part}
use Rattle.set_lists.proofs.row_within.Goals as goal

pub returns : goal.returns
unfolding row_within
returns c =
    let test : ℕ → Bool = λ b. leb b 2 in
    let from = side * c.args.i in
    all_from_yields_List test _ _ _ c.all.ensures.ran (YieldsList-from_slice (take (from + c.args.n - from) (drop from c.args.l.now)) c.iter.ensures.rest) (λ x b q k. search rules) ∙ every_part test c.args.l.now from c.args.n (omega (arith, c.requires))
