-- `card_lists::PairNumbers::list` meets its contract. Assumes nothing.
use native.Mathlib.Omega.{arith}
use mathlib.Core.Path.{◌≡◌}
use lib.ListN.{replicate}
use mathlib.Core.List.{[], ◌∷◌}
use Rattle.card_lists.specs.Lists.{pair_entry, pair_list}
use Rattle.card.specs.Fields.{joined}
use Rattle.sizes.specs.Sizes.{sheet}
use Rattle.card_lists.proofs.Lists.{rows_none, rows_next}
use Rattle.number.specs.Arith.{zero64}
use borrow.Author.Rules.{rules}
use Rattle.card_lists.proofs.PairNumbers.list.Goals as goal

pub loop-i-init : goal.loop-i-init
loop-i-init c = (search rules, search rules, rows_none (λ i. joined c.args.self.n (λ j. pair_entry c.args.self.values.now c.args.self.start c.args.self.n c.args.e i j ∷ [])) (replicate sheet zero64) c.args.self.n)

pub loop-i-preserved : goal.loop-i-preserved
loop-i-preserved c = (search rules, search rules, rows_next (λ i. joined c.args.self.n (λ j. pair_entry c.args.self.values.now c.args.self.start c.args.self.n c.args.e i j ∷ [])) c.loop-i.list _ c.args.self.n c.loop-i.i c.loop-i.invariant.2 c.row.ensures)

pub returns : goal.returns
unfolding pair_list
returns c = let e : ◌≡◌ c.loop-i.i c.args.self.n = omega arith in rw e at c.loop-i.invariant.2
