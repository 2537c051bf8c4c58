-- `card_lists::PairNumbers::row` meets its contract. Assumes nothing.
use Prim.Native.Nat.{◌+◌, ◌*◌, ◌<◌}
use native.Mathlib.Omega.{arith}
use lib.ListN.{length, length-set}
use Rattle.card_lists.specs.Lists.{pair_entry}
use Rattle.card_lists.proofs.Lists.{row_none, row_next, cell_below, square_small}
use borrow.Author.Rules.{rules}
use Rattle.card_lists.proofs.PairNumbers.row.Goals as goal

pub loop-j-init : goal.loop-j-init
loop-j-init c = (search rules, search rules, row_none (λ j. pair_entry c.args.self.values.now c.args.self.start c.args.self.n c.args.e c.args.i j) c.args.list.now (c.args.self.n * c.args.i))

pub loop-j-preserved : goal.loop-j-preserved
loop-j-preserved c = let g : c.args.self.n * c.args.i + c.loop-j.j < length c.loop-j.list = omega (arith, cell_below c.args.self.n c.args.i c.loop-j.j c.requires.1 c.loop-j-test.true, square_small c.args.self.n c.args.self.within.0) in (search rules, simp length-set c.loop-j.invariant.1, row_next (λ j. pair_entry c.args.self.values.now c.args.self.start c.args.self.n c.args.e c.args.i j) c.loop-j.list c.args.list.now (c.args.self.n * c.args.i) c.loop-j.j _ g c.loop-j.invariant.2 c.entry.ensures)
