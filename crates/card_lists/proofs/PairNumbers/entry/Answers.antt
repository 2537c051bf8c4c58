-- `card_lists::PairNumbers::entry` meets its contract. Assumes nothing.
use native.Mathlib.Omega.{arith}
use Rattle.card_lists.proofs.Lists.{entry_end, entry_pair, entry_below}
use Rattle.number.specs.Arith.{decimal}
use lib.Ieee.{of_bits}
use Rattle.card.proofs.Reading.{pairs_small}
use Rattle.card_lists.proofs.PairNumbers.entry.Goals as goal

pub returns-then-i-j : goal.returns-then-i-j
unfolding decimal of_bits
returns-then-i-j c = entry_end c.args.self.values.now c.args.self.start c.args.self.n c.args.e c.args.i c.args.j c.if-i-j.true

pub overflow_add-pair : goal.overflow_add-pair
overflow_add-pair c = omega (arith, entry_below c.args.self.values.now c.args.self.start c.args.self.n c.args.e c.args.i c.args.j _ _ _ c.min-low.ensures c.max-high.ensures c.pairs_before.ensures c.if-i-j.false c.requires.1 c.requires.2, pairs_small c.args.self.n c.args.self.within.0, c.min-low.ensures, c.max-high.ensures)

pub overflow_mul-pair : goal.overflow_mul-pair
overflow_mul-pair c = omega (arith, entry_below c.args.self.values.now c.args.self.start c.args.self.n c.args.e c.args.i c.args.j _ _ _ c.min-low.ensures c.max-high.ensures c.pairs_before.ensures c.if-i-j.false c.requires.1 c.requires.2, pairs_small c.args.self.n c.args.self.within.0, c.min-low.ensures, c.max-high.ensures)

pub overflow_add-self : goal.overflow_add-self
overflow_add-self c = omega (arith, entry_below c.args.self.values.now c.args.self.start c.args.self.n c.args.e c.args.i c.args.j _ _ _ c.min-low.ensures c.max-high.ensures c.pairs_before.ensures c.if-i-j.false c.requires.1 c.requires.2, pairs_small c.args.self.n c.args.self.within.0, c.min-low.ensures, c.max-high.ensures)

pub overflow_add-self-2 : goal.overflow_add-self-2
overflow_add-self-2 c = omega (arith, entry_below c.args.self.values.now c.args.self.start c.args.self.n c.args.e c.args.i c.args.j _ _ _ c.min-low.ensures c.max-high.ensures c.pairs_before.ensures c.if-i-j.false c.requires.1 c.requires.2, pairs_small c.args.self.n c.args.self.within.0, c.min-low.ensures, c.max-high.ensures)

pub offset_bounds-self-self : goal.offset_bounds-self-self
offset_bounds-self-self c = omega (arith, entry_below c.args.self.values.now c.args.self.start c.args.self.n c.args.e c.args.i c.args.j _ _ _ c.min-low.ensures c.max-high.ensures c.pairs_before.ensures c.if-i-j.false c.requires.1 c.requires.2, pairs_small c.args.self.n c.args.self.within.0, c.min-low.ensures, c.max-high.ensures)

pub bounds-self-self : goal.bounds-self-self
bounds-self-self c = omega (arith, entry_below c.args.self.values.now c.args.self.start c.args.self.n c.args.e c.args.i c.args.j _ _ _ c.min-low.ensures c.max-high.ensures c.pairs_before.ensures c.if-i-j.false c.requires.1 c.requires.2, pairs_small c.args.self.n c.args.self.within.0, c.min-low.ensures, c.max-high.ensures)

pub returns : goal.returns
returns c = entry_pair c.args.self.values.now c.args.self.start c.args.self.n c.args.e c.args.i c.args.j _ _ _ c.min-low.ensures c.max-high.ensures c.pairs_before.ensures _ c.if-i-j.false c.of_bits.ensures
