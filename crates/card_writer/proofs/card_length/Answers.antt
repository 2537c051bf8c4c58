-- `card_writer::card_length` meets its contract. Assumes nothing.
use native.Mathlib.Omega.{arith}
use Rattle.card.specs.Card.{form_of, is_newer, number_of, layout}
use Rattle.card_writer.proofs.Writing.{total_below, next_length, all_is, none_length}
use borrow.Author.Rules.{rules}
use Rattle.card_writer.proofs.card_length.Goals as goal

pub loop-k-init : goal.loop-k-init
loop-k-init c = (search rules, omega (arith, none_length (layout (form_of (is_newer c.args.head.form)) (number_of c.args.head.kind) c.args.head.count) c.args.values.now), search rules)

pub loop-k-preserved : goal.loop-k-preserved
loop-k-preserved c = (omega (arith, c.loop-k-test.true), omega (arith, c.loop-k.invariant.1, c.field_length-bits.ensures.0, next_length (number_of c.args.head.kind) c.args.head.count (is_newer c.args.head.form) c.args.values.now _ c.requires.1 c.requires.2 c.requires.2 c.loop-k.k c.loop-k-test.true _ c.field_at-field.ensures.0), omega (arith, c.loop-k.invariant.2, c.field_length-bits.ensures.1))

pub returns : goal.returns
returns c = (rw (all_is (number_of c.args.head.kind) c.args.head.count (is_newer c.args.head.form) c.args.values.now _ c.requires.1 c.requires.2 c.requires.2 c.loop-k.k c.loop-k.invariant.0 c.loop-k-test.false) at c.loop-k.invariant.1, omega (arith, total_below (number_of c.args.head.kind) c.args.head.count (is_newer c.args.head.form) c.args.values.now _ c.requires.1 c.requires.2 c.requires.2, c.loop-k.invariant.0, c.loop-k.invariant.2))
