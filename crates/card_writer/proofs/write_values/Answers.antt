-- `card_writer::write_values` meets its contract. Assumes nothing.
use native.Mathlib.Omega.{arith}
use mathlib.Core.Path.{sym}
use lib.ListN.{get_or}
use Rattle.bit_fields.specs.Bits.{bits_of}
use Rattle.bit_fields.proofs.Bytes.{bits_length}
use Rattle.card.specs.Card.{form_of, is_newer, number_of, layout}
use Rattle.card_writer.proofs.Writing.{length_small, total_below, next_length, next_fits, next_over, all_is, none_over, none_length}
use borrow.Author.Rules.{rules}
use Rattle.card_writer.proofs.write_values.Goals as goal

pub loop-k-init : goal.loop-k-init
loop-k-init c = (search rules, search rules, omega (arith, none_length (layout (form_of (is_newer c.args.head.form)) (number_of c.args.head.kind) c.args.head.count) c.args.values.now), none_over (layout (form_of (is_newer c.args.head.form)) (number_of c.args.head.kind) c.args.head.count) c.args.values.now 6 (bits_of c.args.card.now), search rules)

pub write_field-end-requires : goal.write_field-end-requires
write_field-end-requires c = (omega (arith, next_fits (number_of c.args.head.kind) c.args.head.count (is_newer c.args.head.form) c.args.values.now _ c.requires.1.1 c.requires.1.2 c.requires.1.2 c.loop-k.k c.loop-k-test.true _ c.field_at-field.ensures.0, c.loop-k.invariant.1, c.loop-k.invariant.2, c.requires.0), c.field_at-field.ensures.1.1, omega (arith, total_below (number_of c.args.head.kind) c.args.head.count (is_newer c.args.head.form) c.args.values.now _ c.requires.1.1 c.requires.1.2 c.requires.1.2, c.loop-k-test.true, c.loop-k.invariant.4))

pub loop-k-preserved : goal.loop-k-preserved
loop-k-preserved c = (omega (arith, c.loop-k-test.true), search rules, omega (arith, c.loop-k.invariant.2, c.write_field-end.ensures.1, next_length (number_of c.args.head.kind) c.args.head.count (is_newer c.args.head.form) c.args.values.now _ c.requires.1.1 c.requires.1.2 c.requires.1.2 c.loop-k.k c.loop-k-test.true _ c.field_at-field.ensures.0), next_over (number_of c.args.head.kind) c.args.head.count (is_newer c.args.head.form) c.args.values.now _ c.requires.1.1 c.requires.1.2 c.requires.1.2 c.loop-k.k c.loop-k-test.true _ c.field_at-field.ensures.0 c.loop-k.end _ (bits_of c.args.card.now) _ _ c.loop-k.invariant.2 (sym (bits_length c.args.card.now)) c.requires.0 c.loop-k.invariant.3 c.write_field-end.ensures.0, omega (arith, c.loop-k.invariant.4, c.write_field-end.ensures.1, length_small c.field_at-field.result (get_or c.args.values.now c.loop-k.k 0) c.field_at-field.ensures.1.1))

pub returns : goal.returns
returns c = rw (all_is (number_of c.args.head.kind) c.args.head.count (is_newer c.args.head.form) c.args.values.now _ c.requires.1.1 c.requires.1.2 c.requires.1.2 c.loop-k.k c.loop-k.invariant.0 c.loop-k-test.false) at c.loop-k.invariant.3
