-- `card_writer::write_field` meets its contract. Assumes nothing.
use native.Mathlib.Omega.{arith}
use Rattle.bit_fields.specs.Bits.{bits_of}
use Rattle.bit_fields.proofs.Bytes.{bits_length}
use Rattle.card_writer.proofs.Writing.{length_zero, length_stored, length_plain, zero_over, stored_over, plain_over}
use borrow.Author.Rules.{rules}
use Rattle.card_writer.proofs.write_field.Goals as goal

pub put-requires : goal.put-requires
put-requires c = (omega (arith, c.requires.0, length_zero c.args.field c.args.value c.if-field.true c.if-value-eq0.true), search rules, omega (arith, c.requires.2))

pub returns-then-value-eq0 : goal.returns-then-value-eq0
returns-then-value-eq0 c = (zero_over c.args.field c.args.value c.args.at (bits_of c.args.card.now) _ c.if-field.true c.if-value-eq0.true c.put.ensures, omega (arith, length_zero c.args.field c.args.value c.if-field.true c.if-value-eq0.true))

pub put-requires-then-field : goal.put-requires-then-field
put-requires-then-field c = (omega (arith, c.requires.0, length_stored c.args.field c.args.value c.if-field.true c.if-value-eq0.false), search rules, omega (arith, c.requires.2))

pub put-requires-then-field-2 : goal.put-requires-then-field-2
put-requires-then-field-2 c = (omega (arith, c.requires.0, length_stored c.args.field c.args.value c.if-field.true c.if-value-eq0.false), c.requires.1, omega (arith, c.requires.2))

pub returns-then-field : goal.returns-then-field
returns-then-field c = (stored_over c.args.field c.args.value c.args.at (bits_of c.args.card.now) _ _ c.if-field.true c.if-value-eq0.false (rw (bits_length c.args.card.now) c.requires.0) c.put-then-field.ensures c.put-then-field-2.ensures, omega (arith, length_stored c.args.field c.args.value c.if-field.true c.if-value-eq0.false))

pub put-requires-2 : goal.put-requires-2
put-requires-2 c = (omega (arith, c.requires.0, length_plain c.args.field c.args.value c.if-field.false), c.requires.1, omega (arith, c.requires.2))

pub returns : goal.returns
returns c = (plain_over c.args.field c.args.value c.args.at (bits_of c.args.card.now) _ c.if-field.false c.put-2.ensures, omega (arith, length_plain c.args.field c.args.value c.if-field.false))
