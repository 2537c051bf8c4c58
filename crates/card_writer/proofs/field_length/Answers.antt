-- `card_writer::field_length` meets its contract. Assumes nothing.
use Rattle.card_writer.proofs.Writing.{length_zero, length_stored, length_plain}
use borrow.Author.Rules.{rules}
use Rattle.card_writer.proofs.field_length.Goals as goal

pub returns-then-value-eq0 : goal.returns-then-value-eq0
returns-then-value-eq0 c = (length_zero c.args.field c.args.value c.if-field.true c.if-value-eq0.true, search rules)

pub returns-then-field : goal.returns-then-field
returns-then-field c = (length_stored c.args.field c.args.value c.if-field.true c.if-value-eq0.false, search rules)

pub returns : goal.returns
returns c = (length_plain c.args.field c.args.value c.if-field.false, search rules)
