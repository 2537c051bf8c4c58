-- `card::Heading::field_at` meets its contract. Assumes nothing.
use mathlib.Core.Path.{refl}
use Rattle.card.specs.Card.{is_newer, number_of}
use Rattle.card.proofs.Fields.{order_field, quantum_field, mie_field, pair_field}
use borrow.Author.Rules.{rules}
use Rattle.card.proofs.Heading.field_at.Goals as goal

pub returns-then-self-size : goal.returns-then-self-size
returns-then-self-size c = (pair_field (is_newer c.args.self.form) _ _ _ (number_of c.args.self.kind) c.size.ensures.0 _ c.spares_zero.ensures c.if-self-size.true c.requires.1, (search rules, search rules))

pub returns-in-Quantum : goal.returns-in-Quantum
returns-in-Quantum c = (order_field (is_newer c.args.self.form) _ _ _ (number_of c.args.self.kind) c.size.ensures.0 (rw c.in-Quantum.is refl) c.if-self-size.false c.if-k-eq-ORDER.true, (search rules, search rules))

pub returns-in_default : goal.returns-in_default
returns-in_default c = (quantum_field (is_newer c.args.self.form) _ _ _ (number_of c.args.self.kind) c.size.ensures.0 (rw c.in-Quantum.is refl) c.if-self-size.false c.if-k-eq-ORDER.false, (search rules, search rules))

pub returns-in_default-2 : goal.returns-in_default-2
returns-in_default-2 c = (mie_field (is_newer c.args.self.form) _ _ _ (number_of c.args.self.kind) c.size.ensures.0 (rw c.in_default.is refl) c.if-self-size.false, (search rules, search rules))
