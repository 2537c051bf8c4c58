-- `card::read` meets its contract. Assumes nothing.
use native.Mathlib.Omega.{arith}
use Rattle.card.proofs.Whole.{knows, known_kind, twelve, model_short, count_short, not_known, values_refused, left_over, whole}
use Rattle.card.proofs.Reading.{ends}
use Rattle.number.proofs.Walk.{told, handed_on}
use Rattle.card.specs.Card.{form_of, is_newer}
use borrow.Author.Rules.{rules}
use Rattle.card.proofs.read.Goals as goal

pub returns-in_err-model : goal.returns-in_err-model
returns-in_err-model c = rw (handed_on _ c.from_residual.ensures) (model_short (form_of (is_newer c.args.form)) c.args.card.now _ c.plain.ensures.0 _ c.in_err-model.was, search rules)

pub returns-in_err-count : goal.returns-in_err-count
returns-in_err-count c = rw (handed_on _ c.from_residual-in_err-count.ensures) (count_short (form_of (is_newer c.args.form)) c.args.card.now _ c.plain.ensures.0 _ c.in_ok-model.was _ c.plain-2.ensures.0 _ c.in_err-count.was, search rules)

pub returns-then-not-known : goal.returns-then-not-known
returns-then-not-known c = (not_known (form_of (is_newer c.args.form)) c.args.card.now _ c.plain.ensures.0 _ c.in_ok-model.was _ c.plain-2.ensures.0 _ c.in_ok-count.was (told c.known.ensures c.if-not-known.true), search rules)

pub kind_of-kind-requires : goal.kind_of-kind-requires
kind_of-kind-requires c = (knows (form_of (is_newer c.args.form)) c.in_ok-model.model.value c.in_ok-count.count.value (told c.known.ensures c.if-not-known.false)).first

pub read_values-requires : goal.read_values-requires
read_values-requires c = let h = knows (form_of (is_newer c.args.form)) c.in_ok-model.model.value c.in_ok-count.count.value (told c.known.ensures c.if-not-known.false) in let a = ends _ _ _ c.in_ok-model.was c.plain.ensures.1 in let b = ends _ _ _ c.in_ok-count.was c.plain-2.ensures.1 in (omega (arith, a, b), (h.some, twelve (is_newer c.args.form) _ h.most))

pub returns-in_err-end : goal.returns-in_err-end
returns-in_err-end c = rw (handed_on _ c.from_residual-in_err-end.ensures) (values_refused (form_of (is_newer c.args.form)) c.args.card.now _ c.plain.ensures.0 _ c.in_ok-model.was _ c.plain-2.ensures.0 _ c.in_ok-count.was (told c.known.ensures c.if-not-known.false) _ (known_kind (form_of (is_newer c.args.form)) _ _ _ (told c.known.ensures c.if-not-known.false) c.kind_of-kind.ensures) _ _ c.read_values.ensures.0 _ c.in_err-end.was, search rules)

pub returns-then-not-filling : goal.returns-then-not-filling
returns-then-not-filling c = (left_over (form_of (is_newer c.args.form)) c.args.card.now _ c.plain.ensures.0 _ c.in_ok-model.was _ c.plain-2.ensures.0 _ c.in_ok-count.was (told c.known.ensures c.if-not-known.false) _ (known_kind (form_of (is_newer c.args.form)) _ _ _ (told c.known.ensures c.if-not-known.false) c.kind_of-kind.ensures) _ _ c.read_values.ensures.0 _ c.in_ok-end.was (told c.filling.ensures c.if-not-filling.true), search rules)

pub returns : goal.returns
returns c = (whole (form_of (is_newer c.args.form)) c.args.card.now _ c.plain.ensures.0 _ c.in_ok-model.was _ c.plain-2.ensures.0 _ c.in_ok-count.was (told c.known.ensures c.if-not-known.false) _ (known_kind (form_of (is_newer c.args.form)) _ _ _ (told c.known.ensures c.if-not-known.false) c.kind_of-kind.ensures) _ _ c.read_values.ensures.0 _ c.in_ok-end.was c.args.form (told c.filling.ensures c.if-not-filling.false), search rules)
