-- `card_writer::store` meets its contract. Assumes nothing.
use Prim.Native.Nat.{◌+◌, ◌/◌}
use native.Mathlib.Omega.{arith}
use mathlib.Core.Path.{◌≡◌, ap, ◌∙◌}
use Rattle.card.specs.Card.{form_of, is_newer, number_of}
use Rattle.card_writer.specs.Writing.{CardRoom}
use Rattle.card_writer.proofs.Stored.{store_short, store_held, refused_verdict, refused_stored, held_verdict, held_stored}
use Rattle.card_writer.proofs.store.Goals as goal

pub returns-then-card-bytes : goal.returns-then-card-bytes
returns-then-card-bytes c = let s = store_short (form_of (is_newer c.args.head.form)) (number_of c.args.head.kind) c.args.head.count c.args.values.now c.args.card.now c.args.told.now _ c.card_length-bits.ensures.0 (omega (arith, c.if-card-bytes.true, c.div_ceil-bytes.ensures)) in (refused_verdict (record { card = c.args.card.now; length = c.args.told.now }) _ 12 s, ap (λ (x : CardRoom). x.card) (refused_stored (record { card = c.args.card.now; length = c.args.told.now }) _ 12 s), ap (λ (x : CardRoom). x.length) (refused_stored (record { card = c.args.card.now; length = c.args.told.now }) _ 12 s))

pub returns : goal.returns
returns c = let e : c.div_ceil-bytes.result ≡ (c.card_length-bits.result + 7) / 8 = omega (arith, c.div_ceil-bytes.ensures) in let s = store_held (form_of (is_newer c.args.head.form)) (number_of c.args.head.kind) c.args.head.count c.args.values.now c.args.card.now c.args.told.now _ c.card_length-bits.ensures.0 (λ i. omega (arith, c.slice_known-1.given i)) (omega (arith, e, c.if-card-bytes.false)) _ c.model_of.ensures _ _ _ _ (λ i. omega (arith, c.slice_known-5-1.given i)) c.put.ensures c.put-2.ensures c.write_values.ensures (rw e at c.put-3.ensures) in (held_verdict (record { card = c.args.card.now; length = c.args.told.now }) _ _ s, ap (λ (x : CardRoom). x.card) (held_stored (record { card = c.args.card.now; length = c.args.told.now }) _ _ s), e ∙ ap (λ (x : CardRoom). x.length) (held_stored (record { card = c.args.card.now; length = c.args.told.now }) _ _ s))
