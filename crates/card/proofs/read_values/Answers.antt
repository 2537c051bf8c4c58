-- `card::read_values` meets its contract. Assumes nothing.
use Prim.Native.Nat.{◌<◌}
use mathlib.Core.Path.{sym}
use native.Mathlib.Omega.{arith}
use lib.ListN.{length, length-set}
use Rattle.card.proofs.Reading.{on_start, on_next, on_stop, on_end, ends, total_small, in_layout, value_at}
use Rattle.card.specs.Card.{form_of, is_newer, number_of, field_answer, layout, float, value_count}
use Rattle.card.proofs.Fields.{layout_length}
use Rattle.number.proofs.Walk.{via, handed_on}
use borrow.Author.Rules.{rules}
use Rattle.card.proofs.read_values.Goals as goal

pub loop-k-init : goal.loop-k-init
loop-k-init c = (search rules, search rules, search rules, on_start (layout (form_of (is_newer c.args.head.form)) (number_of c.args.head.kind) c.args.head.count) c.args.card.now c.args.at c.args.values.now)

pub returns-in_err-v : goal.returns-in_err-v
returns-in_err-v c = rw (handed_on _ c.from_residual.ensures) (on_stop (layout (form_of (is_newer c.args.head.form)) (number_of c.args.head.kind) c.args.head.count) c.args.card.now c.args.at c.loop-k.values c.loop-k.end c.loop-k.k _ float c.loop-k.invariant.3 (in_layout (form_of (is_newer c.args.head.form)) (number_of c.args.head.kind) c.args.head.count _ _ c.value_count-total.ensures c.loop-k-test.true) c.field_at-field.ensures.0 _ (sym (via (field_answer c.args.card.now) c.read_field.ensures.0 c.in_err-v.was)), search rules)

pub loop-k-preserved : goal.loop-k-preserved
loop-k-preserved c = let t = total_small (number_of c.args.head.kind) c.args.head.count _ c.requires.1.1 c.value_count-total.ensures in let g : c.loop-k.k < length c.loop-k.values = omega (arith, t) in (search rules, omega (arith, ends _ _ _ c.in_ok-v.was c.read_field.ensures.1), omega (arith, length-set c.loop-k.values c.loop-k.k c.in_ok-v.v.value), on_next (layout (form_of (is_newer c.args.head.form)) (number_of c.args.head.kind) c.args.head.count) c.args.card.now c.args.at c.loop-k.values c.loop-k.end c.loop-k.k _ float c.loop-k.invariant.3 (in_layout (form_of (is_newer c.args.head.form)) (number_of c.args.head.kind) c.args.head.count _ _ c.value_count-total.ensures c.loop-k-test.true) c.field_at-field.ensures.0 _ g (value_at _ _ _ _ c.in_ok-v.was c.read_field.ensures.0))

pub returns : goal.returns
returns c = let t = total_small (number_of c.args.head.kind) c.args.head.count _ c.requires.1.1 c.value_count-total.ensures in (on_end (layout (form_of (is_newer c.args.head.form)) (number_of c.args.head.kind) c.args.head.count) c.args.card.now c.args.at c.loop-k.values c.loop-k.end c.loop-k.k (value_count (number_of c.args.head.kind) c.args.head.count) c.loop-k.invariant.3 (omega (arith, c.value_count-total.ensures)) (layout_length (form_of (is_newer c.args.head.form)) (number_of c.args.head.kind) c.args.head.count), omega (arith, t))
