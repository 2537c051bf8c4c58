-- `card_parameters::parameters` meets its contract. Assumes nothing.
use native.Mathlib.Omega.{arith}
use mathlib.Core.Path.{refl, ◌∙◌}
use Rattle.card_parameters.specs.Parameters.{CardLent}
use Rattle.card.specs.Card.{form_of, is_newer, number_of}
use Rattle.number.proofs.Walk.{told, handed_on}
use Rattle.card.proofs.Whole.{twelve}
use Rattle.card.proofs.Reading.{total_small}
use Rattle.card_parameters.proofs.Stored.{none_stored, all_stored, whole_part, lengths_1, card_refused, within, quantum_stops, quantum_goes, mie_stops, mie_goes, quantum_right, mie_right}
use Rattle.card_parameters.proofs.parameters.Goals as goal

pub returns-then-not-card_lengths : goal.returns-then-not-card_lengths
returns-then-not-card_lengths c =
    let l : CardLent = record { model = c.args.model.now; count = c.args.count.now; m = c.args.m.now; lists = c.args.lists.now; sheets = c.args.sheets.now; orders = c.args.orders.now } in
    none_stored l _ _ (lengths_1 (form_of (is_newer c.args.form)) c.args.card.now l (told c.card_lengths.ensures c.if-not-card_lengths.true))

pub returns-in_err-head : goal.returns-in_err-head
returns-in_err-head c =
    let l : CardLent = record { model = c.args.model.now; count = c.args.count.now; m = c.args.m.now; lists = c.args.lists.now; sheets = c.args.sheets.now; orders = c.args.orders.now } in
    let t = told c.card_lengths.ensures c.if-not-card_lengths.false in
    rw (handed_on _ c.from_residual.ensures) (none_stored l _ _ (card_refused (form_of (is_newer c.args.form)) c.args.card.now l t _ _ c.read.ensures.0 c.in_err-head.was))

pub value_count-total-requires : goal.value_count-total-requires
value_count-total-requires c =
    let l : CardLent = record { model = c.args.model.now; count = c.args.count.now; m = c.args.m.now; lists = c.args.lists.now; sheets = c.args.sheets.now; orders = c.args.orders.now } in
    let t = told c.card_lengths.ensures c.if-not-card_lengths.false in
    let w = within (form_of (is_newer c.args.form)) c.args.card.now l t _ _ _ c.read.ensures.0 c.in_ok-head.was in
    (w.0, twelve (is_newer c.args.form) _ w.1)

pub slice_bounds-quantum_set-end : goal.slice_bounds-quantum_set-end
slice_bounds-quantum_set-end c =
    let l : CardLent = record { model = c.args.model.now; count = c.args.count.now; m = c.args.m.now; lists = c.args.lists.now; sheets = c.args.sheets.now; orders = c.args.orders.now } in
    let t = told c.card_lengths.ensures c.if-not-card_lengths.false in
    let w = within (form_of (is_newer c.args.form)) c.args.card.now l t _ _ _ c.read.ensures.0 c.in_ok-head.was in
    let b = total_small (number_of c.in_ok-head.head.kind) c.in_ok-head.head.count c.value_count-total.result (twelve (is_newer c.args.form) _ w.1) c.value_count-total.ensures in
    omega (arith, b)

pub returns-in_err-set-in-Quantum : goal.returns-in_err-set-in-Quantum
returns-in_err-set-in-Quantum c =
    let l : CardLent = record { model = c.args.model.now; count = c.args.count.now; m = c.args.m.now; lists = c.args.lists.now; sheets = c.args.sheets.now; orders = c.args.orders.now } in
    let t = told c.card_lengths.ensures c.if-not-card_lengths.false in
    rw (handed_on _ c.from_residual-in_err-set-in-Quantum.ensures) (none_stored l _ _ (quantum_stops (form_of (is_newer c.args.form)) c.args.card.now l t _ _ _ c.read.ensures.0 c.in_ok-head.was _ (whole_part c.value_count-total.result _ _ c.value_count-total.ensures) (rw c.in-Quantum.is refl) _ c.quantum_set.ensures c.in_err-set-in-Quantum.was))

pub write_quantum-requires : goal.write_quantum-requires
write_quantum-requires c = quantum_right _ _ _ _ (told c.card_lengths.ensures c.if-not-card_lengths.false)

pub returns-in_ok-set-in-Quantum : goal.returns-in_ok-set-in-Quantum
returns-in_ok-set-in-Quantum c =
    let l : CardLent = record { model = c.args.model.now; count = c.args.count.now; m = c.args.m.now; lists = c.args.lists.now; sheets = c.args.sheets.now; orders = c.args.orders.now } in
    let t = told c.card_lengths.ensures c.if-not-card_lengths.false in
    let t₁ = all_stored l _ _ (quantum_goes (form_of (is_newer c.args.form)) c.args.card.now l t _ _ _ c.read.ensures.0 c.in_ok-head.was _ (whole_part c.value_count-total.result _ _ c.value_count-total.ensures) (rw c.in-Quantum.is refl) _ c.quantum_set.ensures c.in_ok-set-in-Quantum.was) in
    (t₁.0, rw c.in-Quantum.is t₁.1, t₁.2, c.write_quantum.ensures.0 ∙ t₁.3, t₁.4, c.write_quantum.ensures.1 ∙ t₁.5, c.write_quantum.ensures.2 ∙ t₁.6)

pub slice_bounds-mie_set-end : goal.slice_bounds-mie_set-end
slice_bounds-mie_set-end c =
    let l : CardLent = record { model = c.args.model.now; count = c.args.count.now; m = c.args.m.now; lists = c.args.lists.now; sheets = c.args.sheets.now; orders = c.args.orders.now } in
    let t = told c.card_lengths.ensures c.if-not-card_lengths.false in
    let w = within (form_of (is_newer c.args.form)) c.args.card.now l t _ _ _ c.read.ensures.0 c.in_ok-head.was in
    let b = total_small (number_of c.in_ok-head.head.kind) c.in_ok-head.head.count c.value_count-total.result (twelve (is_newer c.args.form) _ w.1) c.value_count-total.ensures in
    omega (arith, b)

pub returns-in_err-set-in-Mie : goal.returns-in_err-set-in-Mie
returns-in_err-set-in-Mie c =
    let l : CardLent = record { model = c.args.model.now; count = c.args.count.now; m = c.args.m.now; lists = c.args.lists.now; sheets = c.args.sheets.now; orders = c.args.orders.now } in
    let t = told c.card_lengths.ensures c.if-not-card_lengths.false in
    rw (handed_on _ c.from_residual-in_err-set-in-Mie.ensures) (none_stored l _ _ (mie_stops (form_of (is_newer c.args.form)) c.args.card.now l t _ _ _ c.read.ensures.0 c.in_ok-head.was _ (whole_part c.value_count-total.result _ _ c.value_count-total.ensures) (rw c.in-Mie.is refl) _ c.mie_set.ensures c.in_err-set-in-Mie.was))

pub write_mie-requires : goal.write_mie-requires
write_mie-requires c = mie_right _ _ _ _ (told c.card_lengths.ensures c.if-not-card_lengths.false)

pub returns-in_ok-set-in-Mie : goal.returns-in_ok-set-in-Mie
returns-in_ok-set-in-Mie c =
    let l : CardLent = record { model = c.args.model.now; count = c.args.count.now; m = c.args.m.now; lists = c.args.lists.now; sheets = c.args.sheets.now; orders = c.args.orders.now } in
    let t = told c.card_lengths.ensures c.if-not-card_lengths.false in
    let t₁ = all_stored l _ _ (mie_goes (form_of (is_newer c.args.form)) c.args.card.now l t _ _ _ c.read.ensures.0 c.in_ok-head.was _ (whole_part c.value_count-total.result _ _ c.value_count-total.ensures) (rw c.in-Mie.is refl) _ c.mie_set.ensures c.in_ok-set-in-Mie.was) in
    (t₁.0, rw c.in-Mie.is t₁.1, t₁.2, t₁.3, c.write_mie.ensures.0 ∙ t₁.4, c.write_mie.ensures.1 ∙ t₁.5, t₁.6)
