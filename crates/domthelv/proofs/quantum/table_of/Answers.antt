-- `domthelv::quantum::table_of` meets its contract. Assumes nothing.
use Rattle.set_lists.proofs.Sets.{lengths, passed_lengths, passed, not_passed, set_by}
use Rattle.domthelv.proofs.Operations.{table_refused, table_of, refused_verdict, refused_stored, through_stored}
use Rattle.number.proofs.Walk.{handed_on}
use mathlib.Core.Path.{refl, sym, ap, ◌∙◌}
use Rattle.mie_parameters.specs.Answer.{verdict}
use Rattle.saftvrqmie.specs.Table.{Lent}
use Rattle.domthelv.proofs.quantum.table_of.Goals as goal

pub returns-in_err-quantum_answer : goal.returns-in_err-quantum_answer
returns-in_err-quantum_answer c = let q = table_refused _ _ _ _ (not_passed _ _ _ c.right_lists-right.ensures _ c.quantum_answer.ensures c.in_err-quantum_answer.was) in rw (handed_on _ c.from_residual.ensures) (refused_verdict _ _ q, ap (λ (l : Lent). l.values) (refused_stored _ _ _ q), ap (λ (l : Lent). l.numbers) (refused_stored _ _ _ q))

pub flat-flat-requires : goal.flat-flat-requires
flat-flat-requires c = (lengths _ _ _ (passed_lengths _ _ _ c.right_lists-right.ensures _ c.quantum_answer.ensures c.in_ok-quantum_answer.was)).flat

pub order_records-records-requires : goal.order_records-records-requires
order_records-records-requires c = (lengths _ _ _ (passed_lengths _ _ _ c.right_lists-right.ensures _ c.quantum_answer.ensures c.in_ok-quantum_answer.was)).records

pub returns : goal.returns
returns c =
    let q = table_of _ _ _ _ _ _ (set_by _ _ _ _ _ (passed _ _ _ c.right_lists-right.ensures _ c.quantum_answer.ensures c.in_ok-quantum_answer.was) refl c.flat-flat.ensures c.order_records-records.ensures) in
    let e = c.table_of.ensures in
    (e.0 ∙ ap verdict (sym q), e.1 ∙ ap (λ (l : Lent). l.values) (through_stored _ _ _ q), e.2 ∙ ap (λ (l : Lent). l.numbers) (through_stored _ _ _ q))
