-- `domthelv::quantum::lent_set` meets its contract. Assumes nothing.
use Rattle.set_lists.proofs.Sets.{lengths, passed_lengths, passed, not_passed, set_by}
use Rattle.number.proofs.Walk.{handed_on}
use Rattle.std.specs.Result.{is_ok}
use Rattle.domthelv.proofs.Operations.{handed}
use mathlib.Core.Bool.{false≢true}
use mathlib.Core.Path.{sym, ap, ◌∙◌}
use native.Mathlib.Omega.{arith}
use Rattle.set_lists.proofs.Copies.{taken_whole}
use Rattle.domthelv.proofs.quantum.lent_set.Goals as goal

pub returns-in_err-quantum_answer : goal.returns-in_err-quantum_answer
returns-in_err-quantum_answer c = rw (handed_on _ c.from_residual.ensures) (sym (not_passed _ _ _ c.right_lengths-right.ensures _ c.quantum_answer.ensures c.in_err-quantum_answer.was))

pub returns-in_err-sheets : goal.returns-in_err-sheets
returns-in_err-sheets c =
    let h = (lengths _ _ _ (passed_lengths _ _ _ c.right_lengths-right.ensures _ c.quantum_answer.ensures c.in_ok-quantum_answer.was)).flat in
    absurd (false≢true (sym (ap is_ok c.in_err-sheets.was) ∙ c.map_err.ensures.variant ∙ c.try_from.ensures.0 h))

pub places-requires : goal.places-requires
places-requires c = let h = (lengths _ _ _ (passed_lengths _ _ _ c.right_lengths-right.ensures _ c.quantum_answer.ensures c.in_ok-quantum_answer.was)).places in omega (arith, h)

pub order_records-requires : goal.order_records-requires
order_records-requires c = (lengths _ _ _ (passed_lengths _ _ _ c.right_lengths-right.ensures _ c.quantum_answer.ensures c.in_ok-quantum_answer.was)).records

pub returns : goal.returns
returns c = sym (set_by _ _ _ _ _ (passed _ _ _ c.right_lengths-right.ensures _ c.quantum_answer.ensures c.in_ok-quantum_answer.was) c.places.ensures ((handed _ _ _ _ _ c.map_err.ensures.variant c.map_err.ensures.cases c.try_from.ensures.1 c.in_ok-sheets.was).same ∙ taken_whole _ _ (lengths _ _ _ (passed_lengths _ _ _ c.right_lengths-right.ensures _ c.quantum_answer.ensures c.in_ok-quantum_answer.was)).flat) c.order_records.ensures)
