-- `slopes_calls::vrq_energies_slopes` meets its contract. Assumes nothing.
use Rattle.slopes_calls.proofs.Ways.{call_1, call_set, call_refused, call_held}
use Rattle.set_lists.proofs.Sets.{passed_lengths, passed, not_passed, set_is}
use Rattle.saftvrqmie_energies_slopes.specs.Energies.{energies_slopes_answer}
use Rattle.number.proofs.Walk.{via, handed_on}
use mathlib.Core.Path.{sym, ◌∙◌}
use borrow.Author.Tests.{eq-eqb, ne_eqb}
use Rattle.slopes_calls.proofs.vrq_energies_slopes.Goals as goal

pub returns-then-out-ne6 : goal.returns-then-out-ne6
returns-then-out-ne6 c = call_1 _ _ _ _ (ne_eqb _ _ c.if-out-ne6.true)

pub returns-in_err-quantum_answer : goal.returns-in_err-quantum_answer
returns-in_err-quantum_answer c = rw (handed_on _ c.from_residual.ensures) (call_set _ _ _ _ (eq-eqb _ _ c.if-out-ne6.false) _ (not_passed _ _ _ c.sloped_lengths-right.ensures _ c.quantum_answer.ensures c.in_err-quantum_answer.was))

pub quantum_set-set-requires : goal.quantum_set-set-requires
quantum_set-set-requires c = passed_lengths _ _ _ c.sloped_lengths-right.ensures _ c.quantum_answer.ensures c.in_ok-quantum_answer.was

pub returns-in_err-e : goal.returns-in_err-e
returns-in_err-e c = rw (handed_on _ c.from_residual-in_err-e.ensures) (call_refused _ _ _ _ (eq-eqb _ _ c.if-out-ne6.false) _ (set_is _ _ _ (passed _ _ _ c.sloped_lengths-right.ensures _ c.quantum_answer.ensures c.in_ok-quantum_answer.was) c.quantum_set-set.ensures) _ (via energies_slopes_answer c.energies_slopes.ensures c.in_err-e.was))

pub returns : goal.returns
returns c = call_held _ _ _ _ (eq-eqb _ _ c.if-out-ne6.false) _ (set_is _ _ _ (passed _ _ _ c.sloped_lengths-right.ensures _ c.quantum_answer.ensures c.in_ok-quantum_answer.was) c.quantum_set-set.ensures) _ _ (via energies_slopes_answer c.energies_slopes.ensures c.in_ok-e.was) (c.copy_from_slice.ensures.after ∙ sym (c.slopes_list.ensures _ c.if-out-ne6.false))
