-- `domthelv::quantum::pair_set` meets its contract. Assumes nothing.
use Rattle.set_lists.proofs.Sets.{passed_lengths, passed, not_passed, set_is}
use Rattle.number.proofs.Walk.{handed_on}
use mathlib.Core.Path.{sym}
use Rattle.domthelv.proofs.quantum.pair_set.Goals as goal

pub returns-in_err-quantum_answer : goal.returns-in_err-quantum_answer
returns-in_err-quantum_answer c = rw (handed_on _ c.from_residual.ensures) (sym (not_passed _ _ _ c.index_within-right.ensures _ c.quantum_answer.ensures c.in_err-quantum_answer.was))

pub quantum_set-requires : goal.quantum_set-requires
quantum_set-requires c = passed_lengths _ _ _ c.index_within-right.ensures _ c.quantum_answer.ensures c.in_ok-quantum_answer.was

pub returns : goal.returns
returns c = sym (set_is _ _ _ (passed _ _ _ c.index_within-right.ensures _ c.quantum_answer.ensures c.in_ok-quantum_answer.was) c.quantum_set.ensures)
