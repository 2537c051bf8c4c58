-- `desk::door` meets its contract. Assumes nothing.
use Rattle.desk.proofs.Ways.{door_refuses, door_2, door_holds}
use Rattle.number.proofs.Walk.{told, handed_on}
use Rattle.set_lists.proofs.Sets.{passed_right}
use Rattle.desk.proofs.Held.{state_lengths_told}
use Rattle.desk.specs.Desk.{query_of}
use Rattle.desk.proofs.door.Goals as goal

pub returns-in_err-quantum_answer : goal.returns-in_err-quantum_answer
returns-in_err-quantum_answer c = rw (handed_on _ c.from_residual.ensures) (door_refuses (query_of c.args.q.now) _ c.right_state-right.ensures _ c.quantum_answer.ensures c.in_err-quantum_answer.was)

pub state_within-requires : goal.state_within-requires
state_within-requires c = state_lengths_told _ _ _ (passed_right _ _ _ c.right_state-right.ensures _ c.quantum_answer.ensures c.in_ok-quantum_answer.was)

pub returns-then-not-state_within : goal.returns-then-not-state_within
returns-then-not-state_within c = door_2 (query_of c.args.q.now) _ c.right_state-right.ensures _ c.quantum_answer.ensures c.in_ok-quantum_answer.was (told c.state_within.ensures c.if-not-state_within.true)

pub returns : goal.returns
returns c = door_holds (query_of c.args.q.now) _ c.right_state-right.ensures _ c.quantum_answer.ensures c.in_ok-quantum_answer.was (told c.state_within.ensures c.if-not-state_within.false)
