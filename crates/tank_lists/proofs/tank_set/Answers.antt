-- `tank_lists::tank_set` meets its contract. Assumes nothing.
use mathlib.Core.Path.{ap}
use mathlib.Core.Bool.{Bool, ◌&&◌}
use Rattle.number.proofs.Walk.{told, handed_on}
use Rattle.set_lists.proofs.Sets.{passed_lengths, passed, not_passed, set_is}
use Rattle.saftvrqmie_tank.proofs.Ways.{layers_high}
use Rattle.tank_lists.proofs.Ways as Ways
use Rattle.tank_lists.proofs.tank_set.Goals as goal

pub returns-then-not-layers_within : goal.returns-then-not-layers_within
returns-then-not-layers_within c = Ways.set_14 _ _ _ (told c.layers_within.ensures c.if-not-layers_within.true)

pub tank_lengths-lengths-requires : goal.tank_lengths-lengths-requires
tank_lengths-lengths-requires c = layers_high _ (told c.layers_within.ensures c.if-not-layers_within.false)

pub returns-in_err-quantum_answer : goal.returns-in_err-quantum_answer
returns-in_err-quantum_answer c = rw (handed_on _ c.from_residual.ensures) (Ways.set_is _ _ _ (told c.layers_within.ensures c.if-not-layers_within.false) _ (not_passed _ _ _ (ap (λ (b : Bool). c.args.right && b) c.tank_lengths-lengths.ensures) _ c.quantum_answer.ensures c.in_err-quantum_answer.was))

pub quantum_set-requires : goal.quantum_set-requires
quantum_set-requires c = passed_lengths _ _ _ (ap (λ (b : Bool). c.args.right && b) c.tank_lengths-lengths.ensures) _ c.quantum_answer.ensures c.in_ok-quantum_answer.was

pub returns : goal.returns
returns c = Ways.set_is _ _ _ (told c.layers_within.ensures c.if-not-layers_within.false) _ (set_is _ _ _ (passed _ _ _ (ap (λ (b : Bool). c.args.right && b) c.tank_lengths-lengths.ensures) _ c.quantum_answer.ensures c.in_ok-quantum_answer.was) c.quantum_set.ensures)
