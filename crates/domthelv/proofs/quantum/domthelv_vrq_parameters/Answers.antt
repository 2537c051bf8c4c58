use Rattle.set_lists.specs.Written.{QuantumLent}
use Rattle.number.specs.Answer.{answer}
use Rattle.domthelv.proofs.Operations.{parameters_1, parameters_refused, parameters_held, refused_status, refused_stored, held_status, held_stored}
use Rattle.number.proofs.Walk.{told, via}
use mathlib.Core.Path.{ap, ◌∙◌}
use Rattle.domthelv.proofs.quantum.domthelv_vrq_parameters.Goals as goal

-- src/quantum.rt:99:9
pub returns-then-not-quantum_lengths : goal.returns-then-not-quantum_lengths
returns-then-not-quantum_lengths c = let q = parameters_1 _ _ (told c.quantum_lengths.ensures c.if-not-quantum_lengths.true) in (refused_status _ _ _ c.code.ensures q, ap (λ (l : QuantumLent). l.m) (refused_stored _ _ _ q), ap (λ (l : QuantumLent). l.sheets) (refused_stored _ _ _ q), ap (λ (l : QuantumLent). l.orders) (refused_stored _ _ _ q))

-- src/quantum.rt:115:9
pub returns-in-Err : goal.returns-in-Err
returns-in-Err c = let q = (parameters_refused _ _ _ (told c.quantum_lengths.ensures c.if-not-quantum_lengths.false) (via answer c.saft_vrq_mie_pars.ensures c.in-Err.is)) in (refused_status _ _ _ c.code-in-Err.ensures q, ap (λ (l : QuantumLent). l.m) (refused_stored _ _ _ q), ap (λ (l : QuantumLent). l.sheets) (refused_stored _ _ _ q), ap (λ (l : QuantumLent). l.orders) (refused_stored _ _ _ q))

-- src/quantum.rt:118:5
pub write_quantum-requires : goal.write_quantum-requires
write_quantum-requires c = (told c.quantum_lengths.ensures c.if-not-quantum_lengths.false)

-- src/quantum.rt:64:1
pub returns-in-Ok : goal.returns-in-Ok
returns-in-Ok c = let q = (parameters_held _ _ _ (told c.quantum_lengths.ensures c.if-not-quantum_lengths.false) (via answer c.saft_vrq_mie_pars.ensures c.in-Ok.is)) in (held_status _ _ q, c.write_quantum.ensures.0 ∙ ap (λ (l : QuantumLent). l.m) (held_stored _ _ _ q), c.write_quantum.ensures.1 ∙ ap (λ (l : QuantumLent). l.sheets) (held_stored _ _ _ q), c.write_quantum.ensures.2 ∙ ap (λ (l : QuantumLent). l.orders) (held_stored _ _ _ q))
