-- `domthelv::quantum::domthelv_vrq_stage` meets its contract. Assumes nothing.
use native.Mathlib.Omega.{arith}
use Rattle.domthelv.proofs.Operations.{stage_1, stage_is, fits, list_delivered, refused_status, refused_stored}
use Rattle.domthelv.specs.Operations.{energies_written}
use Rattle.saftvrqmie_energies.specs.Energies.{energies_in}
use borrow.Author.Tests.{eq-eqb, ne_eqb}
use Rattle.domthelv.proofs.quantum.domthelv_vrq_stage.Goals as goal

pub returns-then-out-ne3 : goal.returns-then-out-ne3
returns-then-out-ne3 c = let q = stage_1 _ _ _ _ _ _ (ne_eqb _ _ c.if-out-ne3.true) in (refused_status _ _ _ c.code.ensures q, refused_stored _ _ _ q)

pub deliver_list-requires : goal.deliver_list-requires
deliver_list-requires c = (omega arith, fits 3 (λ x. energies_written (energies_in x)) _ _ _ c.map.ensures.cases (λ x e. c.if-out-ne3.false))

pub returns : goal.returns
returns c = list_delivered energies_in energies_written 3 _ _ _ _ _ _ _ c.map.ensures.cases (λ x e. c.if-out-ne3.false) c.quantum_stage-worked.ensures (stage_is _ _ _ _ _ _ (eq-eqb _ _ c.if-out-ne3.false)) c.deliver_list.ensures
