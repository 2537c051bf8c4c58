-- `domthelv::ends::domthelv_vrq_energies_ends` meets its contract. Assumes nothing.
use native.Mathlib.Omega.{arith}
use Rattle.domthelv.proofs.Operations.{energies_ends_1, energies_ends_is, fits, list_delivered, refused_status, refused_stored}
use Rattle.domthelv.specs.Operations.{ends_written}
use Rattle.saftvrqmie_energies.specs.Energies.{energies_in}
use borrow.Author.Tests.{eq-eqb, ne_eqb}
use Rattle.domthelv.proofs.ends.domthelv_vrq_energies_ends.Goals as goal

pub returns-then-out-ne6 : goal.returns-then-out-ne6
returns-then-out-ne6 c = let q = energies_ends_1 _ _ _ _ _ _ _ (ne_eqb _ _ c.if-out-ne6.true) in (refused_status _ _ _ c.code.ensures q, refused_stored _ _ _ q)

pub deliver_list-requires : goal.deliver_list-requires
deliver_list-requires c = (omega arith, fits 6 (λ x. ends_written (energies_in x)) _ _ _ c.map.ensures.cases (λ x e. c.if-out-ne6.false))

pub returns : goal.returns
returns c = list_delivered energies_in ends_written 6 _ _ _ _ _ _ _ c.map.ensures.cases (λ x e. c.if-out-ne6.false) c.energies_ends.ensures (energies_ends_is _ _ _ _ _ _ _ (eq-eqb _ _ c.if-out-ne6.false)) c.deliver_list.ensures
