-- `domthelv::ends::domthelv_vr_dispersion_ends` meets its contract. Assumes nothing.
use native.Mathlib.Omega.{arith}
use Rattle.elementary.specs.Port.{port}
use Rattle.saftvrmie_energies_ends.specs.Operation.{dispersion_ends}
use Rattle.domthelv.proofs.Operations.{mie_dispersion_ends_1, mie_dispersion_ends_is, worked_is, fits, list_delivered, refused_status, refused_stored}
use Rattle.domthelv.specs.Operations.{pair_written}
use borrow.Author.Rules.{rules}
use borrow.Author.Tests.{eq-eqb, ne_eqb}
use Rattle.domthelv.proofs.ends.domthelv_vr_dispersion_ends.Goals as goal

pub returns-then-out-ne2 : goal.returns-then-out-ne2
returns-then-out-ne2 c = let q = mie_dispersion_ends_1 _ _ _ _ _ _ _ (ne_eqb _ _ c.if-out-ne2.true) in (refused_status _ _ _ c.code.ensures q, refused_stored _ _ _ q)

pub deliver_list-requires : goal.deliver_list-requires
deliver_list-requires c = (omega arith, fits 2 pair_written _ _ _ c.map.ensures.cases (λ x e. c.if-out-ne2.false))

pub returns : goal.returns
returns c =
    let worked = worked_is (λ x. x) _ _ (λ p. dispersion_ends port p c.args.temperature c.args.fractions.now c.args.densities.now c.args.diameters.now c.args.chain) _ c.of_set-worked.ensures (λ s w. search rules) in
    list_delivered (λ x. x) pair_written 2 _ _ _ _ _ _ _ c.map.ensures.cases (λ x e. c.if-out-ne2.false) worked (mie_dispersion_ends_is _ _ _ _ _ _ _ (eq-eqb _ _ c.if-out-ne2.false)) c.deliver_list.ensures
