-- `domthelv::ends::domthelv_vrq_diameter_ends` meets its contract. Assumes nothing.
use native.Mathlib.Omega.{arith}
use Rattle.domthelv.proofs.Operations.{diameter_ends_1, diameter_ends_is, by_self, fits, list_delivered, refused_status, refused_stored}
use Rattle.domthelv.specs.Operations.{pair_written}
use borrow.Author.Tests.{eq-eqb, ne_eqb}
use mathlib.Core.Path.{◌∙◌}
use Rattle.domthelv.proofs.ends.domthelv_vrq_diameter_ends.Goals as goal

pub returns-then-out-ne2 : goal.returns-then-out-ne2
returns-then-out-ne2 c = let q = diameter_ends_1 _ _ _ _ _ _ _ (ne_eqb _ _ c.if-out-ne2.true) in (refused_status _ _ _ c.code.ensures q, refused_stored _ _ _ q)

pub deliver_list-requires : goal.deliver_list-requires
deliver_list-requires c = (omega arith, fits 2 pair_written _ _ _ c.map.ensures.cases (λ x e. c.if-out-ne2.false))

pub returns : goal.returns
returns c = list_delivered (λ x. x) pair_written 2 _ _ _ _ _ _ _ c.map.ensures.cases (λ x e. c.if-out-ne2.false) (by_self _ ∙ c.diameter_ends-worked.ensures) (diameter_ends_is _ _ _ _ _ _ _ (eq-eqb _ _ c.if-out-ne2.false)) c.deliver_list.ensures
