-- `domthelv::quantum::domthelv_vrq_total` meets its contract. Assumes nothing.
use native.Mathlib.Omega.{arith}
use Rattle.domthelv.proofs.Total.{total_1, total_is}
use Rattle.domthelv.proofs.Operations.{by_self, fits, list_delivered, refused_status, refused_stored}
use Rattle.domthelv.specs.Total.{total_written}
use borrow.Author.Tests.{eq-eqb, ne_eqb}
use mathlib.Core.Path.{◌∙◌}
use Rattle.domthelv.proofs.quantum.domthelv_vrq_total.Goals as goal

pub returns-then-out-ne4 : goal.returns-then-out-ne4
returns-then-out-ne4 c = let q = total_1 _ _ _ _ _ _ _ (ne_eqb _ _ c.if-out-ne4.true) in (refused_status _ _ _ c.code.ensures q, refused_stored _ _ _ q)

pub deliver_list-requires : goal.deliver_list-requires
deliver_list-requires c = (omega arith, fits 4 total_written _ _ _ c.map.ensures.cases (λ x e. c.if-out-ne4.false))

pub returns : goal.returns
returns c = list_delivered (λ x. x) total_written 4 _ _ _ _ _ _ _ c.map.ensures.cases (λ x e. c.if-out-ne4.false) (by_self _ ∙ c.total.ensures) (total_is _ _ _ _ _ _ _ (eq-eqb _ _ c.if-out-ne4.false)) c.deliver_list.ensures
