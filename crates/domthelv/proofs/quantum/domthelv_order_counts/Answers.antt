-- `domthelv::quantum::domthelv_order_counts` meets its contract. Assumes nothing.
use native.Mathlib.Omega.{arith}
use Rattle.domthelv.proofs.Operations.{counts_1, counts_is, by_self, fits, list_delivered, refused_status, refused_stored}
use Rattle.domthelv.specs.Operations.{counts_written}
use borrow.Author.Tests.{eq-eqb, ne_eqb}
use mathlib.Core.Path.{◌∙◌}
use Rattle.domthelv.proofs.quantum.domthelv_order_counts.Goals as goal

pub returns-then-out-ne3 : goal.returns-then-out-ne3
returns-then-out-ne3 c = let q = counts_1 _ _ (ne_eqb _ _ c.if-out-ne3.true) in (refused_status _ _ _ c.code.ensures q, refused_stored _ _ _ q)

pub deliver_list-requires : goal.deliver_list-requires
deliver_list-requires c = (omega arith, fits 3 counts_written _ _ _ c.map.ensures.cases (λ x e. c.if-out-ne3.false))

pub returns : goal.returns
returns c = list_delivered (λ x. x) counts_written 3 _ _ _ _ _ _ _ c.map.ensures.cases (λ x e. c.if-out-ne3.false) (by_self _ ∙ c.order_counts-counted.ensures) (counts_is _ _ (eq-eqb _ _ c.if-out-ne3.false)) c.deliver_list.ensures
