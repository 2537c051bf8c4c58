-- `saftvrqmie_parameters::pair_orders` meets its contract. Assumes nothing.
use Rattle.saftvrqmie_parameters.proofs.Laws.{above, one_two, allowed}
use native.Mathlib.Omega.{arith}
use Rattle.saftvrqmie_parameters.proofs.pair_orders.Goals as goal

pub returns-then-a-gt2 : goal.returns-then-a-gt2
returns-then-a-gt2 c = above _ _ (omega arith)

pub returns-then-b-gt2 : goal.returns-then-b-gt2
returns-then-b-gt2 c = above _ _ (omega arith)

pub returns-then-a-b-eq2 : goal.returns-then-a-b-eq2
returns-then-a-b-eq2 c = one_two _ _ c.if-a-gt2.false c.if-b-gt2.false c.if-a-b-eq2.true

pub returns : goal.returns
returns c = allowed _ _ c.if-a-gt2.false c.if-b-gt2.false c.if-a-b-eq2.false
