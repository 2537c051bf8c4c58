-- `saftvrqmie_parameters::record_m` meets its contract. Assumes nothing.
use Rattle.saftvrqmie_parameters.specs.Parameters.{record_m}
use lib.Ieee.{of_bits}
use Rattle.number.specs.Ans.{demand}
use Rattle.number.specs.Arith.{decimal}
use Rattle.saftvrqmie_parameters.proofs.record_m.Goals as goal

pub returns-then-m : goal.returns-then-m
unfolding record_m demand decimal of_bits
returns-then-m c = rw c.if-m.true

pub returns-else-m : goal.returns-else-m
unfolding record_m demand decimal of_bits
returns-else-m c = rw c.if-m.false
