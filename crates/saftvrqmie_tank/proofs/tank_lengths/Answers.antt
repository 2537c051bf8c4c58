-- `saftvrqmie_tank::tank_lengths` meets its contract. Assumes nothing.
use Rattle.saftvrqmie_tank.specs.Tank.{tank_lengths}
use Rattle.number.proofs.Walk.{told}
use native.Mathlib.Omega.{arith}
use Rattle.saftvrqmie_tank.proofs.Ways.{product_small}
use Rattle.mie_parameters.proofs.Laws.{count_high}
use Rattle.saftvrqmie_tank.proofs.tank_lengths.Goals as goal

pub returns-then-not-count_within : goal.returns-then-not-count_within
unfolding tank_lengths
returns-then-not-count_within c = rw (told c.count_within.ensures c.if-not-count_within.true)

pub overflow_mul-places : goal.overflow_mul-places
overflow_mul-places c = omega (arith, product_small c.args.n c.args.q.now.layers (count_high _ (told c.count_within.ensures c.if-not-count_within.false)) c.requires)

pub returns : goal.returns
unfolding tank_lengths
returns c = rw (told c.count_within.ensures c.if-not-count_within.false)
