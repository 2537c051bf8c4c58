-- `saftvrqmie_parameters::right_lengths` meets its contract. Assumes nothing.
use Rattle.saftvrqmie_parameters.specs.Parameters.{right_lengths}
use Rattle.mie_parameters.proofs.Laws.{count_square}
use native.Mathlib.Omega.{arith}
use Rattle.number.proofs.Walk.{told}
use Rattle.saftvrqmie_parameters.proofs.right_lengths.Goals as goal

pub returns-then-not-count_within : goal.returns-then-not-count_within
unfolding right_lengths
returns-then-not-count_within c = rw (told c.count_within.ensures c.if-not-count_within.true)

pub overflow_mul-square : goal.overflow_mul-square
overflow_mul-square c = omega (arith, count_square c.args.l.now.count (told c.count_within.ensures c.if-not-count_within.false))

pub returns : goal.returns
unfolding right_lengths
returns c = rw (told c.count_within.ensures c.if-not-count_within.false)
