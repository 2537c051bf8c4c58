-- `order_counts::order_counts` meets its contract. Assumes nothing.
use native.Mathlib.Omega.{arith}
use Rattle.number.proofs.Walk.{told}
use Rattle.mie_parameters.proofs.Laws.{count_low, count_high}
use Rattle.order_counts.proofs.Laws.{fits, fit, refuses_1, counts_held}
use Rattle.order_counts.proofs.order_counts.Goals as goal

pub returns-then-not-count_within : goal.returns-then-not-count_within
returns-then-not-count_within c = refuses_1 _ (told c.count_within.ensures c.if-not-count_within.true)

pub overflow_sub-rest : goal.overflow_sub-rest
overflow_sub-rest c = count_low _ (told c.count_within.ensures c.if-not-count_within.false)

pub overflow_cast-rest : goal.overflow_cast-rest
overflow_cast-rest c = let h = count_high _ (told c.count_within.ensures c.if-not-count_within.false) in omega (arith, h)

pub pow-two-requires : goal.pow-two-requires
pow-two-requires c = let h = count_high _ (told c.count_within.ensures c.if-not-count_within.false) in fits _ _ (omega arith) (omega (arith, h))

pub pow-three-requires : goal.pow-three-requires
pow-three-requires c = let h = count_high _ (told c.count_within.ensures c.if-not-count_within.false) in fits _ _ (omega arith) (omega (arith, h))

pub pow-four-requires : goal.pow-four-requires
pow-four-requires c = let h = count_high _ (told c.count_within.ensures c.if-not-count_within.false) in fits _ _ (omega arith) (omega (arith, h))

pub of_powers-requires : goal.of_powers-requires
of_powers-requires c = let h = count_high _ (told c.count_within.ensures c.if-not-count_within.false) in fit _ _ _ _ (omega (arith, h)) c.pow-two.ensures c.pow-three.ensures c.pow-four.ensures

pub returns : goal.returns
returns c = rw c.of_powers.ensures (counts_held _ _ _ _ (told c.count_within.ensures c.if-not-count_within.false) c.pow-two.ensures c.pow-three.ensures c.pow-four.ensures)
