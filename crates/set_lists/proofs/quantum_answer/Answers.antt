-- `set_lists::quantum_answer` meets its contract. Assumes nothing.
use Rattle.number.proofs.Walk.{told}
use Rattle.set_lists.proofs.Sets.{lengths, count_small, count_1, lengths_1, right_1, orders_4, holds}
use Rattle.set_lists.proofs.quantum_answer.Goals as goal

pub returns-then-not-count_within : goal.returns-then-not-count_within
returns-then-not-count_within c = count_1 _ _ (told c.count_within.ensures c.if-not-count_within.true)

pub returns-then-not-quantum_lengths : goal.returns-then-not-quantum_lengths
returns-then-not-quantum_lengths c = lengths_1 _ _ (told c.count_within.ensures c.if-not-count_within.false) (told c.quantum_lengths.ensures c.if-not-quantum_lengths.true)

pub returns-then-not-right : goal.returns-then-not-right
returns-then-not-right c = right_1 _ _ (told c.count_within.ensures c.if-not-count_within.false) (told c.quantum_lengths.ensures c.if-not-quantum_lengths.false) c.if-not-right.true

pub orders_within-requires : goal.orders_within-requires
orders_within-requires c = (count_small _ (told c.count_within.ensures c.if-not-count_within.false), (lengths _ _ _ (told c.quantum_lengths.ensures c.if-not-quantum_lengths.false)).records)

pub returns-then-not-orders_within : goal.returns-then-not-orders_within
returns-then-not-orders_within c = orders_4 _ _ (told c.count_within.ensures c.if-not-count_within.false) (told c.quantum_lengths.ensures c.if-not-quantum_lengths.false) c.if-not-right.false (told c.orders_within.ensures c.if-not-orders_within.true)

pub returns : goal.returns
returns c = holds _ _ (told c.count_within.ensures c.if-not-count_within.false) (told c.quantum_lengths.ensures c.if-not-quantum_lengths.false) c.if-not-right.false (told c.orders_within.ensures c.if-not-orders_within.false)
