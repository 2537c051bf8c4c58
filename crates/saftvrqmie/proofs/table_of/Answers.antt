-- `saftvrqmie::table_of` meets its contract. Assumes nothing.
use Rattle.saftvrqmie.specs.Table.{work_turn, work_row, work_pairs}
use Rattle.saftvrqmie.proofs.Laws.{lengths, pairs_whole, refuses_1, refuses_2, refuses_6, refuses_7, holds, refused_done, held_done}
use Rattle.number.proofs.Walk.{told, handed_on}
use Rattle.mie_parameters.proofs.Laws.{held_at, refused_at}
use Rattle.saftvrqmie.proofs.table_of.Goals as goal

pub returns-then-not-right_lists : goal.returns-then-not-right_lists
returns-then-not-right_lists c = refused_done _ _ _ (refuses_1 _ _ _ (told c.right_lists.ensures c.if-not-right_lists.true))

pub returns-then-not-temperature_within : goal.returns-then-not-temperature_within
returns-then-not-temperature_within c = refused_done _ _ _ (refuses_2 _ _ _ (told c.right_lists.ensures c.if-not-right_lists.false) (told c.temperature_within.ensures c.if-not-temperature_within.true))

pub work_pairs-requires : goal.work_pairs-requires
work_pairs-requires c = (lengths _ _ _ (told c.right_lists.ensures c.if-not-right_lists.false)).high

pub returns-in_err-work_pairs : goal.returns-in_err-work_pairs
unfolding work_pairs work_row work_turn
returns-in_err-work_pairs c = rw (handed_on _ c.from_residual.ensures) (refused_done _ _ _ (refuses_6 _ _ _ (told c.right_lists.ensures c.if-not-right_lists.false) (told c.temperature_within.ensures c.if-not-temperature_within.false) _ (refused_at _ _ _ _ c.work_pairs.ensures c.in_err-work_pairs.was)))

pub returns-then-not-all_finite : goal.returns-then-not-all_finite
unfolding work_pairs work_row work_turn
returns-then-not-all_finite c = refused_done _ _ _ (refuses_7 _ _ _ (told c.right_lists.ensures c.if-not-right_lists.false) (told c.temperature_within.ensures c.if-not-temperature_within.false) _ (held_at _ _ _ c.work_pairs.ensures c.in_ok-work_pairs.was) (told (c.all_finite.ensures (pairs_whole _ _ _ _ _ (held_at _ _ _ c.work_pairs.ensures c.in_ok-work_pairs.was)).0) c.if-not-all_finite.true))

pub write_table-requires : goal.write_table-requires
write_table-requires c = (lengths _ _ _ (told c.right_lists.ensures c.if-not-right_lists.false)).first

pub write_numbers-requires : goal.write_numbers-requires
write_numbers-requires c = (lengths _ _ _ (told c.right_lists.ensures c.if-not-right_lists.false)).second

pub returns : goal.returns
unfolding work_pairs work_row work_turn
returns c = held_done _ _ _ _ _ (holds _ _ _ (told c.right_lists.ensures c.if-not-right_lists.false) (told c.temperature_within.ensures c.if-not-temperature_within.false) _ (held_at _ _ _ c.work_pairs.ensures c.in_ok-work_pairs.was) (told (c.all_finite.ensures (pairs_whole _ _ _ _ _ (held_at _ _ _ c.work_pairs.ensures c.in_ok-work_pairs.was)).0) c.if-not-all_finite.false)) c.write_table.ensures c.write_numbers.ensures
