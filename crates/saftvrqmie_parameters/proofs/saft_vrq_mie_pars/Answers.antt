-- `saftvrqmie_parameters::saft_vrq_mie_pars` meets its contract. Assumes nothing.
use Rattle.std.proofs.Common.{sym}
use Rattle.mie_parameters.specs.Sheets.{sheets_of}
use Rattle.saftvrqmie_parameters.proofs.Laws.{lengths, fitting, refuses_1, refuses_2, refuses_3, refuses_4_5, refuses_6, holds}
use Rattle.mie_parameters.proofs.Laws.{held_at, refused_at}
use Rattle.number.proofs.Walk.{told, handed_on}
use Rattle.saftvrqmie_parameters.proofs.saft_vrq_mie_pars.Goals as goal

pub returns-then-not-right_lengths : goal.returns-then-not-right_lengths
returns-then-not-right_lengths c = sym (refuses_1 _ (told c.right_lengths.ensures c.if-not-right_lengths.true))

pub within_limits-requires : goal.within_limits-requires
within_limits-requires c = fitting _ (told c.right_lengths.ensures c.if-not-right_lengths.false)

pub returns-then-not-within_limits : goal.returns-then-not-within_limits
returns-then-not-within_limits c = sym (refuses_2 _ (told c.right_lengths.ensures c.if-not-right_lengths.false) (told c.within_limits.ensures c.if-not-within_limits.true))

pub returns-then-not-all_one : goal.returns-then-not-all_one
returns-then-not-all_one c = let h = lengths _ (told c.right_lengths.ensures c.if-not-right_lengths.false) in sym (refuses_3 _ (told c.right_lengths.ensures c.if-not-right_lengths.false) (told c.within_limits.ensures c.if-not-within_limits.false) (told (rw h.m at c.all_one.ensures) c.if-not-all_one.true))

pub returns-in_err-order_walk : goal.returns-in_err-order_walk
returns-in_err-order_walk c = let h = lengths _ (told c.right_lengths.ensures c.if-not-right_lengths.false) in rw (handed_on _ c.from_residual.ensures, refuses_4_5 _ _ (told c.right_lengths.ensures c.if-not-right_lengths.false) (told c.within_limits.ensures c.if-not-within_limits.false) (told (rw h.m at c.all_one.ensures) c.if-not-all_one.false) (refused_at _ _ _ _ (rw h.fh at c.order_walk.ensures) c.in_err-order_walk.was))

pub fill_sheets-requires : goal.fill_sheets-requires
fill_sheets-requires c = let p = told c.right_lengths.ensures c.if-not-right_lengths.false in ((lengths _ p).high, fitting _ p)

pub returns-in_err-fill_sheets : goal.returns-in_err-fill_sheets
unfolding sheets_of
returns-in_err-fill_sheets c = let h = lengths _ (told c.right_lengths.ensures c.if-not-right_lengths.false) in rw (handed_on _ c.from_residual-in_err-fill_sheets.ensures, refuses_6 _ _ (told c.right_lengths.ensures c.if-not-right_lengths.false) (told c.within_limits.ensures c.if-not-within_limits.false) (told (rw h.m at c.all_one.ensures) c.if-not-all_one.false) (held_at _ _ _ (rw h.fh at c.order_walk.ensures) c.in_ok-order_walk.was) (refused_at _ _ _ _ c.fill_sheets.ensures c.in_err-fill_sheets.was))

pub in_places-m-requires : goal.in_places-m-requires
in_places-m-requires c = let h = lengths _ (told c.right_lengths.ensures c.if-not-right_lengths.false) in (h.high, h.m)

pub orders_of-orders-requires : goal.orders_of-orders-requires
orders_of-orders-requires c = let h = lengths _ (told c.right_lengths.ensures c.if-not-right_lengths.false) in rw h.fh h.high

pub returns : goal.returns
unfolding sheets_of
returns c = let h = lengths _ (told c.right_lengths.ensures c.if-not-right_lengths.false) in holds _ _ _ _ (told c.right_lengths.ensures c.if-not-right_lengths.false) (told c.within_limits.ensures c.if-not-within_limits.false) (told (rw h.m at c.all_one.ensures) c.if-not-all_one.false) (held_at _ _ _ (rw h.fh at c.order_walk.ensures) c.in_ok-order_walk.was) (held_at _ _ _ c.fill_sheets.ensures c.in_ok-fill_sheets.was) c.in_places-m.ensures (rw h.fh at c.orders_of-orders.ensures)
