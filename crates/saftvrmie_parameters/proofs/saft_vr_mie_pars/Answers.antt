-- `saftvrmie_parameters::saft_vr_mie_pars` meets its contract. Assumes nothing.
use Rattle.mie_parameters.specs.Sheets.{sheets_of}
use Rattle.saftvrmie_parameters.proofs.Laws.{lengths, fitting, refuses_1, refuses_2, refuses_6, holds}
use Rattle.mie_parameters.proofs.Laws.{held_at, refused_at}
use Rattle.number.proofs.Walk.{told, handed_on}
use Rattle.saftvrmie_parameters.proofs.saft_vr_mie_pars.Goals as goal

pub returns-then-not-right_lengths : goal.returns-then-not-right_lengths
returns-then-not-right_lengths c = rw (refuses_1 _ (told c.right_lengths.ensures c.if-not-right_lengths.true))

pub within_limits-requires : goal.within_limits-requires
within_limits-requires c = let p = told c.right_lengths.ensures c.if-not-right_lengths.false in ((lengths _ p).m, fitting _ p)

pub returns-then-not-within_limits : goal.returns-then-not-within_limits
returns-then-not-within_limits c = rw (refuses_2 _ (told c.right_lengths.ensures c.if-not-right_lengths.false) (told c.within_limits.ensures c.if-not-within_limits.true))

pub fill_sheets-requires : goal.fill_sheets-requires
fill_sheets-requires c = let p = told c.right_lengths.ensures c.if-not-right_lengths.false in ((lengths _ p).high, fitting _ p)

pub returns-in_err-fill_sheets : goal.returns-in_err-fill_sheets
unfolding sheets_of
returns-in_err-fill_sheets c = rw (handed_on _ c.from_residual.ensures, refuses_6 _ _ (told c.right_lengths.ensures c.if-not-right_lengths.false) (told c.within_limits.ensures c.if-not-within_limits.false) (refused_at _ _ _ _ c.fill_sheets.ensures c.in_err-fill_sheets.was))

pub in_places-m-requires : goal.in_places-m-requires
in_places-m-requires c = let h = lengths _ (told c.right_lengths.ensures c.if-not-right_lengths.false) in (h.high, h.m)

pub in_places-sigma-requires : goal.in_places-sigma-requires
in_places-sigma-requires c = let h = lengths _ (told c.right_lengths.ensures c.if-not-right_lengths.false) in (h.high, h.sigma)

pub in_places-epsilon_k-requires : goal.in_places-epsilon_k-requires
in_places-epsilon_k-requires c = let h = lengths _ (told c.right_lengths.ensures c.if-not-right_lengths.false) in (h.high, h.epsilon_k)

pub in_places-lr-requires : goal.in_places-lr-requires
in_places-lr-requires c = let h = lengths _ (told c.right_lengths.ensures c.if-not-right_lengths.false) in (h.high, h.lr)

pub in_places-la-requires : goal.in_places-la-requires
in_places-la-requires c = let h = lengths _ (told c.right_lengths.ensures c.if-not-right_lengths.false) in (h.high, h.la)

pub returns : goal.returns
unfolding sheets_of
returns c = holds _ _ _ _ _ _ _ (told c.right_lengths.ensures c.if-not-right_lengths.false) (told c.within_limits.ensures c.if-not-within_limits.false) (held_at _ _ _ c.fill_sheets.ensures c.in_ok-fill_sheets.was) c.in_places-m.ensures c.in_places-sigma.ensures c.in_places-epsilon_k.ensures c.in_places-lr.ensures c.in_places-la.ensures
