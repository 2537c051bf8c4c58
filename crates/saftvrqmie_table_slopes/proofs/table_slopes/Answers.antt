-- `saftvrqmie_table_slopes::table_slopes` meets its contract. Assumes nothing.
use Rattle.number.proofs.Walk.{handed_on}
use borrow.Author.Rules.{rules}
use Rattle.dual.specs.Value.{dual_of}
use Rattle.saftvrqmie_table_slopes.specs.Table.{slopes_turn, slopes_row, slopes_pairs}
use Rattle.saftvrqmie_table_slopes.proofs.Laws.{finite_is, table_6, table_7, table_is}
use Rattle.mie_parameters.proofs.Laws.{held_at, refused_at}
use Rattle.saftvrqmie_table_slopes.proofs.table_slopes.Goals as goal

pub returns-in_err-work_pairs : goal.returns-in_err-work_pairs
unfolding slopes_pairs slopes_row slopes_turn dual_of
returns-in_err-work_pairs c = rw (handed_on _ c.from_residual.ensures) (table_6 _ _ _ _ _ _ (refused_at _ _ _ _ c.work_pairs.ensures c.in_err-work_pairs.was))

pub returns-then-not-all_finite : goal.returns-then-not-all_finite
unfolding slopes_pairs slopes_row slopes_turn dual_of
returns-then-not-all_finite c =
    table_7 _ _ _ _ _ _ (held_at _ _ _ c.work_pairs.ensures c.in_ok-work_pairs.was)
    (finite_is _ _ _ _ (c.all_finite.ensures (search rules)) (c.all_finite-2.ensures (search rules)) c.if-not-all_finite.true)

pub returns : goal.returns
unfolding slopes_pairs slopes_row slopes_turn dual_of
returns c =
    table_is _ _ _ _ _ _ (held_at _ _ _ c.work_pairs.ensures c.in_ok-work_pairs.was)
    (finite_is _ _ _ _ (c.all_finite.ensures (search rules)) (c.all_finite-2.ensures (search rules)) c.if-not-all_finite.false)
