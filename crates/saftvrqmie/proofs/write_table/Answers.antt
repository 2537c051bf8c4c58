-- `saftvrqmie::write_table` meets its contract. Assumes nothing.
use Rattle.saftvrqmie.proofs.Laws.{all_four}
use Rattle.saftvrqmie.proofs.write_table.Goals as goal

pub returns : goal.returns
returns c = rw (c.write_sheet-4.ensures, c.write_sheet-3.ensures, c.write_sheet-2.ensures, c.write_sheet.ensures) (all_four c.args.values.now c.args.table.now c.told-values c.requires)
