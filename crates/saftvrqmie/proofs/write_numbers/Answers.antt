-- `saftvrqmie::write_numbers` meets its contract. Assumes nothing.
use Rattle.saftvrqmie.proofs.Laws.{all_three}
use Rattle.saftvrqmie.proofs.write_numbers.Goals as goal

pub returns : goal.returns
returns c = rw (c.write_sheet-3.ensures, c.write_sheet-2.ensures, c.write_sheet.ensures) (all_three c.args.numbers.now c.args.counts.now c.told-numbers c.requires)
