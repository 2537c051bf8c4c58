-- `saftvrqmie::temperature_dependent_properties` meets its contract. Assumes nothing.
use Rattle.saftvrqmie.specs.Table.{temperature_table}
use Rattle.saftvrqmie.proofs.temperature_dependent_properties.Goals as goal

pub returns : goal.returns
unfolding temperature_table
returns c = c.table_of.ensures
