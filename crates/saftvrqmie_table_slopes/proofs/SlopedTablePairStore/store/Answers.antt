-- `saftvrqmie_table_slopes::SlopedTablePairStore::store` meets its contract. Assumes nothing.
use mathlib.Core.Path.{refl}
use Rattle.dual.specs.Value.{dual_of}
use Rattle.saftvrqmie.specs.Table.{store}
use Rattle.saftvrqmie_table_slopes.specs.Table.{store_slopes}
use Rattle.saftvrqmie_table_slopes.proofs.SlopedTablePairStore.store.Goals as goal

pub returns : goal.returns
unfolding store_slopes store dual_of
returns c = refl
