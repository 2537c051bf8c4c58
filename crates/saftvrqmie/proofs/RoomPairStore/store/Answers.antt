-- `saftvrqmie::RoomPairStore::store` meets its contract. Assumes nothing.
use mathlib.Core.Path.{refl}
use Rattle.saftvrqmie.specs.Table.{store}
use Rattle.saftvrqmie.proofs.RoomPairStore.store.Goals as goal

pub returns : goal.returns
unfolding store
returns c = refl
