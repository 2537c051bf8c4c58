-- `saftvrqmie_alone_ends::plain` meets its contract. Assumes nothing.
use mathlib.Core.Path.{refl}
use Rattle.saftvrqmie_alone_ends.specs.Alone.{plain_of}
use Rattle.saftvrqmie_alone_ends.proofs.plain.Goals as goal

pub returns : goal.returns
unfolding plain_of
returns c = refl
