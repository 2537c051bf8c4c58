-- `stages::mie_stage` meets its contract. Assumes nothing.
use lib.ListN.{replicate}
use mathlib.Core.Path.{refl}
use Rattle.number.specs.Arith.{zero64}
use Rattle.sizes.specs.Sizes.{side}
use Rattle.stages.proofs.Ways.{mie_parameters, mie_energy_is, mie_count, first_part}
use Rattle.mie_parameters.proofs.Laws.{held_at, refused_at}
use Rattle.stages.proofs.mie_stage.Goals as goal

pub returns-in_default : goal.returns-in_default
returns-in_default c = mie_parameters _ _ _ _ _ _ _ (refused_at _ _ _ _ c.parameters-given.ensures.answer c.unwrap_err.ensures) refl

pub slice_bounds-own-end : goal.slice_bounds-own-end
slice_bounds-own-end c = mie_count _ _ (held_at _ _ _ c.parameters-given.ensures.answer c.in-Ok.is)

pub returns : goal.returns
returns c = mie_energy_is _ _ _ _ _ _ _ _ (held_at _ _ _ c.parameters-given.ensures.answer c.in-Ok.is) (first_part c.parameters-given.result.set.count (replicate side zero64)) c.mie_energy.ensures
