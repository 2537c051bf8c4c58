-- `stages::quantum_stage` meets its contract. Assumes nothing.
use mathlib.Core.Path.{refl}
use Rattle.number.proofs.Walk.{handed_on}
use Rattle.mie_parameters.proofs.Laws.{held_at, refused_at}
use Rattle.stages.proofs.Given.{verdict_held, verdict_refused}
use Rattle.stages.proofs.Ways.{quantum_parameters, quantum_table, quantum_energies}
use Rattle.stages.proofs.quantum_stage.Goals as goal

pub returns-in_default : goal.returns-in_default
returns-in_default c = quantum_parameters _ _ _ _ _ _ _ (refused_at _ _ _ _ c.parameters-given.ensures.answer c.unwrap_err.ensures) refl

pub returns-in_err-temperature_dependent_properties : goal.returns-in_err-temperature_dependent_properties
returns-in_err-temperature_dependent_properties c = rw (handed_on _ c.from_residual.ensures) (quantum_table _ _ _ _ _ _ (held_at _ _ _ c.parameters-given.ensures.answer c.in-Ok.is) _ _ (verdict_refused _ _ c.temperature_dependent_properties.ensures.0 c.in_err-temperature_dependent_properties.was) refl)

pub returns : goal.returns
returns c = quantum_energies _ _ _ _ _ _ (held_at _ _ _ c.parameters-given.ensures.answer c.in-Ok.is) _ _ _ (verdict_held _ _ _ c.temperature_dependent_properties.ensures.0 c.in_ok-temperature_dependent_properties.was) c.temperature_dependent_properties.ensures.1 c.helmholtz_energy_densities.ensures
