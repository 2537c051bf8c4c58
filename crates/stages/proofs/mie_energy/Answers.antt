-- `stages::mie_energy` meets its contract. Assumes nothing.
use mathlib.Core.Path.{refl}
use Rattle.number.proofs.Walk.{handed_on}
use Rattle.stages.proofs.Ways.{mie_diameters, mie_energies}
use Rattle.stages.proofs.Given.{verdict_held, verdict_refused}
use Rattle.stages.proofs.mie_energy.Goals as goal

pub returns-in_err-hs_diameter : goal.returns-in_err-hs_diameter
returns-in_err-hs_diameter c = rw (handed_on _ c.from_residual.ensures) (mie_diameters _ _ _ _ _ _ _ _ (verdict_refused _ _ c.hs_diameter.ensures.0 c.in_err-hs_diameter.was) refl)

pub returns : goal.returns
returns c = mie_energies c.args.set _ _ _ _ _ _ _ _ (verdict_held _ _ _ c.hs_diameter.ensures.0 c.in_ok-hs_diameter.was) c.hs_diameter.ensures.1 (rw c.from.ensures at c.dispersion.ensures)
