-- `domthelv::pressure::domthelv_vrq_energies_slopes` meets its contract. Assumes nothing.
use mathlib.Core.Path.{refl}
use Rattle.dual.specs.Value.{dual_of}
use Rattle.domthelv.proofs.Operations.{through_status}
use Rattle.domthelv.proofs.pressure.domthelv_vrq_energies_slopes.Goals as goal

pub returns : goal.returns
unfolding dual_of
returns c = let e = c.vrq_energies_slopes-answer.ensures in (through_status _ _ _ _ refl e.0 c.number.ensures, e.1)
