-- Dispersion, and dispersion with chain, as a two-ended operation: the float operation's refusals in its order, then 8, then the ends.
use Rattle.std.specs.Prelude.{Float, List, Bool}
use Rattle.number.specs.Ans.{Ans}
use Rattle.number.specs.Functions.{Answers, calls}
use Rattle.enclosure.specs.declared.Ends.{Ends}
use Rattle.enclosure.specs.Enclosure.{enclosures}
use Rattle.enclosure.specs.Ends.{ends_of}
use Rattle.saftvrmie_parameters.specs.declared.SaftVRMiePars.{SaftVRMiePars}
use Rattle.saftvrmie_energies.specs.Energies.{energy_run, energy_by}

-- 1, 2, 6, 7 of the float operation; 8 if the energy's enclosure is not sound
unfoldable pub dispersion_ends : Answers → SaftVRMiePars → Float → List Float → List Float → List Float → Bool → Ans Ends
dispersion_ends E s t x rho d chain = ends_of (energy_by E s t x rho d chain) (energy_run enclosures (calls enclosures E) s t x rho d chain)
