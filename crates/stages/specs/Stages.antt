-- The energy stages: from component lists to energies, with a table or diameters of their own. 'goes on only if the parameter answer holds a set; the first refusal on the way is given'
use Rattle.std.specs.Prelude.{ℕ, Float, replicate, take, List, Bool}
use Rattle.number.specs.Ans.{Ans, ◌>>=◌}
use Rattle.number.specs.Arith.{zero64}
use Rattle.sizes.specs.Sizes.{side}
use Rattle.saftvrqmie_parameters.specs.Parameters as Quantum
use Rattle.saftvrqmie.specs.Table.{blank, temperature_table}
use Rattle.saftvrqmie_energies.specs.Energies.{EnergiesIn, energies}
use Rattle.saftvrmie_parameters.specs.Parameters as Mie
use Rattle.saftvrmie_parameters.specs.declared.SaftVRMiePars.{SaftVRMiePars}
use Rattle.saftvrmie.specs.Diameters.{diameters}
use Rattle.saftvrmie_energies.specs.Energies.{energy}

-- parameters (1 to 6), a table of its own (2, 6, 7), energies (1, 2, 6, 7)
unfoldable pub quantum_stage : Quantum.Lists → Float → List Float → List Float → Bool → Ans (EnergiesIn Float)
quantum_stage l t x rho wanted =
    Quantum.saft_vrq_mie_pars l >>= λ s.
    temperature_table s t blank >>= λ w.
    energies s t x rho w.values wanted

-- diameters of its own, as many as components, in the places of a set
abbrev pub own_diameters : ℕ → List Float
own_diameters n = take n (replicate side zero64)

-- diameters (2, 6, 7) into a list, then the energy from it (1, 2, 6, 7)
unfoldable pub mie_energy : SaftVRMiePars → Float → List Float → List Float → List Float → Bool → Ans Float
mie_energy s t x rho own chain = diameters s.count s.sheets t own >>= λ d. energy s t x rho d chain

-- parameters (1, 2, 6), then these
unfoldable pub mie_stage : Mie.Lists → Float → List Float → List Float → Bool → Ans Float
mie_stage l t x rho chain = Mie.saft_vr_mie_pars l >>= λ s. mie_energy s t x rho (own_diameters s.count) chain
