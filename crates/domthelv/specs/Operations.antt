-- The operations behind the boundary, with the lists that a call lends (include/domthelv.h): 1 for anything that is given 1, then 4 for an order of a quantum set, then the operation's other refusals in their order; its own 1 comes before the 4 and is never met after it.
use Rattle.std.specs.Prelude.{ℕ, eqb, Float, length, set, List, Bool, ◌&&◌}
use Rattle.number.specs.Ans.{Ans, held, ◌>>=◌, demand}
use Rattle.saftvrqmie_parameters.specs.Parameters as Quantum
use Rattle.saftvrmie_parameters.specs.Parameters as Mie
use Rattle.order_counts.specs.Counts.{order_counts}
use Rattle.order_counts.specs.declared.OrderCounts.{OrderCounts}
use Rattle.saftvrqmie_properties.specs.Properties.{radius_of, last_of}
use Rattle.limits.specs.Limits.{index_within}
use Rattle.saftvrqmie.specs.Table.{Lent, right_lists, temperature_table}
use Rattle.saftvrqmie.specs.Pairs as Pairs
use Rattle.saftvrqmie.specs.Pairs.{SearchesIn}
use Rattle.saftvrqmie_energies.specs.Energies.{EnergiesIn}
use Rattle.elementary.specs.Port.{port}
use Rattle.enclosure.specs.declared.Ends.{Ends}
use Rattle.stages.specs.Stages.{quantum_stage}
use Rattle.saftvrmie.specs.Diameters.{diameters}
use Rattle.saftvrmie.specs.Pairs.{radius_ij, diameter_ij}
use Rattle.saftvrmie_energies.specs.Energies.{energy}
use Rattle.saftvrmie_energies_ends.specs.Operation.{dispersion_ends}
use Rattle.saftvrmie_diameter_ends.specs.Operations as MieDiameter
use Rattle.set_lists.specs.Sets.{QuantumLists, quantum_lengths, quantum_set, MieLists, mie_lengths, mie_set}
use Rattle.set_lists.specs.Written.{QuantumLent, set_written, MieLent, mie_written}
use Rattle.domthelv.specs.Asked.{radii_asked, energies_asked, ends_asked, diameter_ends_asked}

-- how many order lists pass, meet 4, meet 5
unfoldable pub counts_written : OrderCounts → List ℕ → List ℕ
counts_written c l = set (set (set l 0 c.passing) 1 c.meeting_4) 2 c.meeting_5

unfoldable pub order_counts_out : ℕ → List ℕ → Ans (List ℕ)
order_counts_out n l =
    demand 1 (eqb (length l) 3) >>= λ _.
    order_counts n >>= λ c.
    held (counts_written c l)

unfoldable pub vrq_parameters : Quantum.Lists → QuantumLent → Ans QuantumLent
vrq_parameters x l =
    demand 1 (quantum_lengths l.m l.sheets l.orders) >>= λ _.
    Quantum.saft_vrq_mie_pars x >>= λ s.
    held (set_written s l)

unfoldable pub vrq_table : QuantumLists → Float → Lent → Ans Lent
vrq_table s t l =
    quantum_set (right_lists s.count (length l.values) (length l.numbers)) s >>= λ p.
    temperature_table p t l

-- radius and last potential of sigma, zero, depth, and the three counts
unfoldable pub radii_written : SearchesIn Float → Lent → Lent
radii_written r l =
    record {
      values =
          set (set (set (set (set (set l.values 0 (radius_of r.sigma.search)) 1 (last_of r.sigma.search)) 2 (radius_of r.zero.search)) 3 (last_of r.zero.search)) 4 (radius_of r.depth.search)) 5 (last_of r.depth.search);
      numbers = set (set (set l.numbers 0 r.sigma.count) 1 r.zero.count) 2 r.depth.count;
    }

unfoldable pub radii_lengths : Lent → Bool
radii_lengths l = eqb (length l.values) 6 && eqb (length l.numbers) 3

unfoldable pub vrq_radii : QuantumLists → ℕ → ℕ → Float → Lent → Ans Lent
vrq_radii s i j t l =
    demand 1 (radii_lengths l) >>= λ _.
    radii_asked s i j t >>= λ r.
    held (radii_written r l)

-- hard sphere, dispersion, non-additive
unfoldable pub energies_written : EnergiesIn Float → List Float → List Float
energies_written e l = set (set (set l 0 e.hard_sphere) 1 e.dispersion) 2 e.non_additive

unfoldable pub vrq_energies : QuantumLists → Float → List Float → List Float → List Float → Bool → List Float → Ans (List Float)
vrq_energies s t x rho table wanted l =
    demand 1 (eqb (length l) 3) >>= λ _.
    energies_asked s t x rho table wanted >>= λ e.
    held (energies_written e l)

-- low and high end of each of the three
unfoldable pub ends_written : EnergiesIn Ends → List Float → List Float
ends_written e l =
    set (set (set (set (set (set l 0 e.hard_sphere.lower) 1 e.hard_sphere.upper) 2 e.dispersion.lower) 3 e.dispersion.upper) 4 e.non_additive.lower) 5 e.non_additive.upper

unfoldable pub vrq_energies_ends : QuantumLists → Float → List Float → List Float → List Float → Bool → List Float → Ans (List Float)
vrq_energies_ends s t x rho table wanted l =
    demand 1 (eqb (length l) 6) >>= λ _.
    ends_asked s t x rho table wanted >>= λ e.
    held (ends_written e l)

-- low and high end
unfoldable pub pair_written : Ends → List Float → List Float
pair_written e l = set (set l 0 e.lower) 1 e.upper

unfoldable pub vrq_diameter : QuantumLists → ℕ → ℕ → Float → Float → Float → Ans Float
vrq_diameter s i j t sigma_eff r0 =
    quantum_set (index_within s.count i j) s >>= λ p.
    Pairs.diameter_ij p i j t sigma_eff r0

unfoldable pub vrq_diameter_ends : QuantumLists → ℕ → ℕ → Float → Float → Float → List Float → Ans (List Float)
vrq_diameter_ends s i j t sigma_eff r0 l =
    demand 1 (eqb (length l) 2) >>= λ _.
    diameter_ends_asked s i j t sigma_eff r0 >>= λ e.
    held (pair_written e l)

unfoldable pub vrq_stage : Quantum.Lists → Float → List Float → List Float → Bool → List Float → Ans (List Float)
vrq_stage x t fractions rho wanted l =
    demand 1 (eqb (length l) 3) >>= λ _.
    quantum_stage x t fractions rho wanted >>= λ e.
    held (energies_written e l)

unfoldable pub vr_parameters : Mie.Lists → MieLent → Ans MieLent
vr_parameters x l =
    demand 1 (mie_lengths l.lists l.sheets) >>= λ _.
    Mie.saft_vr_mie_pars x >>= λ s.
    held (mie_written s l)

unfoldable pub vr_diameters : MieLists → Float → List Float → Ans (List Float)
vr_diameters s t l = mie_set s >>= λ p. diameters p.count p.sheets t l

unfoldable pub vr_radius : MieLists → ℕ → ℕ → Float → Ans Float
vr_radius s i j t = mie_set s >>= λ p. radius_ij p i j t

unfoldable pub vr_diameter : MieLists → ℕ → ℕ → Float → Float → Ans Float
vr_diameter s i j t r0 = mie_set s >>= λ p. diameter_ij p i j t r0

unfoldable pub vr_dispersion : MieLists → Float → List Float → List Float → List Float → Bool → Ans Float
vr_dispersion s t x rho d chain = mie_set s >>= λ p. energy p t x rho d chain

unfoldable pub vr_dispersion_ends : MieLists → Float → List Float → List Float → List Float → Bool → List Float → Ans (List Float)
vr_dispersion_ends s t x rho d chain l =
    demand 1 (eqb (length l) 2) >>= λ _.
    mie_set s >>= λ p.
    dispersion_ends port p t x rho d chain >>= λ e.
    held (pair_written e l)

unfoldable pub vr_diameter_ends : MieLists → ℕ → ℕ → Float → Float → List Float → Ans (List Float)
vr_diameter_ends s i j t r0 l =
    demand 1 (eqb (length l) 2) >>= λ _.
    mie_set s >>= λ p.
    MieDiameter.diameter_ends port p i j t r0 >>= λ e.
    held (pair_written e l)
