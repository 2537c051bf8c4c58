-- What a call asks of a set that crosses as its lists, before it writes the answer. 1, 4, then the operation's refusals.
use Rattle.std.specs.Prelude.{◌≡◌, ℕ, Float, List, Bool, Result}
use Rattle.number.specs.declared.refusal.Refusal.{Refusal}
use Rattle.number.specs.Ans.{Ans, held, refused, ◌>>=◌}
use Rattle.number.specs.Answer.{answer}
use Rattle.elementary.specs.Port.{port}
use Rattle.enclosure.specs.declared.Ends.{Ends}
use Rattle.limits.specs.Limits.{index_within}
use Rattle.saftvrqmie.specs.Pairs.{SearchesIn, radii_ij}
use Rattle.saftvrqmie_energies.specs.Energies.{EnergiesIn, state_lengths, energies}
use Rattle.saftvrqmie_energies_ends.specs.Operation.{energies_ends}
use Rattle.saftvrqmie_diameter_ends.specs.Operations.{diameter_ends}
use Rattle.saftvrqmie_total.specs.declared.QuantumTotal.{QuantumTotal}
use Rattle.saftvrqmie_total.specs.Total.{total}
use Rattle.set_lists.specs.Sets.{QuantumLists, quantum_set}

abbrev pub energies_asked : QuantumLists → Float → List Float → List Float → List Float → Bool → Ans (EnergiesIn Float)
energies_asked s t x rho table wanted = quantum_set (state_lengths s.count x rho table) s >>= λ p. energies p t x rho table wanted

abbrev pub total_asked : QuantumLists → Float → List Float → List Float → List Float → Bool → Ans QuantumTotal
total_asked s t x rho table wanted = quantum_set (state_lengths s.count x rho table) s >>= λ p. total p t x rho table wanted

abbrev pub ends_asked : QuantumLists → Float → List Float → List Float → List Float → Bool → Ans (EnergiesIn Ends)
ends_asked s t x rho table wanted = quantum_set (state_lengths s.count x rho table) s >>= λ p. energies_ends port p t x rho table wanted

abbrev pub radii_asked : QuantumLists → ℕ → ℕ → Float → Ans (SearchesIn Float)
radii_asked s i j t = quantum_set (index_within s.count i j) s >>= λ p. radii_ij p i j t

abbrev pub diameter_ends_asked : QuantumLists → ℕ → ℕ → Float → Float → Float → Ans Ends
diameter_ends_asked s i j t sigma_eff r0 = quantum_set (index_within s.count i j) s >>= λ p. diameter_ends port p i j t sigma_eff r0

-- the result r of what W says is worked of a set, or the set's own refusal
abbrev pub Worked : {S T : Type 0} → Ans S → (S → Result T Refusal → Type 0) → Result T Refusal → Type 0
Worked (held s) W r = W s r
Worked (refused n) W r = answer r ≡ refused n
