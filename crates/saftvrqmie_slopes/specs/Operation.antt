-- The quantum chain with slopes as an operation on a set (document 02, Slip 1): its tests in their order, the table and the energies.
use Rattle.std.specs.Prelude.{Float, Bool}
use Rattle.number.specs.Ans.{Ans, ◌>>=◌, demand}
use Rattle.number.specs.Functions.{Answers}
use Rattle.elementary.specs.Port.{port}
use Rattle.dual.specs.Dual.{DualOf}
use Rattle.limits.specs.Limits.{state_within}
use Rattle.slopes_lists.specs.Lists.{SlopedState, sloped_lengths, supplied_finite}
use Rattle.saftvrqmie_parameters.specs.declared.SaftVRQMiePars.{SaftVRQMiePars}
use Rattle.saftvrqmie_energies.specs.Energies.{EnergiesIn}
use Rattle.saftvrqmie_table_slopes.specs.Table.{table_slopes}
use Rattle.saftvrqmie_energies_slopes.specs.Energies.{energies_slope_at}

-- The call takes the set: 'all tests for 1 (slope lists too), all for 2, then 7 for a supplied slope that is not finite', then the table's 6 and 7 and the energies', whatever the elementary functions answer
unfoldable pub energies_slopes_by : Answers → SaftVRQMiePars → SlopedState → Bool → Ans (EnergiesIn (DualOf Float))
energies_slopes_by E s q wanted =
    demand 1 (sloped_lengths s.count q) >>= λ _.
    demand 2 (state_within s.count q.temperature.re q.fractions.values q.densities.values) >>= λ _.
    demand 7 (supplied_finite s.count q) >>= λ _.
    table_slopes E s.count s.sheets s.orders q.temperature >>= λ w.
    energies_slope_at E s q w wanted

abbrev pub energies_slopes : SaftVRQMiePars → SlopedState → Bool → Ans (EnergiesIn (DualOf Float))
energies_slopes = energies_slopes_by port
