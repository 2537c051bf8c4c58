-- 'Values must be bit for bit those of the chain without slopes' (document 02, Slip 1): wherever the call with slopes is accepted, the calls without slopes are, and its values are theirs.
use Rattle.std.specs.Prelude.{ℕ, ◌*◌, Float, length, List, Bool, true, ◌≡◌}
use Rattle.number.specs.Ans.{held}
use Rattle.sizes.specs.Sizes.{sheet}
use Rattle.elementary.specs.Port.{port}
use Rattle.dual.specs.Dual.{DualOf}
use Rattle.limits.specs.Limits.{temperature_within}
use Rattle.slopes_lists.specs.Lists.{SlopedList, SlopedState}
use Rattle.saftvrqmie_parameters.specs.declared.SaftVRQMiePars.{SaftVRQMiePars}
use Rattle.saftvrqmie.specs.Table.{Lent, right_lists, temperature_table}
use Rattle.saftvrqmie_energies.specs.Energies.{EnergiesIn, energies}
use Rattle.saftvrqmie_table_slopes.specs.Table.{table_slopes}
use Rattle.saftvrqmie_slopes.specs.Operation.{energies_slopes}
use Rattle.slopes_values.specs.Energies.{duals_values}

pub record Promises : Type 0 where
  -- the table with slopes, into any lists that the table without them takes
  pub table_kept : (s : SaftVRQMiePars) (t : DualOf Float) (w : SlopedList) (l : Lent) → right_lists s.count (length l.values) (length l.numbers) ≡ true → temperature_within t.re ≡ true
      → table_slopes port s.count s.sheets s.orders t ≡ held w → (c : List ℕ) × (temperature_table s t.re l ≡ held (record { values = w.values; numbers = c }))
  -- the whole call: table and energies without slopes, into any lists that the table takes
  pub energies_kept : (s : SaftVRQMiePars) (q : SlopedState) (wanted : Bool) (e : EnergiesIn (DualOf Float)) (l : Lent) → length l.values ≡ 4 * sheet → length l.numbers ≡ 3 * sheet → energies_slopes s q wanted ≡ held e
      → (w : Lent) × (temperature_table s q.temperature.re l ≡ held w) × (energies s q.temperature.re q.fractions.values q.densities.values w.values wanted ≡ held (duals_values e))
