-- A set, plain, with a temperature and lists that carry slopes, as the formulas of the energies take them at mixed numbers (document 02, Slip 1).
use Rattle.std.specs.Prelude.{ℕ, ◌+◌, ◌*◌, Float, List}
use Rattle.number.specs.Lists.{at}
use Rattle.sizes.specs.Sizes.{sheet}
use Rattle.dual.specs.Dual.{DualOf}
use Rattle.slopes.specs.Mixed.{Mixed, sloped}
use Rattle.saftvrqmie_parameters.specs.declared.OrderRecord.{OrderRecord}
use Rattle.saftvrqmie_potential.specs.Potential.{PairIn, pair_at_entry}
use Rattle.saftvrqmie_potential.specs.Slopes.{mixed_pair}
use Rattle.saftvrqmie_dispersion_sums.specs.State.{SheetsIn}

-- 'each density and each fraction carrying a slope that the caller supplies': entry i of a list with that of its slopes
unfoldable pub sloped_at : List Float → List Float → ℕ → Mixed
sloped_at l s i = sloped (record { re = at l i; eps = at s i })

-- sheet k of a table with that of its slopes
abbrev pub sloped_sheet : List Float → List Float → ℕ → ℕ → Mixed
sloped_sheet l s k e = sloped_at l s (k * sheet + e)

-- a set's numbers are plain
abbrev pub sloped_pair : List Float → List OrderRecord → DualOf Float → ℕ → PairIn Mixed
sloped_pair sheets orders t e = mixed_pair (pair_at_entry sheets orders t.re e) t

-- the table's sheets are sigma_eff, hs_diameter, epsilon_k_eff, quantum_d, with those of its slopes
abbrev pub sloped_sheets : ℕ → List Float → List OrderRecord → DualOf Float → List Float → List Float → SheetsIn Mixed
sloped_sheets n sheets orders t table slopes =
    record {
      count = n;
      pair = sloped_pair sheets orders t;
      sigma_eff = sloped_sheet table slopes 0;
      hs_diameter = sloped_sheet table slopes 1;
      epsilon_k_eff = sloped_sheet table slopes 2;
      quantum_d = sloped_sheet table slopes 3;
    }
