-- What the energies of the quantum model are worked from, in the numbers N: sheets of a set and of a table by their entry e.
use Rattle.std.specs.Prelude.{ℕ, ◌<◌, ◌≡◌, Float, List, Result}
use Rattle.number.specs.Ans.{Ans}
use Rattle.number.specs.Answer.{answer_by}
use Rattle.number.specs.declared.refusal.Refusal.{Refusal}
use Rattle.number.specs.Arith.{Arith}
use Rattle.number.specs.Lists.{nth}
use Rattle.sizes.specs.Sizes.{cell}
use Rattle.saftvrqmie_parameters.specs.declared.OrderRecord.{OrderRecord}
use Rattle.saftvrqmie_potential.specs.Potential.{PairIn, pair_by, points_of, pair_at_entry}
use Rattle.saftvrqmie_hard_sphere.specs.State.{sheet_of, sheet_in, entries}
use Rattle.saftvrqmie_hard_sphere.specs.declared.State.{State}

pub record SheetsIn (N : Type 0) : Type 0 where
  pub count : ℕ
  pub pair : ℕ → PairIn N
  pub sigma_eff : ℕ → N
  pub hs_diameter : ℕ → N
  pub epsilon_k_eff : ℕ → N
  pub quantum_d : ℕ → N

-- a row's answer is that of f, from a sum that is taken as a D
abbrev pub Rows : {D N : Type 0} → ℕ → (D → N) → (N → N) → (ℕ → D → Result D Refusal → Type 0) → (ℕ → N → Ans N) → Type 0
Rows n of taken post f = (i : ℕ) (v : _) (sum : _) (r : _) → i < n → taken v ≡ of sum → post i sum r → answer_by of r ≡ f i v

module _ (A : Arith) where
  open A use {Num, lit}

  -- a set's pair at an entry
  abbrev pub set_pair_at : List Float → List OrderRecord → Float → ℕ → PairIn Num
  set_pair_at sheets orders t e = points_of A (pair_at_entry sheets orders t e)

  -- the table's sheets are sigma_eff, hs_diameter, epsilon_k_eff, quantum_d
  abbrev pub sheets_of_state : ℕ → List Float → List OrderRecord → Float → List Float → SheetsIn Num
  sheets_of_state n sheets orders t table =
      record {
        count = n;
        pair = set_pair_at sheets orders t;
        sigma_eff = sheet_of A table 0;
        hs_diameter = sheet_of A table 1;
        epsilon_k_eff = sheet_of A table 2;
        quantum_d = sheet_of A table 3;
      }

  -- the same from the temperature and the table's entries as a run has them
  abbrev pub sheets_by : ℕ → List Float → List OrderRecord → Num → (ℕ → Num) → SheetsIn Num
  sheets_by n sheets orders t table =
      record {
        count = n;
        pair = λ e. pair_by lit (λ x. x) (pair_at_entry sheets orders t e);
        sigma_eff = sheet_in table 0;
        hs_diameter = sheet_in table 1;
        epsilon_k_eff = sheet_in table 2;
        quantum_d = sheet_in table 3;
      }

  -- those of a state, whose lists a run reads
  abbrev pub sheets_read : {D : Type 0} → (D → Num) → (List Float → List Float → ℕ → Num) → State D → SheetsIn Num
  sheets_read of entry_of s = sheets_by s.n s.sheets.now s.orders (of s.temperature) (entries entry_of s.table)

  -- the entries of the pairs of the first n are those of a
  abbrev pub Pairs : ℕ → List Num → (ℕ → Num) → Type 0
  Pairs n l a = (i j : ℕ) → i < n → j < n → nth A l (cell i j) ≡ a (cell i j)
