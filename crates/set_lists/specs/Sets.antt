-- How a set crosses the C boundary: as its count and its lists, and a quantum set's orders as bytes.
use Rattle.std.specs.Prelude.{ℕ, ◌+◌, ◌*◌, eqb, leb, Float, get_or, length, replicate, List, Bool, ◌&&◌}
use Rattle.number.specs.Ans.{Ans, held, ◌>>=◌, demand}
use Rattle.number.specs.Arith.{zero64}
use Rattle.number.specs.Lists.{at}
use Rattle.sizes.specs.Sizes.{side, sheet, cell}
use Rattle.number.specs.Walk.{filled, every}
use Rattle.limits.specs.Limits.{count_within}
use Rattle.saftvrqmie_parameters.specs.Parameters.{order_of, unused}
use Rattle.saftvrqmie_parameters.specs.declared.OrderRecord.{OrderRecord}
use Rattle.saftvrqmie_parameters.specs.declared.SaftVRQMiePars.{SaftVRQMiePars}
use Rattle.saftvrmie_parameters.specs.declared.SaftVRMiePars.{SaftVRMiePars}
use Rattle.set_lists.specs.declared.QuantumSet.{QuantumSet}
use Rattle.set_lists.specs.declared.MieSet.{MieSet}

-- n numbers of d from `from` on, in the first places of l
unfoldable pub copied : ℕ → List Float → ℕ → List Float → List Float
copied n d from l = filled n (λ i. at d (from + i)) l

-- the same in an array of its own
abbrev pub taken : ℕ → List Float → ℕ → List Float
taken n d from = copied n d from (replicate n zero64)

-- ---- a quantum set: its count, m (a side), six sheets and orders (a sheet of bytes)
pub record QuantumLists : Type 0 where
  pub count : ℕ
  pub m : List Float
  pub sheets : List Float
  pub orders : List ℕ

abbrev pub quantum_lists : QuantumSet → QuantumLists
quantum_lists s = record { count = s.count; m = s.m.now; sheets = s.sheets.now; orders = s.orders.now }

unfoldable pub quantum_lengths : List Float → List Float → List ℕ → Bool
quantum_lengths m sheets orders = eqb (length m) side && eqb (length sheets) (6 * sheet) && eqb (length orders) sheet

-- 4: the order byte of a pair in use is above 2, which no order of the enum is; bytes of other pairs are not looked at
unfoldable pub row_within : ℕ → List ℕ → ℕ → Bool
row_within n l i = every n (λ j. leb (get_or l (cell i j) 0) 2)

unfoldable pub orders_within : ℕ → List ℕ → Bool
orders_within n l = every n (row_within n l)

-- orders from bytes: above 2, which only an unused byte can be, is read as FH2
unfoldable pub orders_read : List ℕ → List OrderRecord
orders_read l = filled sheet (λ e. record { order = order_of (get_or l e 0) }) (replicate sheet unused)

-- 'Sets .. filled by hand are read as they are'
unfoldable pub quantum_read : QuantumLists → SaftVRQMiePars
quantum_read l = record { count = l.count; m = taken side l.m 0; sheets = taken (6 * sheet) l.sheets 0; orders = orders_read l.orders }

-- 1 for the count, a list of the set, or anything else of the call that is given 1 (`right` where there is none); then 4
unfoldable pub quantum_set : Bool → QuantumLists → Ans SaftVRQMiePars
quantum_set right l =
    demand 1 (count_within l.count && quantum_lengths l.m l.sheets l.orders && right) >>= λ _.
    demand 4 (orders_within l.count l.orders) >>= λ _.
    held (quantum_read l)

-- ---- a set of SAFT-VR Mie: its count, lists (m, sigma, epsilon_k, lr, la, a side each) and six sheets
pub record MieLists : Type 0 where
  pub count : ℕ
  pub lists : List Float
  pub sheets : List Float

abbrev pub mie_lists : MieSet → MieLists
mie_lists s = record { count = s.count; lists = s.lists.now; sheets = s.sheets.now }

unfoldable pub mie_lengths : List Float → List Float → Bool
mie_lengths lists sheets = eqb (length lists) (5 * side) && eqb (length sheets) (6 * sheet)

unfoldable pub mie_read : MieLists → SaftVRMiePars
mie_read l =
    record {
      count = l.count;
      m = taken side l.lists 0;
      sigma = taken side l.lists (1 * side);
      epsilon_k = taken side l.lists (2 * side);
      lr = taken side l.lists (3 * side);
      la = taken side l.lists (4 * side);
      sheets = taken (6 * sheet) l.sheets 0;
    }

-- 1 for a list of the set
unfoldable pub mie_set : MieLists → Ans SaftVRMiePars
mie_set l = demand 1 (mie_lengths l.lists l.sheets) >>= λ _. held (mie_read l)
