-- How a set is written into the lists that it crosses the C boundary as (Sets says how it is read).
use Rattle.std.specs.Prelude.{ℕ, ◌+◌, ◌*◌, Float, get_or, set, List}
use Rattle.number.specs.Lists.{at}
use Rattle.sizes.specs.Sizes.{side, sheet}
use Rattle.number.specs.Walk.{turns, filled}
use Rattle.saftvrqmie_parameters.specs.Parameters.{unused}
use Rattle.saftvrqmie_parameters.specs.declared.OrderRecord.{OrderRecord}
use Rattle.saftvrqmie_potential.specs.Potential.{order_number}
use Rattle.saftvrqmie_parameters.specs.declared.SaftVRQMiePars.{SaftVRQMiePars}
use Rattle.saftvrmie_parameters.specs.declared.SaftVRMiePars.{SaftVRMiePars}

-- the first n numbers of d, in the places of l from `to` on
unfoldable pub placed : ℕ → List Float → ℕ → List Float → List Float
placed n d to l = turns n (λ i s. set s (to + i) (at d i)) l

-- bytes from orders
unfoldable pub orders_written : List OrderRecord → List ℕ → List ℕ
orders_written o l = filled sheet (λ e. order_number (get_or o e unused).order) l

-- the five component lists of a set, a side each
unfoldable pub lists_written : SaftVRMiePars → List Float → List Float
lists_written s l =
    placed side s.la (4 * side) (placed side s.lr (3 * side) (placed side s.epsilon_k (2 * side) (placed side s.sigma (1 * side) (placed side s.m 0 l))))

-- the lists that a quantum set is written into
pub record QuantumLent : Type 0 where
  pub m : List Float
  pub sheets : List Float
  pub orders : List ℕ

unfoldable pub set_written : SaftVRQMiePars → QuantumLent → QuantumLent
set_written s l = record { m = placed side s.m 0 l.m; sheets = placed (6 * sheet) s.sheets 0 l.sheets; orders = orders_written s.orders l.orders }

-- the lists that a set of SAFT-VR Mie is written into
pub record MieLent : Type 0 where
  pub lists : List Float
  pub sheets : List Float

unfoldable pub mie_written : SaftVRMiePars → MieLent → MieLent
mie_written s l = record { lists = lists_written s l.lists; sheets = placed (6 * sheet) s.sheets 0 l.sheets }
