-- A set lent part by part, for the contracts of helpers alone; and a state's lists.
use Rattle.std.specs.Prelude.{Float, List, Bool}
use Rattle.saftvrqmie_parameters.specs.declared.SaftVRQMiePars.{SaftVRQMiePars}
use Rattle.saftvrqmie_energies.specs.declared.Set.{Set}
use Rattle.saftvrqmie_energies.specs.declared.StateLists.{StateLists}

abbrev pub set_of : Set → SaftVRQMiePars
set_of s = record { count = s.count; m = s.m.now; sheets = s.sheets.now; orders = s.orders.now }

-- an operation's definition at what a state's lists hold
abbrev pub asked_at : {R : Type 0} → (Float → List Float → List Float → List Float → Bool → R) → StateLists → R
asked_at f q = f q.temperature q.fractions.now q.densities.now q.table.now q.non_additive
