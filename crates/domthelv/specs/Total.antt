-- Slip 5 behind the boundary: the total of the quantum energies, with the lists that a call lends.
use Rattle.std.specs.Prelude.{eqb, Float, length, set, List, Bool}
use Rattle.number.specs.Ans.{Ans, held, ◌>>=◌, demand}
use Rattle.saftvrqmie_total.specs.declared.QuantumTotal.{QuantumTotal}
use Rattle.set_lists.specs.Sets.{QuantumLists}
use Rattle.domthelv.specs.Asked.{total_asked}

-- the first sum and its remainder, the last and its own
unfoldable pub total_written : QuantumTotal → List Float → List Float
total_written w l = set (set (set (set l 0 w.first.sum) 1 w.first.remainder) 2 w.last.sum) 3 w.last.remainder

unfoldable pub total_stored : Ans QuantumTotal → List Float → Ans (List Float)
total_stored a l =
    a >>= λ w.
    held (total_written w l)

unfoldable pub vrq_total : QuantumLists → Float → List Float → List Float → List Float → Bool → List Float → Ans (List Float)
vrq_total s t x rho table wanted l =
    demand 1 (eqb (length l) 4) >>= λ _.
    total_stored (total_asked s t x rho table wanted) l
