-- Slip 1 behind the boundary: the quantum chain with slopes, with the lists that a call lends. 1 for anything that is given 1, then 4 for an order of the set, then the operation's other refusals in their order.
use Rattle.std.specs.Prelude.{eqb, Float, length, set, List, Bool}
use Rattle.number.specs.Ans.{Ans, held, ◌>>=◌, demand}
use Rattle.dual.specs.Dual.{DualOf}
use Rattle.slopes_lists.specs.Lists.{SlopedState, sloped_lengths}
use Rattle.set_lists.specs.Sets.{QuantumLists, quantum_set}
use Rattle.saftvrqmie_energies.specs.Energies.{EnergiesIn}
use Rattle.saftvrqmie_slopes.specs.Operation.{energies_slopes}

-- 'each contribution coming back as value and slope': hard sphere, dispersion, non-additive, value and slope by turns
unfoldable pub slopes_written : EnergiesIn (DualOf Float) → List Float → List Float
slopes_written e l =
    set (set (set (set (set (set l 0 e.hard_sphere.re) 1 e.hard_sphere.eps) 2 e.dispersion.re) 3 e.dispersion.eps) 4 e.non_additive.re) 5 e.non_additive.eps

unfoldable pub vrq_energies_slopes : QuantumLists → SlopedState → Bool → List Float → Ans (List Float)
vrq_energies_slopes s q wanted l =
    demand 1 (eqb (length l) 6) >>= λ _.
    quantum_set (sloped_lengths s.count q) s >>= λ p.
    energies_slopes p q wanted >>= λ e.
    held (slopes_written e l)
