-- The total behind the boundary, test by test, over plain values. Assumes nothing.
use lib.Dec.{eqb}
use lib.Ieee.{Float}
use lib.ListN.{length}
use mathlib.Core.List.{List}
use mathlib.Core.Path.{◌≡◌, sym}
use mathlib.Core.Bool.{Bool, true, false}
use Rattle.number.specs.Ans.{Ans, held, refused, ◌>>=◌, demand}
use Rattle.saftvrqmie_parameters.specs.declared.SaftVRQMiePars.{SaftVRQMiePars}
use Rattle.saftvrqmie_energies.specs.Energies.{state_lengths, energies}
use Rattle.domthelv.proofs.Operations.{bind_bind}
use Rattle.saftvrqmie_total.specs.Total.{contributions_total, total}
use Rattle.set_lists.specs.Sets.{QuantumLists, quantum_set}
use Rattle.domthelv.specs.Asked.{total_asked}
use Rattle.domthelv.specs.Total.{total_written, total_stored, vrq_total}

module _ (s : QuantumLists) (t : Float) (x rho table : List Float) (wanted : Bool) (l : List Float) where
  pub total_1 : eqb (length l) 4 ≡ false → vrq_total s t x rho table wanted l ≡ refused 1
  unfolding vrq_total demand ◌>>=◌
  total_1 p = rw p

  pub total_is : eqb (length l) 4 ≡ true → vrq_total s t x rho table wanted l ≡ (total_asked s t x rho table wanted >>= λ w. held (total_written w l))
  unfolding vrq_total total_stored demand ◌>>=◌
  total_is p = rw p

-- of the energies that a set answered
module _ (a : Ans SaftVRQMiePars) (t : Float) (x rho table : List Float) (wanted : Bool) where
  pub total_from : (a >>= λ p. total p t x rho table wanted) ≡ ((a >>= λ p. energies p t x rho table wanted) >>= λ e. contributions_total e wanted)
  unfolding total
  total_from = sym (bind_bind a (λ p. energies p t x rho table wanted) (λ e. contributions_total e wanted))
