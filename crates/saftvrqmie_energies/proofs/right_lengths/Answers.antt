-- `saftvrqmie_energies::right_lengths` meets its contract. Assumes nothing.
use Rattle.saftvrqmie_energies.specs.Energies.{state_lengths}
use Rattle.saftvrqmie_energies.proofs.right_lengths.Goals as goal

pub returns : goal.returns
unfolding state_lengths
returns c =
    rw
    c.count_within.ensures
