-- `saftvrmie_energies::set::right_lists` meets its contract. Assumes nothing.
use Rattle.saftvrmie_energies.specs.Energies.{state_lengths}
use Rattle.saftvrmie_energies.proofs.set.right_lists.Goals as goal

pub returns : goal.returns
unfolding state_lengths
returns c = rw
    c.count_within.ensures
