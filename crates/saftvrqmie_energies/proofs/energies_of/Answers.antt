-- `saftvrqmie_energies::energies_of` meets its contract. Assumes nothing.
use borrow.Author.Rules.{rules}
use Rattle.saftvrqmie_energies.specs.Energies.{energies_by}
use Rattle.saftvrqmie_energies.proofs.energies_of.Goals as goal

pub energies_run-requires : goal.energies_run-requires
energies_run-requires c = (search rules, (search rules, λ l i h. h))

pub returns : goal.returns
unfolding energies_by
returns c = c.energies_run.ensures
