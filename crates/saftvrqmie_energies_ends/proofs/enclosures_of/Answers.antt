-- `saftvrqmie_energies_ends::enclosures_of` meets its contract. Assumes nothing.
use borrow.Author.Rules.{rules}
use mathlib.Core.Path.{◌∙◌}
use Rattle.elementary.specs.Port.{port}
use Rattle.saftvrqmie_energies_ends.proofs.Ways.{enclosed}
use Rattle.saftvrqmie_energies_ends.proofs.enclosures_of.Goals as goal

pub energies_run-requires : goal.energies_run-requires
energies_run-requires c = (search rules, (search rules, λ l i h. h))

pub returns : goal.returns
returns c = c.energies_run.ensures ∙ enclosed port _ _ _ _ _ _
