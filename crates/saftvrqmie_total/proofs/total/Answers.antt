-- `saftvrqmie_total::total` meets its contract. Assumes nothing.
use mathlib.Core.Path.{◌∙◌}
use Rattle.number.proofs.Walk.{via, handed_on}
use Rattle.saftvrqmie_energies.specs.Energies.{energies_answer}
use Rattle.saftvrqmie_total.proofs.Ways.{energies_refused, energies_held}
use Rattle.saftvrqmie_total.proofs.total.Goals as goal

pub returns-in_err-e : goal.returns-in_err-e
returns-in_err-e c = rw (handed_on _ c.from_residual.ensures) (energies_refused _ _ _ _ _ _ _ (via energies_answer (rw c.from.ensures at c.energies_of.ensures) c.in_err-e.was))

pub returns : goal.returns
returns c = c.contributions_total.ensures ∙ energies_held _ _ _ _ _ _ _ (via energies_answer (rw c.from.ensures at c.energies_of.ensures) c.in_ok-e.was)
