-- `domthelv::quantum::total` meets its contract. Assumes nothing.
use Rattle.domthelv.proofs.Operations.{bind_refused, bind_held}
use Rattle.domthelv.proofs.Total.{total_from}
use Rattle.saftvrqmie_energies.specs.Energies.{energies_answer}
use Rattle.number.proofs.Walk.{via, handed_on}
use mathlib.Core.Path.{sym, ◌∙◌}
use Rattle.domthelv.proofs.quantum.total.Goals as goal

pub returns-in_err-e : goal.returns-in_err-e
returns-in_err-e c = rw (handed_on _ c.from_residual.ensures) (sym (total_from _ _ _ _ _ _ ∙ bind_refused _ _ _ (via energies_answer c.energies.ensures c.in_err-e.was)))

pub returns : goal.returns
returns c = c.contributions_total.ensures ∙ sym (total_from _ _ _ _ _ _ ∙ bind_held _ _ _ (via energies_answer c.energies.ensures c.in_ok-e.was))
