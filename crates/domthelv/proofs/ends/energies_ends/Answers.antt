-- `domthelv::ends::energies_ends` meets its contract. Assumes nothing.
use Rattle.number.specs.Answer.{answer_by}
use Rattle.domthelv.specs.Lent.{lent_read}
use Rattle.domthelv.proofs.Operations.{bind_refused, bind_held}
use Rattle.number.proofs.Walk.{via, handed_on}
use mathlib.Core.Path.{sym, ◌∙◌}
use Rattle.domthelv.proofs.ends.energies_ends.Goals as goal

pub returns-in_err-lent : goal.returns-in_err-lent
returns-in_err-lent c = rw (handed_on _ c.from_residual.ensures) (sym (bind_refused _ _ _ (via (answer_by lent_read) c.lent_set.ensures c.in_err-lent.was)))

pub returns : goal.returns
returns c = rw c.parts.ensures at (c.energies_ends_of.ensures) ∙ sym (bind_held _ _ _ (via (answer_by lent_read) c.lent_set.ensures c.in_ok-lent.was))
