-- `domthelv::ends::diameter_ends` meets its contract. Assumes nothing.
use Rattle.domthelv.proofs.Operations.{bind_refused, bind_held}
use Rattle.number.specs.Answer.{answer}
use Rattle.number.proofs.Walk.{via, handed_on}
use mathlib.Core.Path.{sym, ◌∙◌}
use Rattle.domthelv.proofs.ends.diameter_ends.Goals as goal

pub returns-in_err-set : goal.returns-in_err-set
returns-in_err-set c = rw (handed_on _ c.from_residual.ensures) (sym (bind_refused _ _ _ (via answer c.pair_set.ensures c.in_err-set.was)))

pub returns : goal.returns
returns c = c.hs_diameter_ij_ends.ensures ∙ sym (bind_held _ _ _ (via answer c.pair_set.ensures c.in_ok-set.was))
