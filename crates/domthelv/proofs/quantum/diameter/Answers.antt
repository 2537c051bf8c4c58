-- `domthelv::quantum::diameter` meets its contract. Assumes nothing.
use Rattle.domthelv.proofs.Operations.{diameter_set, diameter_is}
use Rattle.number.specs.Answer.{answer}
use Rattle.number.proofs.Walk.{via, handed_on}
use mathlib.Core.Path.{sym, ◌∙◌}
use Rattle.domthelv.proofs.quantum.diameter.Goals as goal

pub returns-in_err-set : goal.returns-in_err-set
returns-in_err-set c = rw (handed_on _ c.from_residual.ensures) (sym (diameter_set _ _ _ _ _ _ _ (via answer c.pair_set.ensures c.in_err-set.was)))

pub returns : goal.returns
returns c = c.hs_diameter_ij.ensures ∙ sym (diameter_is _ _ _ _ _ _ _ (via answer c.pair_set.ensures c.in_ok-set.was))
