-- `saftvrmie::diameter_ij` meets its contract. Assumes nothing.
use mathlib.Core.Bool.{true}
use mathlib.Core.Path.{ap}
use Rattle.number.specs.Answer.{answer}
use Rattle.number.proofs.Walk.{handed_on}
use Rattle.saftvrmie.proofs.Pairs.{diameter_asked, diameter_6, diameter_is}
use Rattle.saftvrmie.proofs.diameter_ij.Goals as goal

pub returns-in_err-pair_asked : goal.returns-in_err-pair_asked
returns-in_err-pair_asked c = rw (handed_on _ c.from_residual.ensures) (diameter_asked _ _ _ _ _ c.pair_asked.ensures.asked _ _ c.in_err-pair_asked.was)

pub returns-in_err-d : goal.returns-in_err-d
returns-in_err-d c = rw (handed_on _ c.from_residual-in_err-d.ensures) (diameter_6 _ _ _ _ _ c.pair_asked.ensures.asked c.in_ok-pair_asked.was _ c.pair_at-p.ensures _ (c.c_eps_of-c_eps_t.ensures true) _ _ c.diameter_from.ensures _ (ap answer c.in_err-d.was))

pub returns : goal.returns
returns c = diameter_is _ _ _ _ _ c.pair_asked.ensures.asked c.in_ok-pair_asked.was _ c.pair_at-p.ensures _ (c.c_eps_of-c_eps_t.ensures true) _ _ c.diameter_from.ensures _ _ (ap answer c.in_ok-d.was) c.if_finite.ensures
