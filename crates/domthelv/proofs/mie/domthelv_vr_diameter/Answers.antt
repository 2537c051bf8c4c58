-- `domthelv::mie::domthelv_vr_diameter` meets its contract. Assumes nothing.
use Rattle.saftvrmie.specs.Pairs.{diameter_ij}
use Rattle.domthelv.proofs.Operations.{worked_is, mie_diameter_is, delivered}
use borrow.Author.Rules.{rules}
use Rattle.domthelv.proofs.mie.domthelv_vr_diameter.Goals as goal

pub returns : goal.returns
returns c = delivered _ _ _ _ _ c.deliver.ensures (mie_diameter_is _ _ _ _ _ _ (worked_is (λ x. x) _ _ (λ p. diameter_ij p c.args.i c.args.j c.args.temperature c.args.r0) _ c.of_set-worked.ensures (λ s w. search rules)))
