-- `domthelv::mie::domthelv_vr_radius` meets its contract. Assumes nothing.
use Rattle.saftvrmie.specs.Pairs.{radius_ij}
use Rattle.domthelv.proofs.Operations.{worked_is, radius_is, delivered}
use borrow.Author.Rules.{rules}
use Rattle.domthelv.proofs.mie.domthelv_vr_radius.Goals as goal

pub returns : goal.returns
returns c = delivered _ _ _ _ _ c.deliver.ensures (radius_is _ _ _ _ _ (worked_is (λ x. x) _ _ (λ p. radius_ij p c.args.i c.args.j c.args.temperature) _ c.of_set-worked.ensures (λ s w. search rules)))
