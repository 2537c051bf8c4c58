-- `domthelv::mie::domthelv_vr_stage` meets its contract. Assumes nothing.
use Rattle.domthelv.proofs.Operations.{delivered}
use Rattle.domthelv.proofs.mie.domthelv_vr_stage.Goals as goal

pub returns : goal.returns
returns c = delivered _ _ _ _ _ c.deliver.ensures c.mie_stage-worked.ensures
