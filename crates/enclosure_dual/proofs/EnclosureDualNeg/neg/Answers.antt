-- `enclosure_dual::EnclosureDualNeg::neg` meets its contract. Assumes nothing.
use Rattle.enclosure_dual.specs.Value.{dual_of}
use Rattle.dual.specs.Dual.{neg_d}
use Rattle.enclosure_dual.proofs.EnclosureDualNeg.neg.Goals as goal

pub returns : goal.returns
unfolding neg_d dual_of
returns c =
    rw (
      c.neg-2.ensures,
      c.neg.ensures,
    )
