-- `enclosure_dual::plain_mul` meets its contract. Assumes nothing.
use Rattle.dual.specs.Dual.{mul_d, plain_d}
use Rattle.enclosure_dual.specs.Value.{dual_of}
use Rattle.enclosure_dual.proofs.plain_mul.Goals as goal

pub returns : goal.returns
unfolding mul_d plain_d dual_of
returns c =
    rw (
      c.add.ensures,
      c.zero_times.ensures,
      c.mul.ensures,
      c.mul-right.ensures,
    )
