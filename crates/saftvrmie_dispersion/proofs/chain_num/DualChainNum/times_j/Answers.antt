-- `saftvrmie_dispersion::chain_num::DualChainNum::times_j` meets its contract. Assumes nothing.
use lib.Ieee.{of_bits}
use Rattle.number.specs.Arith.{decimal}
use Rattle.dual.specs.Value.{dual_of}
use Rattle.slope_num.specs.Laws.{as_it_is}
use Rattle.saftvrmie_dispersion.specs.Shared.{j_by}
use Rattle.saftvrmie_dispersion.proofs.chain_num.DualChainNum.times_j.Goals as goal

pub returns : goal.returns
unfolding j_by decimal of_bits
returns c w =
    rw (
      as_it_is dual_of c.args.self,
      as_it_is dual_of,
      c.mul-3.ensures,
      c.div.ensures,
      c.neg.ensures,
      c.sub-2.ensures,
      c.sub.ensures,
      c.mul-2.ensures,
      c.plain-2.ensures,
      c.mul.ensures,
      c.plain.ensures,
    )
