-- `saftvrmie_dispersion::chain_num::DualChainNum::times_i` meets its contract. Assumes nothing.
use lib.Ieee.{of_bits}
use Rattle.number.specs.Arith.{decimal}
use Rattle.dual.specs.Value.{dual_of}
use Rattle.slope_num.specs.Laws.{as_it_is}
use Rattle.saftvrmie_dispersion.specs.Shared.{i_by}
use Rattle.saftvrmie_dispersion.proofs.chain_num.DualChainNum.times_i.Goals as goal

pub returns : goal.returns
unfolding i_by decimal of_bits
returns c w = rw (as_it_is dual_of c.args.self, as_it_is dual_of, c.mul.ensures, c.div.ensures, c.neg.ensures, c.sub.ensures, c.plain.ensures)
