-- `saftvrmie_dispersion::chain::rho_dual` meets its contract. Assumes nothing.
use lib.Ieee.{of_bits}
use Rattle.number.specs.Arith.{decimal}
use Rattle.slope_num.specs.Value.{slope_by}
use Rattle.saftvrmie_dispersion.specs.Chain.{rho_dual}
use Rattle.saftvrmie_dispersion.proofs.chain.rho_dual.Goals as goal

pub returns : goal.returns
unfolding rho_dual slope_by decimal of_bits
returns g c w =
    rw (
      c.new.ensures,
      c.entered.ensures w,
    )
