-- `saftvrmie_dispersion::lost_slopes::whole_sum` meets its contract. Assumes nothing.
use Rattle.saftvrmie_dispersion.specs.Slope.{quotient_slope}
use Rattle.saftvrmie_dispersion.proofs.lost_slopes.whole_sum.Goals as goal

pub returns : goal.returns
unfolding quotient_slope
returns c = rw (c.add.ensures, c.mul-3.ensures, c.div-slope.ensures, c.mul-2.ensures, c.sub-top.ensures, c.times_zero.ensures, c.mul.ensures)
