-- `saftvrmie_dispersion::lost_slopes::times_quotient` meets its contract. Assumes nothing.
use lib.Ieee.{of_bits}
use mathlib.Core.Path.{ap, ◌∙◌}
use Rattle.enclosure.specs.Enclosure.{neg_e}
use Rattle.saftvrmie_dispersion.proofs.Lost.{lost_eps}
use Rattle.saftvrmie_dispersion.proofs.lost_slopes.times_quotient.Goals as goal

pub returns-then-is_lost-is_tiny : goal.returns-then-is_lost-is_tiny
unfolding of_bits
returns-then-is_lost-is_tiny c = (
  rw (c.mul-re.ensures, c.div-q.ensures, c.neg-c.ensures, c.sub.ensures, c.point.ensures),
  rw (lost_eps c.args.b _ _ _ _ (c.neg-c.ensures ∙ ap neg_e c.sub.ensures) c.div-q.ensures c.mul-x.ensures c.is_lost.ensures c.is_tiny.ensures c.if-is_lost-is_tiny.true c.lost_sum-eps.ensures, c.mul-x.ensures, c.div-q.ensures, c.neg-c.ensures, c.sub.ensures, c.point.ensures),
)

pub returns : goal.returns
unfolding of_bits
returns c = (
  rw (c.mul-re.ensures, c.div-q.ensures, c.neg-c.ensures, c.sub.ensures, c.point.ensures),
  rw (c.whole_sum-eps.ensures, c.mul-x.ensures, c.div-q.ensures, c.neg-c.ensures, c.sub.ensures, c.point.ensures),
)
