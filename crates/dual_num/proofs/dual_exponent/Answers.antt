-- `dual_num::dual_exponent` meets its contract. Assumes nothing.
use Rattle.dual_num.proofs.Powers.{dual_by}
use Rattle.dual_num.proofs.dual_exponent.Goals as goal

pub returns : goal.returns
returns c = record { power = λ b. rw (c.exponent.ensures, c.exponent_inside.ensures) (dual_by b _); value = rw (c.exponent.ensures, c.exponent_inside.ensures) }
