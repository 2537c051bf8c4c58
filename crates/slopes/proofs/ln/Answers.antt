-- `slopes::ln` meets its contract. Assumes nothing.
use Rattle.std.proofs.Common.{rules}
use Rattle.number.proofs.Walk.{via}
use Rattle.number.specs.Answer.{answer}
use Rattle.slopes.specs.Rules.{ln_d}
use Rattle.dual.specs.Value.{dual_of}
use lib.Ieee.{of_bits}
use Rattle.number.specs.Arith.{decimal}
use Rattle.number.specs.Ans.{◌>>=◌}
use Rattle.slopes.proofs.ln.Goals as goal

pub returns-in_err-v : goal.returns-in_err-v
unfolding ln_d dual_of ◌>>=◌ decimal of_bits
returns-in_err-v c = search rules

pub returns : goal.returns
unfolding ln_d dual_of ◌>>=◌ decimal of_bits
returns c = rw (via answer c.ln.ensures c.in_ok-v.was)
