-- `saftvrmie_diameter::lower_integratal_limit` meets its contract. Assumes nothing.
use Rattle.saftvrmie_diameter.specs.Diameter.{lower_limit}
use lib.Ieee.{of_bits}
use mathlib.Core.Bool.{true}
use Rattle.number.specs.Arith.{decimal}
use Rattle.number.specs.Answer.{answer}
use Rattle.number.specs.Functions.{answered}
use Rattle.number.proofs.Walk.{via, handed_on}
use Rattle.saftvrmie_diameter.proofs.Staged.{ln_epsilon}
use Rattle.number.specs.Ans.{◌>>=◌}
use Rattle.saftvrmie_diameter.proofs.lower_integratal_limit.Goals as goal

pub returns-in_err-k : goal.returns-in_err-k
unfolding lower_limit answered ◌>>=◌ decimal of_bits
returns-in_err-k c = rw (handed_on _ c.from_residual.ensures, ln_epsilon, via answer c.ln.ensures c.in_err-k.was)

pub returns-in_err-r : goal.returns-in_err-r
unfolding lower_limit answered ◌>>=◌ decimal of_bits
returns-in_err-r c = rw (handed_on _ c.from_residual-in_err-r.ensures, ln_epsilon, via answer c.ln.ensures c.in_ok-k.was, via answer c.exp.ensures c.in_err-r.was)

pub halley-requires : goal.halley-requires
halley-requires c = c.exponents_of.ensures true

pub returns : goal.returns
unfolding lower_limit answered ◌>>=◌ decimal of_bits
returns c = rw (ln_epsilon, via answer c.ln.ensures c.in_ok-k.was, via answer c.exp.ensures c.in_ok-r.was, c.halley.ensures)
