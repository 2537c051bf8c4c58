-- `patterns::sample` meets its contract. Assumes nothing.
use Rattle.patterns.specs.Formulas.{sample}
use Rattle.number.proofs.Walk.{via, handed_on}
use Rattle.number.specs.Answer.{answer_by}
use Rattle.number.specs.Ans.{◌>>=◌}
use Rattle.patterns.proofs.sample.Goals as goal

pub returns-in_err-b : goal.returns-in_err-b
unfolding sample ◌>>=◌
returns-in_err-b g c w = rw (handed_on _ c.from_residual.ensures, ← c.squares.ensures w, via (answer_by _) (c.blend.ensures w) c.in_err-b.was)

pub returns : goal.returns
unfolding sample ◌>>=◌
returns g c w = rw (← c.squares.ensures w, via (answer_by _) (c.blend.ensures w) c.in_ok-b.was, c.slope.ensures w)
