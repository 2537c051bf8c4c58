-- `patterns::blend` meets its contract. Assumes nothing.
use Rattle.patterns.specs.Formulas.{blend}
use Rattle.number.proofs.Walk.{via, handed_on}
use Rattle.number.specs.Functions.{answered}
use Rattle.number.specs.Answer.{answer}
use Rattle.number.specs.Ans.{◌>>=◌}
use Rattle.patterns.proofs.blend.Goals as goal

pub returns-in_err-v : goal.returns-in_err-v
unfolding blend answered ◌>>=◌
returns-in_err-v g c w = rw (handed_on _ c.from_residual.ensures, ← c.re.ensures w, via answer c.sqrt.ensures c.in_err-v.was)

pub returns-then-re : goal.returns-then-re
unfolding blend answered ◌>>=◌
returns-then-re g c w =
    let m = g.met.D.DualNum in
    rw (c.after.ensures w, m.div_law w _ _ _ c.div-unused.ensures, m.add_law w _ _ _ c.add.ensures, ← c.re.ensures w, via answer c.sqrt.ensures c.in_ok-v.was, ← c.entered.ensures w, ← c.after-r.ensures w, ← c.re-2.ensures w, ← c.re-3.ensures w, c.if-re.true)

pub returns-else-re : goal.returns-else-re
unfolding blend answered ◌>>=◌
returns-else-re g c w =
    let m = g.met.D.DualNum in
    rw (c.after-else-re.ensures w, m.div_law w _ _ _ c.div-unused.ensures, m.mul_law w _ _ _ c.mul.ensures, ← c.re.ensures w, via answer c.sqrt.ensures c.in_ok-v.was, ← c.entered.ensures w, ← c.after-r.ensures w, ← c.re-2.ensures w, ← c.re-3.ensures w, c.if-re.false)
