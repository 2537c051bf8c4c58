-- `logarithm::join` meets its contract. Assumes nothing.
use borrow.Author.Tests.{eq-eqb, ne_eqb, lt-ltb, le-ltb}
use Rattle.logarithm.specs.Logarithm.{join}
use Rattle.logarithm.proofs.join.Goals as goal

pub returns-then-r-eq0 : goal.returns-then-r-eq0
unfolding join
returns-then-r-eq0 c = rw (eq-eqb _ _ c.if-k-eq1023.true, eq-eqb _ _ c.if-r-eq0.true)

pub returns-then-k-eq1023 : goal.returns-then-k-eq1023
unfolding join
returns-then-k-eq1023 c = rw (eq-eqb _ _ c.if-k-eq1023.true, ne_eqb _ _ c.if-r-eq0.false) c.pack.ensures

pub returns-then-k-lt1023 : goal.returns-then-k-lt1023
unfolding join
returns-then-k-lt1023 c = rw (ne_eqb _ _ c.if-k-eq1023.false, lt-ltb _ _ c.if-k-lt1023.true) c.far.ensures

pub returns : goal.returns
unfolding join
returns c = rw (ne_eqb _ _ c.if-k-eq1023.false, le-ltb _ _ c.if-k-lt1023.false) c.far-2.ensures
