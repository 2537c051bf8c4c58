-- `logarithm::reduced` meets its contract. Assumes nothing.
use borrow.Author.Tests.{lt-ltb, le-ltb}
use Rattle.logarithm.specs.Logarithm.{reduced}
use Rattle.logarithm.proofs.reduced.Goals as goal

pub returns-then-m-lt12297829382473034411 : goal.returns-then-m-lt12297829382473034411
unfolding reduced
returns-then-m-lt12297829382473034411 c = rw (lt-ltb _ _ c.if-m-lt12297829382473034411.true) c.signed.ensures

pub returns : goal.returns
unfolding reduced
returns c = rw (le-ltb _ _ c.if-m-lt12297829382473034411.false) c.signed-2.ensures
