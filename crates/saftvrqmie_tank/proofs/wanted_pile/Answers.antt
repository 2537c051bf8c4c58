-- `saftvrqmie_tank::wanted_pile` meets its contract. Assumes nothing.
use borrow.Author.Tests.{not-true, not-false}
use Rattle.saftvrqmie_tank.proofs.wanted_pile.Goals as goal

pub returns-then-not-wanted : goal.returns-then-not-wanted
returns-then-not-wanted g c w = rw (not-true c.args.wanted c.if-not-wanted.true-raw) (c.entered.ensures w)

pub returns : goal.returns
returns g c w = rw (not-false c.args.wanted c.if-not-wanted.false-raw) (c.piled.ensures w)
