-- `number::if_finite` meets its contract. Assumes nothing.
use Rattle.number.specs.Ans.{◌>>=◌, demand}
use Rattle.number.specs.Answer.{if_finite}
use Rattle.number.proofs.Walk.{told}
use Rattle.number.proofs.if_finite.Goals as goal

pub returns-then-not-is_finite : goal.returns-then-not-is_finite
unfolding if_finite demand ◌>>=◌
returns-then-not-is_finite c = rw (told c.is_finite.ensures c.if-not-is_finite.true)

pub returns : goal.returns
unfolding if_finite demand ◌>>=◌
returns c = rw (told c.is_finite.ensures c.if-not-is_finite.false)
