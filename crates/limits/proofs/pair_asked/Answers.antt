-- `limits::pair_asked` meets its contract. Assumes nothing.
use Rattle.number.specs.Ans.{◌>>=◌, demand}
use Rattle.number.proofs.Walk.{told}
use Rattle.limits.specs.Limits.{pair_asked}
use Rattle.limits.proofs.Asked.{on_sheet}
use Rattle.limits.proofs.pair_asked.Goals as goal

pub returns-then-not-index_within-clause-asked : goal.returns-then-not-index_within-clause-asked
unfolding pair_asked demand ◌>>=◌
returns-then-not-index_within-clause-asked c = rw (told c.index_within.ensures c.if-not-index_within.true)

pub returns-then-not-temperature_within-clause-asked : goal.returns-then-not-temperature_within-clause-asked
unfolding pair_asked demand ◌>>=◌
returns-then-not-temperature_within-clause-asked c = rw (told c.index_within.ensures c.if-not-index_within.false, told c.temperature_within.ensures c.if-not-temperature_within.true)

pub returns-clause-asked : goal.returns-clause-asked
unfolding pair_asked demand ◌>>=◌
returns-clause-asked c = rw (told c.index_within.ensures c.if-not-index_within.false, told c.temperature_within.ensures c.if-not-temperature_within.false)

pub returns-clause-inside : goal.returns-clause-inside
returns-clause-inside c = on_sheet _ _ _ (told c.index_within.ensures c.if-not-index_within.false)
