-- `interval::stepped` meets its contract. Assumes nothing.
use Rattle.interval.proofs.Near.{above_tests, below_tests, goes_up, goes_down}
use mathlib.Core.Path.{sym, ◌∙◌}
use Rattle.interval.proofs.stepped.Goals as goal

pub rising-requires : goal.rising-requires
rising-requires c = goes_up _ _ c.requires (sym c.above.ensures ∙ c.if-above.true)

pub returns-then-above : goal.returns-then-above
returns-then-above c = let t = above_tests _ _ (sym c.above.ensures ∙ c.if-above.true) in (t.0, t.1, c.rising.ensures)

pub falling-requires : goal.falling-requires
falling-requires c = goes_down _ _ c.requires (sym c.below.ensures ∙ c.if-below.true)

pub returns-then-below : goal.returns-then-below
returns-then-below c = let t = below_tests _ _ (sym c.below.ensures ∙ c.if-below.true) in (t.0, t.1, c.falling.ensures)
