-- `enclosure::ends_of` meets its contract. Assumes nothing.
use Rattle.enclosure.specs.Ends.{ends_alone, ends_of}
use Rattle.number.specs.Ans.{held, ◌>>=◌}
use Rattle.std.proofs.Common.{rules}
use mathlib.Core.Path.{sym, ap, ◌∙◌}
use borrow.Author.Tests.{not-true, not-false}
use Rattle.enclosure.proofs.TwoEnds.{alone_7, alone_8, alone_held}
use Rattle.enclosure.proofs.ends_of.Goals as goal

pub returns-in_err-b : goal.returns-in_err-b
unfolding ends_alone ends_of ◌>>=◌
returns-in_err-b c = search rules

pub returns-then-not-is_finite : goal.returns-then-not-is_finite
returns-then-not-is_finite c = rw c.in_ok-b.was (alone_7 _ (sym c.is_finite.ensures ∙ c.if-not-is_finite.true))

pub returns-then-not-b : goal.returns-then-not-b
returns-then-not-b c =
    rw c.in_ok-b.was
    (alone_8 _ (sym c.is_finite.ensures ∙ c.if-not-is_finite.false) (not-true _ c.if-not-b.true))

pub returns : goal.returns
returns c =
    rw c.in_ok-b.was
    (ap held c.from.ensures ∙ alone_held _ (sym c.is_finite.ensures ∙ c.if-not-is_finite.false) (not-false _ c.if-not-b.false))
