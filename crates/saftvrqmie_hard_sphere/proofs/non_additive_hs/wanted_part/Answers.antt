-- `saftvrqmie_hard_sphere::non_additive_hs::wanted_part` meets its contract. Assumes nothing.
use mathlib.Core.Bool.{true≢false}
use mathlib.Core.Path.{sym, ◌∙◌}
use borrow.Author.Tests.{not-true, not-false}
use Rattle.saftvrqmie_hard_sphere.proofs.non_additive_hs.wanted_part.Goals as goal

pub returns-then-not-wanted : goal.returns-then-not-wanted
returns-then-not-wanted g c = record {
  part = λ w q. rw (not-true c.args.wanted c.if-not-wanted.true-raw) (c.zero.ensures w);
  unwanted = λ w h. c.zero.ensures w;
}

pub returns : goal.returns
returns g c = record {
  part = λ w q. rw (not-false c.args.wanted c.if-not-wanted.false-raw) (c.non_additive.ensures w q);
  unwanted = λ w h. absurd (true≢false (sym (not-false c.args.wanted c.if-not-wanted.false-raw) ∙ h));
}
