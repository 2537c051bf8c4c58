-- `saftvrqmie_alone_ends::u_after` meets its contract. Assumes nothing.
use mathlib.Core.Bool.{true}
use Rattle.number.specs.Ans.{◌>>=◌}
use Rattle.number.specs.Answer.{answer_by}
use Rattle.number.proofs.Walk.{via, handed_on}
use Rattle.saftvrqmie_potential.specs.Potential.{potential_by}
use Rattle.saftvrqmie_alone_ends.specs.Alone.{u_after}
use Rattle.saftvrqmie_alone_ends.proofs.Derivatives.{worked_alone}
use Rattle.saftvrqmie_alone_ends.proofs.u_after.Goals as goal

pub returns-then-a-from_one : goal.returns-then-a-from_one
returns-then-a-from_one c = λ p h. worked_alone h c.args.r c.args.a.now.told c.from_one.ensures c.if-a-from_one.true (c.u_at.ensures.formula true p h)

pub returns-in_err-v : goal.returns-in_err-v
unfolding u_after ◌>>=◌
returns-in_err-v c = λ p h. rw (handed_on _ c.from_residual.ensures, via (answer_by (potential_by (λ x. x))) (c.potential_at.ensures.formula p h) c.in_err-v.was)

pub returns : goal.returns
unfolding u_after ◌>>=◌
returns c =
    λ p h. rw (
      c.after-2.ensures,
      c.after.ensures,
      via (answer_by (potential_by (λ x. x))) (c.potential_at.ensures.formula p h) c.in_ok-v.was,
    )
