-- `saftvrqmie_dispersion_sums::rows` meets its contract. Assumes nothing.
use borrow.Author.Rules.{rules}
use mathlib.Core.Bool.{true}
use mathlib.Core.Path.{sym}
use Rattle.number.specs.Answer.{answer_by}
use Rattle.number.proofs.Walk.{via, handed_on}
use Rattle.saftvrqmie_hard_sphere.proofs.Sums.{walked_none, walked_next, walked_stop, walked_end}
use Rattle.saftvrqmie_dispersion_sums.proofs.rows.Goals as goal

pub loop-i-init : goal.loop-i-init
loop-i-init g c = (search rules, λ f q. walked_none _ _ _ _ _ (sym (c.zero-sum.ensures true)))

pub returns-in_err-sum : goal.returns-in_err-sum
returns-in_err-sum g c f q =
    let D = g.D.DualNum in
    let t = c.loop-i.invariant.1 f q in
    rw (handed_on _ c.from_residual.ensures) (walked_stop _ _ _ _ _ _ _ _ c.loop-i-test.true t (via (answer_by (D.of true)) (q _ _ _ _ c.loop-i-test.true t.holds.begun c.row.ensures) c.in_err-sum.was))

pub loop-i-preserved : goal.loop-i-preserved
loop-i-preserved g c =
    let D = g.D.DualNum in
    let m = g.met.D.DualNum in (
      search rules,
      λ f q.
          let t = c.loop-i.invariant.1 f q in
          walked_next _ _ (m.taken_of_law true) _ _ _ _ _ t (via (answer_by (D.of true)) (q _ _ _ _ c.loop-i-test.true t.holds.begun c.row.ensures) c.in_ok-sum.was),
    )

pub returns : goal.returns
returns g c f q = walked_end _ _ _ _ _ _ _ c.loop-i.invariant.0 c.loop-i-test.false c.requires.begun (c.loop-i.invariant.1 f q)
