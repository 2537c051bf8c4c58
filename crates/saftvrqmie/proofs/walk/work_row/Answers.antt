-- `saftvrqmie::walk::work_row` meets its contract. Assumes nothing.
use mathlib.Core.Bool.{false}
use mathlib.Core.Path.{subst, ap, ◌∙◌}
use Rattle.number.specs.Arith.{whole}
use Rattle.number.proofs.Walk.{walk_none, walk_next, walk_stop, walk_end, handed_on}
use borrow.Author.Rules.{rules}
use Rattle.saftvrqmie.proofs.Store.{Worked, pair_refused, pair_held}
use Rattle.saftvrqmie.proofs.walk.work_row.Goals as goal

pub loop-j-init : goal.loop-j-init
loop-j-init g c = (search rules, walk_none _ _)

pub returns-in_err-q : goal.returns-in_err-q
returns-in_err-q g c =
    let S = g.S.PairStore in
    let D = g.S.Num.DualNum in
    let A = D.beside false in
    let w = subst (Worked A (D.functions false) (D.taken false (whole A 1)) (D.of false) _) (c.points.ensures false) c.pair_properties.ensures in
    let told = g.met.S.PairStore.properties_law _ _ w ∙ ap S.properties c.pair_at-pair.ensures in
    rw (handed_on _ c.from_residual.ensures) (walk_stop _ _ _ _ _ _ c.loop-j-test.true c.loop-j.invariant.1 (pair_refused S.kept _ _ S.read _ _ told _ c.in_err-q.was))

pub loop-j-preserved : goal.loop-j-preserved
loop-j-preserved g c =
    let S = g.S.PairStore in
    let D = g.S.Num.DualNum in
    let A = D.beside false in
    let w = subst (Worked A (D.functions false) (D.taken false (whole A 1)) (D.of false) _) (c.points.ensures false) c.pair_properties.ensures in
    let told = g.met.S.PairStore.properties_law _ _ w ∙ ap S.properties c.pair_at-pair.ensures in
    (search rules, walk_next _ _ _ _ _ c.loop-j.invariant.1 (pair_held S.kept _ _ S.read _ _ told _ _ c.in_ok-q.was c.store.ensures))

pub returns : goal.returns
returns g c = walk_end _ _ _ _ _ c.loop-j.invariant.0 c.loop-j-test.false c.loop-j.invariant.1
