-- `card_of_lists::Pairs::rows` meets its contract. Assumes nothing.
use Prim.Native.Nat.{◌+◌, ◌*◌, ◌-◌}
use native.Mathlib.Omega.{arith}
use mathlib.Core.Path.{◌≡◌}
use Rattle.card_lists.specs.Lists.{pairs_before}
use Rattle.card_lists.proofs.Lists.{before_none, before_next, before_within, before_all}
use Rattle.card_of_lists.specs.Cards.{pair_row, pair_rows}
use Rattle.card_of_lists.proofs.Values.{rows_none, rows_next, pairs_small}
use borrow.Author.Rules.{rules}
use Rattle.card_of_lists.proofs.Pairs.rows.Goals as goal

pub overflow_mul-pairs_before : goal.overflow_mul-pairs_before
overflow_mul-pairs_before c = omega (arith, c.pairs_before.ensures, before_within c.args.self.n c.loop-i.i c.loop-i.invariant.0, pairs_small c.args.self.n c.requires.1.0, c.requires.0)

pub overflow_add-start : goal.overflow_add-start
overflow_add-start c = omega (arith, c.pairs_before.ensures, before_within c.args.self.n c.loop-i.i c.loop-i.invariant.0, pairs_small c.args.self.n c.requires.1.0, c.requires.0)

pub row-requires : goal.row-requires
row-requires c =
    let e = c.pairs_before.ensures in
    let w = before_within c.args.self.n (c.loop-i.i + 1) (omega (arith, c.loop-i-test.true)) in
    let x = before_next c.args.self.n c.loop-i.i in
    (search rules, omega (arith, e, w, x, pairs_small c.args.self.n c.requires.1.0, c.requires.0), search rules)

pub loop-i-init : goal.loop-i-init
loop-i-init c =
    let e : c.args.start + 2 * pairs_before c.args.self.n 0 ≡ c.args.start = omega (arith, before_none c.args.self.n) in
    (search rules, search rules, rw e (rows_none c.args.values.now c.args.start (pair_row c.args.self.n c.args.self.k.now c.args.self.second.now)))

pub loop-i-preserved : goal.loop-i-preserved
loop-i-preserved c =
    let e : c.args.start + 2 * pairs_before c.args.self.n (c.loop-i.i + 1) ≡ c.args.start + 2 * c.pairs_before.result + 2 * (c.args.self.n - 1 - c.loop-i.i) = omega (arith, c.pairs_before.ensures, before_next c.args.self.n c.loop-i.i) in
    (omega (arith, c.loop-i-test.true), omega (arith, c.loop-i.invariant.1), rw e (rows_next c.loop-i.values _ c.args.values.now (c.args.start + 2 * c.pairs_before.result) _ c.args.start c.loop-i.i (pair_row c.args.self.n c.args.self.k.now c.args.self.second.now) (rw (← c.pairs_before.ensures) at c.loop-i.invariant.2) c.row.ensures))

pub returns : goal.returns
unfolding pair_rows
returns c =
    let d : c.loop-i.i ≡ c.args.self.n = omega (arith, c.loop-i.invariant.0, c.loop-i-test.false) in
    rw (d, before_all c.args.self.n) at c.loop-i.invariant.2
