-- `card_of_lists::Pairs::row` meets its contract. Assumes nothing.
use Prim.Native.Nat.{◌+◌, ◌-◌}
use mathlib.Core.Path.{◌≡◌}
use native.Mathlib.Omega.{arith}
use mathlib.Core.List.{[], ◌∷◌}
use lib.ListN.{length-set}
use Rattle.limits.specs.Limits.{square}
use Rattle.card_of_lists.specs.Cards.{pattern, pair_row}
use Rattle.card_of_lists.proofs.Values.{pair_part, row_begun, row_pair, row_end}
use borrow.Author.Rules.{rules}
use Rattle.card_of_lists.proofs.Pairs.row.Goals as goal

pub loop-j-init : goal.loop-j-init
loop-j-init c = (omega arith, omega (arith, c.requires.0), search rules, row_begun c.args.values.now c.args.at c.args.i (λ d. pattern (square c.args.self.n c.args.self.k.now c.args.i (c.args.i + 1 + d)) ∷ pattern (square c.args.self.n c.args.self.second.now c.args.i (c.args.i + 1 + d)) ∷ []))

pub loop-j-preserved : goal.loop-j-preserved
loop-j-preserved c =
    let e : c.args.i + 1 + (c.loop-j.j - c.args.i - 1) ≡ c.loop-j.j = omega (arith, c.loop-j.invariant.0) in (
      omega (arith, c.loop-j.invariant.0),
      omega (arith, c.loop-j-test.true),
      simp length-set c.loop-j.invariant.2,
      row_pair c.loop-j.values c.args.values.now c.args.at c.args.i c.loop-j.j _ _ (λ d. pattern (square c.args.self.n c.args.self.k.now c.args.i (c.args.i + 1 + d)) ∷ pattern (square c.args.self.n c.args.self.second.now c.args.i (c.args.i + 1 + d)) ∷ []) c.loop-j.invariant.0 c.loop-j.invariant.3 (omega (arith, c.loop-j-test.true, c.loop-j.invariant.0, c.loop-j.invariant.1, c.loop-j.invariant.2, c.requires.1)) (rw e (pair_part _ _ _ _ c.bits_of.ensures c.bits_of-in-loop-j.ensures)),
    )

pub returns : goal.returns
unfolding pair_row
returns c = row_end _ c.args.values.now c.args.at (c.args.self.n - 1 - c.args.i) (c.loop-j.j - c.args.i - 1) (λ d. pattern (square c.args.self.n c.args.self.k.now c.args.i (c.args.i + 1 + d)) ∷ pattern (square c.args.self.n c.args.self.second.now c.args.i (c.args.i + 1 + d)) ∷ []) (omega (arith, c.loop-j.invariant.1)) (omega (arith, c.loop-j-test.false)) c.loop-j.invariant.3
