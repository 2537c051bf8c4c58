-- `card_lists::column` meets its contract. Assumes nothing.
use Prim.Native.Nat.{◌+◌, ◌*◌, ◌<◌}
use native.Mathlib.Omega.{arith}
use mathlib.Core.Path.{◌≡◌}
use lib.ListN.{length, length-set, replicate}
use Rattle.card_lists.specs.Lists.{number_at, column}
use Rattle.sizes.specs.Sizes.{side}
use Rattle.card_lists.proofs.Lists.{fill_none, fill_next}
use Rattle.number.specs.Arith.{zero64}
use borrow.Author.Rules.{rules}
use Rattle.card_lists.proofs.column.Goals as goal

pub loop-i-init : goal.loop-i-init
loop-i-init c = (search rules, search rules, fill_none (λ i. number_at c.args.values.now (i * c.args.size + c.args.e)) (replicate side zero64))

pub loop-i-preserved : goal.loop-i-preserved
loop-i-preserved c = let g : c.loop-i.i < length c.loop-i.list = omega arith in (search rules, simp length-set c.loop-i.invariant.1, fill_next (λ i. number_at c.args.values.now (i * c.args.size + c.args.e)) c.loop-i.list c.loop-i.i _ g c.loop-i.invariant.2 c.of_bits.ensures)

pub returns : goal.returns
unfolding column
returns c = let e : ◌≡◌ c.loop-i.i c.args.n = omega arith in rw e at c.loop-i.invariant.2
