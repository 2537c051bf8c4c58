-- `card_lists::orders` meets its contract. Assumes nothing.
use Prim.Native.Nat.{◌+◌, ◌*◌, ◌%◌, ◌<◌}
use native.Mathlib.Omega.{arith}
use mathlib.Core.Path.{◌≡◌, refl}
use lib.ListN.{length, get_or, length-set, replicate}
use Rattle.card_lists.specs.Lists.{orders}
use Rattle.sizes.specs.Sizes.{side}
use Rattle.card_lists.proofs.Lists.{fill_none, fill_next}
use borrow.Author.Rules.{rules}
use Rattle.card_lists.proofs.orders.Goals as goal

pub loop-i-init : goal.loop-i-init
loop-i-init c = (search rules, search rules, fill_none (λ i. get_or c.args.values.now (i * 6 + 5) 0 % 4) (replicate side 0))

pub loop-i-preserved : goal.loop-i-preserved
loop-i-preserved c = let g : c.loop-i.i < length c.loop-i.list = omega arith in (search rules, simp length-set c.loop-i.invariant.1, fill_next (λ i. get_or c.args.values.now (i * 6 + 5) 0 % 4) c.loop-i.list c.loop-i.i _ g c.loop-i.invariant.2 refl)

pub returns : goal.returns
unfolding orders
returns c = let e : ◌≡◌ c.loop-i.i c.args.n = omega arith in rw e at c.loop-i.invariant.2
