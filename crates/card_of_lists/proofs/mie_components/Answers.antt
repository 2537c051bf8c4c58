-- `card_of_lists::mie_components` meets its contract. Assumes nothing.
use Prim.Native.Nat.{◌*◌}
use native.Mathlib.Omega.{arith}
use mathlib.Core.Path.{refl}
use lib.ListN.{length-set}
use Rattle.card.specs.Fields.{joined}
use Rattle.card_of_lists.specs.Cards.{mie_component}
use Rattle.card_of_lists.proofs.Values.{push_5, joined_next, parts_none, parts_below, parts_small, mie_part}
use borrow.Author.Rules.{rules}
use Rattle.card_of_lists.proofs.mie_components.Goals as goal

pub loop-i-init : goal.loop-i-init
loop-i-init c = (search rules, search rules, parts_none 5 (mie_component c.args.l.now.m.now c.args.l.now.sigma.now c.args.l.now.epsilon_k.now c.args.l.now.lr.now c.args.l.now.la.now) c.args.values.now)

pub loop-i-preserved : goal.loop-i-preserved
loop-i-preserved c = (omega (arith, c.loop-i-test.true), simp length-set c.loop-i.invariant.1, joined_next c.args.l.now.count 5 _ c.loop-i.i (mie_component c.args.l.now.m.now c.args.l.now.sigma.now c.args.l.now.epsilon_k.now c.args.l.now.lr.now c.args.l.now.la.now) _ _ refl (mie_part c.args.l.now.m.now c.args.l.now.sigma.now c.args.l.now.epsilon_k.now c.args.l.now.lr.now c.args.l.now.la.now c.loop-i.i _ _ _ _ _ c.bits_of.ensures c.bits_of-in-loop-i.ensures c.bits_of-in-loop-i-2.ensures c.bits_of-in-loop-i-3.ensures c.bits_of-in-loop-i-4.ensures) (push_5 c.loop-i.values (joined c.loop-i.i (mie_component c.args.l.now.m.now c.args.l.now.sigma.now c.args.l.now.epsilon_k.now c.args.l.now.lr.now c.args.l.now.la.now)) (c.loop-i.i * 5) _ _ c.loop-i.invariant.2 _ _ _ (omega (arith, parts_below c.loop-i.i c.args.l.now.count 5 c.loop-i-test.true, parts_small c.args.l.now.count 5 c.requires.1.0 (omega arith), c.loop-i.invariant.1))))
