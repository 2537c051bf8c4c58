-- `card_of_lists::stored` meets its contract. Assumes nothing.
use Prim.Native.Nat.{◌+◌, ◌*◌, ◌-◌}
use native.Mathlib.Omega.{arith}
use lib.ListN.{take}
use mathlib.Core.List.{◌++◌}
use mathlib.Core.Path.{◌≡◌, ap}
use Rattle.card.specs.Card.{number_of, size}
use Rattle.card_of_lists.specs.Cards.{pair_rows}
use Rattle.card_writer.specs.Writing.{CardRoom}
use Rattle.card_writer.proofs.Stored.{refused_verdict, refused_stored}
use Rattle.card_of_lists.proofs.Written.{many, goes}
use Rattle.card_of_lists.proofs.stored.Goals as goal

pub returns-then-pairs-gt-MOST : goal.returns-then-pairs-gt-MOST
returns-then-pairs-gt-MOST c =
    let r : CardRoom = record { card = c.args.card.now; length = c.args.told.now } in
    let s = many _ r c.if-pairs-gt-MOST.true in
    (refused_verdict r _ 10 s, ap (λ (x : CardRoom). x.card) (refused_stored r _ 10 s), ap (λ (x : CardRoom). x.length) (refused_stored r _ 10 s))

pub returns : goal.returns
returns c =
    let r : CardRoom = record { card = c.args.card.now; length = c.args.told.now } in
    let n = c.args.pairs.n in
    let start = n * size (number_of c.args.kind) in
    let d : take (start + n * (n - 1)) c.rows.new.values ≡ take start c.args.values.now ++ pair_rows n c.args.pairs.k.now c.args.pairs.second.now = rw c.size.ensures.0 at c.rows.ensures in
    let g = goes (record { kind = number_of c.args.kind; count = n; values = take start c.args.values.now ++ pair_rows n c.args.pairs.k.now c.args.pairs.second.now }) r _ start _ c.if-pairs-gt-MOST.false c.value_count-total.ensures (omega (arith, c.value_count-total.ensures)) d in
    (rw g c.store.ensures.0, rw g c.store.ensures.1, rw g c.store.ensures.2)
