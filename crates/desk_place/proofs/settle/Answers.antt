-- `desk_place::settle` meets its contract. Assumes nothing.
use Rattle.desk_place.proofs.Steps.{column_left, row_left, none_left, moved_on, moved_down, settled_on, settled_done}
use Rattle.mie_parameters.proofs.Laws.{inside}
use native.Mathlib.Omega.{arith}
use Rattle.desk_place.proofs.settle.Goals as goal

pub returns-then-hand : goal.returns-then-hand
returns-then-hand c =
    settled_on (record { floats = c.args.floats.now; bytes = c.args.bytes.now }) _ (column_left _ _ _ c.requires.1.1 c.requires.1.3 c.if-hand.true) (moved_on _ _ _ c.requires.1.1 c.requires.1.3 c.if-hand.true)

pub returns-then-hand-2 : goal.returns-then-hand-2
returns-then-hand-2 c =
    settled_on (record { floats = c.args.floats.now; bytes = c.args.bytes.now }) _ (row_left _ _ _ c.requires.1.1 c.requires.1.2 c.if-hand-2.true) (moved_down _ _ _ _ c.requires.1.1 c.requires.1.2 c.requires.1.3 c.if-hand.false)

pub returns : goal.returns
returns c =
    let h = inside _ _ _ c.args.hand.within in
    let a = h.row in
    let b = h.column in
    settled_done (record { floats = c.args.floats.now; bytes = c.args.bytes.now }) _
    (none_left _ _ _ _ c.requires.1.1 c.requires.1.2 c.requires.1.3 (omega (arith, a, c.if-hand-2.false)) (omega (arith, b, c.if-hand.false)))
    c.answer-worked.ensures
