-- `desk::begin` meets its contract. Assumes nothing.
use Rattle.desk.proofs.Ways.{begun_1, begun_is}
use mathlib.Core.Path.{refl, ap, ◌∙◌}
use Rattle.number.proofs.Walk.{told}
use Rattle.desk.proofs.Shelf.{desk_right}
use native.Mathlib.Omega.{arith}
use lib.ListN.{replicate}
use Prim.Native.Nat.{ℕ}
use Rattle.desk.proofs.begin.Goals as goal

pub returns-then-not-right_desk : goal.returns-then-not-right_desk
returns-then-not-right_desk c = begun_1 (record { floats = c.args.floats.now; bytes = c.args.bytes.now }) (told c.right_desk.ensures c.if-not-right_desk.true)

pub bounds-bytes-2368 : goal.bounds-bytes-2368
bounds-bytes-2368 c = let r = (desk_right (record { floats = c.args.floats.now; bytes = c.args.bytes.now }) (told c.right_desk.ensures c.if-not-right_desk.false)).bytes in omega (arith, r)

pub returns : goal.returns
returns c =
    let h = told c.right_desk.ensures c.if-not-right_desk.false in
    let r = (desk_right (record { floats = c.args.floats.now; bytes = c.args.bytes.now }) h).bytes in
    let z : ℕ = 0 in
    begun_is (record { floats = c.args.floats.now; bytes = c.args.bytes.now }) _ _ h refl (c.fill.ensures.after (λ y e. e) ∙ ap (λ (n : ℕ). replicate n z) r)
