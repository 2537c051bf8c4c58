use Prim.Native.Nat.{◌+◌, ◌/◌}
use native.Mathlib.Omega.{arith}
use lib.ListN.{length}
use Rattle.card.proofs.Reading.{filling_over, filling_none, filling_last}
use mathlib.Core.Path.{◌≡◌}
use Rattle.card.proofs.filling.Goals as goal

pub returns-then-bytes-card : goal.returns-then-bytes-card
returns-then-bytes-card c = filling_over _ _ (omega (arith, c.if-bytes-card.true, c.div_ceil-bytes.ensures))

pub returns-then-card-bytes : goal.returns-then-card-bytes
returns-then-card-bytes c = filling_none _ _ (omega (arith, c.if-card-bytes.true, c.div_ceil-bytes.ensures))

pub returns : goal.returns
returns c =
    let b : c.div_ceil-bytes.result ≡ (c.args.end + 7) / 8 = omega (arith, c.div_ceil-bytes.ensures) in
    let e : (c.args.end + 7) / 8 ≡ length c.args.card.now = omega (arith, b) in
    filling_last _ _ _ e (rw b at c.field.ensures)
