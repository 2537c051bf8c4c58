-- `logarithm::far` meets its contract. Assumes nothing.
use mathlib.Core.Path.{◌≡◌, ap₂, ◌∙◌}
use Prim.Native.Nat.{ℕ, ◌+◌, ◌-◌, ◌/◌, ◌^◌, ◌≤◌, ◌<◌}
use native.Mathlib.Omega.{arith}
use mir.Facts.{Fits-bits}
use Rattle.fixed_point.specs.Pack.{packed}
use Rattle.std.specs.Int.{from_bool}
use Rattle.logarithm.specs.Logarithm.{multiple, far}
use Rattle.logarithm.proofs.Ranges.{multiple_lo, multiple_hi}
use Rattle.logarithm.proofs.Signs.{same_sign, other_sign}
use Rattle.logarithm.proofs.far.Goals as goal

-- the two parts, as the program has them

room : (a c m p : ℕ) → a ≡ m → c ≡ p → m ≤ 13000000000000000000 → p ≤ 2 ^ 53 → a + c < 2 ^ 64
room a c m p e f h k = omega arith

above : (a c m p : ℕ) → a ≡ m → c ≡ p → 2 ^ 53 + 2 ^ 51 ≤ m → p ≤ 2 ^ 53 → c < a
above a c m p e f h k = omega arith

pub overflow_add-a : goal.overflow_add-a
overflow_add-a c =
    let a = c.args in
    let p = c.requires in
    Fits-bits 64 tt (room c.multiple-a.result c.shift_right-c.result (multiple a.k) (a.r / 2 ^ (a.sh + 8)) c.multiple-a.ensures c.shift_right-c.ensures (multiple_hi a.k p.1) p.3)

pub pack-requires : goal.pack-requires
pack-requires c =
    let a = c.args in
    let p = c.requires in
    let h = above c.multiple-a.result c.shift_right-c.result (multiple a.k) (a.r / 2 ^ (a.sh + 8)) c.multiple-a.ensures c.shift_right-c.ensures (multiple_lo a.k p.0) p.3 in
    (omega arith, omega arith, omega arith)

pub returns-then-r_negative-k_negative : goal.returns-then-r_negative-k_negative
unfolding far
returns-then-r_negative-k_negative c =
    let a = c.args in
    rw (same_sign _ _ c.if-r_negative-k_negative.true)
    (c.pack.ensures ∙ ap₂ (λ (x y : ℕ). packed (from_bool a.k_negative) (x + y) 1031) c.multiple-a.ensures c.shift_right-c.ensures)

pub overflow_sub-a : goal.overflow_sub-a
overflow_sub-a c =
    let a = c.args in
    let p = c.requires in
    let h = above c.multiple-a.result c.shift_right-c.result (multiple a.k) (a.r / 2 ^ (a.sh + 8)) c.multiple-a.ensures c.shift_right-c.ensures (multiple_lo a.k p.0) p.3 in
    omega arith

pub pack-requires-2 : goal.pack-requires-2
pack-requires-2 c =
    let a = c.args in
    let p = c.requires in
    let h = above c.multiple-a.result c.shift_right-c.result (multiple a.k) (a.r / 2 ^ (a.sh + 8)) c.multiple-a.ensures c.shift_right-c.ensures (multiple_lo a.k p.0) p.3 in
    (omega arith, omega arith, omega arith)

pub returns : goal.returns
unfolding far
returns c =
    let a = c.args in
    rw (other_sign _ _ c.if-r_negative-k_negative.false)
    (c.pack-2.ensures ∙ ap₂ (λ (x y : ℕ). packed (from_bool a.k_negative) (x - y) 1031) c.multiple-a.ensures c.shift_right-c.ensures)
