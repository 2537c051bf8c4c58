-- `logarithm::large_1p` meets its contract. Assumes nothing.
use mathlib.Core.Path.{◌≡◌, sym, ap, ◌∙◌, subst}
use mathlib.Core.Bool.{Bool, true, false}
use Prim.Native.Nat.{ℕ, ◌+◌, ◌-◌, ◌*◌, ◌%◌, ◌^◌, ◌≤◌, ◌<◌}
use native.Mathlib.Nat.{le_of_lt, sub-pos_iff_lt}
use native.Mathlib.Omega.{arith}
use lib.Dec.{T}
use lib.Pow.{pow_mono}
use Rattle.std.specs.Int.{from_bool}
use Rattle.logarithm.specs.Logarithm.{moved1p, large1p}
use Rattle.logarithm.proofs.Ranges.{one_shl, plus_lt, minus_lt, minus_pos}
use Rattle.logarithm.proofs.Signs.{minus, plus}
use Rattle.logarithm.proofs.large_1p.Goals as goal

-- 1 in units of v's last place

places : (f : ℕ) → 1021 ≤ f → 1075 - f ≤ 54
places f h = omega arith

one_le : (f : ℕ) → 1021 ≤ f → 2 ^ (1075 - f) ≤ 2 ^ 54
one_le f h = pow_mono (places f h)

-- it is more than a v with a minus
over : (s : Bool) (f : ℕ) → s ≡ true → f + 21 * from_bool s ≤ 1043 → 53 ≤ 1075 - f
over false f e h = absurd (subst T (sym e) tt)
over true f e h = omega arith

is_one : (f : ℕ) → 1021 ≤ f → (1 * 2 ^ (1075 - f)) % 2 ^ 64 ≡ 2 ^ (1075 - f)
is_one f h = one_shl (1075 - f) (places f h)

pub overflow_sub-one-then-negative : goal.overflow_sub-one-then-negative
overflow_sub-one-then-negative c =
    let a = c.args in
    let p = c.requires in
    subst (λ (x : ℕ). a.m ≤ x) (sym (is_one a.f p.0)) (le_of_lt (minus_pos (2 ^ (1075 - a.f)) a.m (pow_mono (over a.negative a.f c.if-negative.true p.1)) p.3))

pub moved_1p-requires : goal.moved_1p-requires
moved_1p-requires c =
    let a = c.args in
    let p = c.requires in
    let e = sym (is_one a.f p.0) in (
      p.0,
      omega arith,
      subst (λ (x : ℕ). 0 < x - a.m) e (sub-pos_iff_lt.1 (minus_pos (2 ^ (1075 - a.f)) a.m (pow_mono (over a.negative a.f c.if-negative.true p.1)) p.3)),
      subst (λ (x : ℕ). x - a.m < 2 ^ 55) e (minus_lt (2 ^ (1075 - a.f)) a.m (one_le a.f p.0)),
    )

pub returns-then-negative : goal.returns-then-negative
unfolding large1p
returns-then-negative c =
    let a = c.args in
    rw (minus _ c.if-negative.true) (c.moved_1p.ensures ∙ ap (λ (x : ℕ). moved1p a.f (x - a.m)) (is_one a.f c.requires.0))

pub moved_1p-requires-2 : goal.moved_1p-requires-2
moved_1p-requires-2 c =
    let a = c.args in
    let p = c.requires in
    let e = sym (is_one a.f p.0) in (
      p.0,
      omega arith,
      more a.m ((1 * 2 ^ (1075 - a.f)) % 2 ^ 64) p.2,
      subst (λ (x : ℕ). x + a.m < 2 ^ 55) e (plus_lt (2 ^ (1075 - a.f)) a.m (one_le a.f p.0) p.3),
    )
  where
    more : (m x : ℕ) → 2 ^ 52 ≤ m → 0 < x + m
    more m x h = omega arith

pub returns : goal.returns
unfolding large1p
returns c =
    let a = c.args in
    rw (plus _ c.if-negative.false) (c.moved_1p-2.ensures ∙ ap (λ (x : ℕ). moved1p a.f (x + a.m)) (is_one a.f c.requires.0))
