-- `logarithm::small_1p` meets its contract. Assumes nothing.
use mathlib.Core.Path.{sym, ap, ◌∙◌, subst}
use Prim.Native.Nat.{ℕ, ◌+◌, ◌-◌, ◌*◌, ◌/◌, ◌^◌, ◌≤◌, ◌<◌}
use native.Mathlib.Omega.{arith}
use mir.Facts.{Fits-bits}
use Rattle.std.specs.Int.{from_bool}
use Rattle.logarithm.specs.Logarithm.{join, small1p}
use Rattle.logarithm.proofs.Ranges.{part_of_two, two_le, asked_1p, part_small}
use Rattle.logarithm.proofs.Signs.{minus, plus}
use Rattle.logarithm.proofs.small_1p.Goals as goal

module _ (f m : ℕ) (least : 969 ≤ f) (most : f < 1021) (fit : m < 2 ^ 53) where
  abbrev sh : ℕ
  sh = 1021 - f

  one_up : 1 ≤ sh
  one_up = omega arith

  room : sh < 64
  room = omega arith

  n_lt : m * 256 < 2 ^ 61
  n_lt = omega arith

  v_lt : m * 256 / 2 ^ sh < 2 ^ 60
  v_lt = part_of_two (m * 256) (2 ^ sh) (two_le sh one_up) n_lt

  asked_plus : (5 * 2 ^ 62 ≤ 3 * (9223372036854775808 + m * 256 / 2 ^ sh)) × (5 * (9223372036854775808 + m * 256 / 2 ^ sh) ≤ 14 * 2 ^ 62) × (10 * (m * 256) ≤ 3 * (9223372036854775808 + m * 256 / 2 ^ sh)) × (5 * (m * 256) ≤ (9223372036854775808 + m * 256 / 2 ^ sh) * 2 ^ sh) × (sh < 64)
  asked_plus = asked_1p (m * 256) (9223372036854775808 + m * 256 / 2 ^ sh) sh one_up room n_lt (low (m * 256 / 2 ^ sh)) (high (m * 256 / 2 ^ sh) v_lt)
    where
      low : (v : ℕ) → 7 * 2 ^ 60 ≤ 9223372036854775808 + v
      low v = omega arith

      high : (v : ℕ) → v < 2 ^ 60 → 9223372036854775808 + v ≤ 9 * 2 ^ 60
      high v h = omega arith

  asked_minus : (5 * 2 ^ 62 ≤ 3 * (9223372036854775808 - m * 256 / 2 ^ sh)) × (5 * (9223372036854775808 - m * 256 / 2 ^ sh) ≤ 14 * 2 ^ 62) × (10 * (m * 256) ≤ 3 * (9223372036854775808 - m * 256 / 2 ^ sh)) × (5 * (m * 256) ≤ (9223372036854775808 - m * 256 / 2 ^ sh) * 2 ^ sh) × (sh < 64)
  asked_minus = asked_1p (m * 256) (9223372036854775808 - m * 256 / 2 ^ sh) sh one_up room n_lt (low (m * 256 / 2 ^ sh) v_lt) (high (m * 256 / 2 ^ sh))
    where
      low : (v : ℕ) → v < 2 ^ 60 → 7 * 2 ^ 60 ≤ 9223372036854775808 - v
      low v h = omega arith

      high : (v : ℕ) → 9223372036854775808 - v ≤ 9 * 2 ^ 60
      high v = omega arith

pub overflow_sub-v : goal.overflow_sub-v
overflow_sub-v c = omega (arith, v_lt c.args.f c.args.m c.requires.0 c.requires.1 c.requires.3)

pub core-r-requires : goal.core-r-requires
core-r-requires c = asked_minus c.args.f c.args.m c.requires.0 c.requires.1 c.requires.3

pub join-requires : goal.join-requires
join-requires c =
    let a = c.args in
    let p = c.requires in
    let k = asked_minus a.f a.m p.0 p.1 p.3 in
    (omega arith, k.4, subst (λ (x : ℕ). x / 2 ^ (1021 - a.f + 8) ≤ 2 ^ 53) (sym c.core-r.ensures) (part_small (a.m * 256) (9223372036854775808 - a.m * 256 / 2 ^ (1021 - a.f)) (1021 - a.f) k.0 k.1 k.2 k.3))

pub returns-then-negative : goal.returns-then-negative
unfolding small1p
returns-then-negative c =
    let a = c.args in
    rw (minus _ c.if-negative.true) (c.join.ensures ∙ ap (λ (x : ℕ). join 1023 (from_bool a.negative) x (1021 - a.f)) c.core-r.ensures)

pub overflow_add-v : goal.overflow_add-v
overflow_add-v c = Fits-bits 64 tt (fit (v_lt c.args.f c.args.m c.requires.0 c.requires.1 c.requires.3))
  where
    fit : {v : ℕ} → v < 2 ^ 60 → 9223372036854775808 + v < 2 ^ 64
    fit h = omega arith

pub core-r-requires-2 : goal.core-r-requires-2
core-r-requires-2 c = asked_plus c.args.f c.args.m c.requires.0 c.requires.1 c.requires.3

pub join-requires-2 : goal.join-requires-2
join-requires-2 c =
    let a = c.args in
    let p = c.requires in
    let k = asked_plus a.f a.m p.0 p.1 p.3 in
    (omega arith, k.4, subst (λ (x : ℕ). x / 2 ^ (1021 - a.f + 8) ≤ 2 ^ 53) (sym c.core-r-2.ensures) (part_small (a.m * 256) (9223372036854775808 + a.m * 256 / 2 ^ (1021 - a.f)) (1021 - a.f) k.0 k.1 k.2 k.3))

pub returns : goal.returns
unfolding small1p
returns c =
    let a = c.args in
    rw (plus _ c.if-negative.false) (c.join-2.ensures ∙ ap (λ (x : ℕ). join 1023 (from_bool a.negative) x (1021 - a.f)) c.core-r-2.ensures)
