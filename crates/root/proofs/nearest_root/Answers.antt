-- `nearest_root` meets its contract: the significand moved, its whole root, and the pattern. Assumes nothing.
use mathlib.Core.Path.{◌≡◌, sym, ap, ap₂, ◌∙◌}
use Prim.Native.Nat.{ℕ, ◌+◌, ◌-◌, ◌*◌, ◌/◌, ◌%◌, ◌^◌, ◌≤◌, ◌<◌}
use native.Mathlib.Nat.{mod-eq_of_lt}
use native.Mathlib.Omega.{arith}
use lib.Ieee.{binary64, of_bits}
use Rattle.root.specs.Root.{whole_root}
use Rattle.root.proofs.Align.{zeros, double, moved, zeros_few, moved_fits, moved_long, positive_is}
use Rattle.root.proofs.Pattern.{no_nan}
use Rattle.root.proofs.Whole.{digits_54}
use Rattle.root.proofs.nearest_root.Goals as goal
use Rattle.root.proofs.nearest_root.Goals.{After-whole_root-r, Start}

few : (c : Start) → (11 ≤ zeros c.args.m) × (zeros c.args.m ≤ 63)
few c = zeros_few c.args.m c.args.e c.requires.0 c.requires.1

-- the move by the count l of zeros wraps nothing
kept : (c : Start) (l : ℕ) → l ≡ zeros c.args.m → c.args.m * 2 ^ (l - 1 + (1033 + c.args.e - l) % 2) % 18446744073709551616 ≡ moved c.args.m c.args.e
kept c l h = ap (λ (x : ℕ). c.args.m * 2 ^ (x - 1 + (1033 + c.args.e - x) % 2) % 18446744073709551616) h ∙ mod-eq_of_lt (moved_fits c.args.m c.args.e c.requires.0 c.requires.1)

whole : (c : Start) → (2 ^ 53 ≤ whole_root 54 (moved c.args.m c.args.e * 2 ^ 44)) × (whole_root 54 (moved c.args.m c.args.e * 2 ^ 44) < 2 ^ 54)
whole c = digits_54 (moved c.args.m c.args.e) (moved_long c.args.m c.args.e c.requires.0 c.requires.1) (moved_fits c.args.m c.args.e c.requires.0 c.requires.1)

given : (c : After-whole_root-r) → c.whole_root-r.result ≡ whole_root 54 (moved c.args.m c.args.e * 2 ^ 44)
given c = c.whole_root-r.ensures ∙ ap (λ (z : ℕ). whole_root 54 (z * 2 ^ 44)) (kept c.before.before c.from-l.result c.from-l.ensures)

pub overflow_sub-a : goal.overflow_sub-a
overflow_sub-a c = let h = few c.before in omega (arith, h, c.from-l.ensures)

pub whole_root-r-requires : goal.whole_root-r-requires
whole_root-r-requires c = rw (kept c.before c.from-l.result c.from-l.ensures) (moved_long c.args.m c.args.e c.requires.0 c.requires.1)

pub overflow_add-result : goal.overflow_add-result
overflow_add-result c = rw (given c) (let h = whole c.before.before in omega (arith, h))

pub float_from_bits-result : goal.float_from_bits-result
float_from_bits-result c = rw (given c) (no_nan _ (let h = whole c.before.before in let k = c.requires in omega (arith, h, k)))

pub returns : goal.returns
returns c =
    ap₂ (λ (l z : ℕ). of_bits binary64 ((1033 + c.args.e - l) / 2 * 4503599627370496 + (z + 1) / 2)) c.from-l.ensures (given c)
    ∙ sym (positive_is c.args.m c.args.e c.requires.0 c.requires.1)
