use Prim.Native.Nat.{ℕ, ◌+◌, ◌-◌, ◌*◌, ◌/◌, ◌%◌, ◌<◌, ◌^◌}
use mathlib.Core.Path.{◌≡◌, sym, ap, ◌∙◌, subst}
use mathlib.Core.Bool.{not}
use lib.Dec.{T}
use lib.Count.{count_leading_zeros}
use lib.Ieee.{binary64, of_bits, nan_bits}
use Rattle.fixed_point.specs.Pack.{packed}
use Rattle.fixed_point.proofs.Packed.{shifted, packed_no_nan}
use Rattle.fixed_point.proofs.pack.Goals as goal

-- the program's bits, with s for the sign's number and l for the zeros that it counted

abbrev bits : (s y e l : ℕ) → ℕ
bits s y e l = s * 9223372036854775808 + (e - l) * 4503599627370496 + ((y * 2 ^ l) % 2 ^ 64 / 1024 + 1) / 2

bits_are : (s t y e l : ℕ) → s ≡ t → l ≡ count_leading_zeros 64 y → 0 < y → y < 2 ^ 64 → bits s y e l ≡ t * 2 ^ 63 + (e - count_leading_zeros 64 y) * 2 ^ 52 + (y * 2 ^ count_leading_zeros 64 y / 1024 + 1) / 2
bits_are s t y e l h q p f =
    ap (λ (x : ℕ). bits x y e l) h ∙ ap (bits t y e) q ∙ ap (λ (x : ℕ). t * 9223372036854775808 + (e - count_leading_zeros 64 y) * 4503599627370496 + (x / 1024 + 1) / 2) (shifted y p f)

pub float_from_bits-result : goal.float_from_bits-result
float_from_bits-result c =
    let a = c.args in
    let p = c.requires in
    let f = c.ranges.y.fits in
    subst (λ (x : ℕ). T (not (nan_bits binary64 x))) (sym (bits_are _ _ a.y a.e _ c.from.ensures c.leading_zeros-l.ensures.value p.0 f)) (packed_no_nan a.negative a.y a.e p.0 f p.2)

pub returns : goal.returns
unfolding packed
returns c =
    let a = c.args in
    ap (of_bits binary64) (bits_are _ _ a.y a.e _ c.from.ensures c.leading_zeros-l.ensures.value c.requires.0 c.ranges.y.fits)
