-- 'Distance: at most 2^−48 of the exact value; for `tanh`, 2^−48 itself', with b for 2^48.
use Rattle.std.specs.Prelude.{ℕ}
use Rattle.number.specs.Frac.{Frac, le_f, sub_f, mul_f}
use Rattle.series.specs.Sums.{nat_f, abs_f}

-- b |r - v| ≤ |v|: r is within 1 / b of v, as a part of v
abbrev pub within : ℕ → Frac → Frac → Type 0
within b r v = le_f (mul_f (nat_f b) (abs_f (sub_f r v))) (abs_f v)

-- b |r - v| ≤ 1: r is within 1 / b of v
abbrev pub near : ℕ → Frac → Frac → Type 0
near b r v = le_f (mul_f (nat_f b) (abs_f (sub_f r v))) (nat_f 1)
