-- pi by a series of fractions: Machin's 16 arctan(1/5) − 4 arctan(1/239) (J. Machin, 1706), with arctan(1/m) = 1/m − 1/(3m³) + 1/(5m⁵) − ..
use Rattle.std.specs.Prelude.{ℕ, ◌+◌, ◌*◌, ◌^◌}
use Rattle.number.specs.Frac.{Frac, frac, add_f, sub_f, mul_f}
use Rattle.series.specs.Sums.{nat_f, sum_f}

-- the term 1 / (k m^k), for an odd k
abbrev pub term : ℕ → ℕ → Frac
term m k = frac 1 0 (k * m ^ k)

-- The terms fall and alternate: the first 2n of them fall short of arctan(1/m), and one more goes beyond it.
unfoldable pub arctan_low : ℕ → ℕ → Frac
arctan_low m n = sum_f n (λ i. sub_f (term m (4 * i + 1)) (term m (4 * i + 3)))

unfoldable pub arctan_high : ℕ → ℕ → Frac
arctan_high m n = add_f (arctan_low m n) (term m (4 * n + 1))

-- the bracket of pi from so many terms
unfoldable pub pi_low : ℕ → Frac
pi_low n = sub_f (mul_f (arctan_low 5 n) (nat_f 16)) (mul_f (arctan_high 239 n) (nat_f 4))

unfoldable pub pi_high : ℕ → Frac
pi_high n = sub_f (mul_f (arctan_high 5 n) (nat_f 16)) (mul_f (arctan_low 239 n) (nat_f 4))
