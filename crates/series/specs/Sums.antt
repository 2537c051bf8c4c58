-- Powers, sums and sizes of fractions, as the series of document 01 need them.
use Rattle.std.specs.Prelude.{Bool, true, false, ℕ, zero, suc, ◌+◌, ◌-◌, ◌*◌, ◌^◌}
use Rattle.number.specs.Frac.{Frac, frac, le_f, zero_f, add_f, mul_f}

-- a whole number as a fraction
abbrev pub nat_f : ℕ → Frac
nat_f n = frac n 0 1

-- x / k
abbrev pub over_f : Frac → ℕ → Frac
over_f (frac p n d) k = frac p n (d * k)

-- the size |x|: of the two differences one is 0
abbrev pub abs_f : Frac → Frac
abs_f (frac p n d) = frac ((p - n) + (n - p)) 0 d

-- the same fraction: neither is less
abbrev pub eq_f : Frac → Frac → Type 0
eq_f x y = le_f x y × le_f y x

-- x ^ k
unfoldable pub pow_f : Frac → ℕ → Frac
pow_f x zero = nat_f 1
pow_f x (suc k) = mul_f (pow_f x k) x

-- f 0 + f 1 + .. + f (k - 1)
unfoldable pub sum_f : ℕ → (ℕ → Frac) → Frac
sum_f zero f = zero_f
sum_f (suc k) f = add_f (sum_f k f) (f k)

-- k!
unfoldable pub factorial : ℕ → ℕ
factorial zero = 1
factorial (suc k) = factorial k * suc k

-- x times 2 ^ k, and for a negative k (`true`) x over 2 ^ |k|
abbrev pub scale_f : Bool → ℕ → Frac → Frac
scale_f false k x = mul_f (nat_f (2 ^ k)) x
scale_f true k x = over_f x (2 ^ k)
