-- `grid`, a fraction rounded in units of the format's smallest value, keeps the order. The proof is the private one of lib.Ieee.Order, copied. Assumes nothing.
use Rattle.std.proofs.Common.{ℕ, ◌+◌, ◌-◌, ◌*◌, ◌/◌, ◌%◌, ◌^◌, ◌<◌, ◌≤◌, sym, subst, inl, inr, zero-le, le_trans, le_of_eq, lt_of_le_of_lt, mul-le-mul_right, mul_assoc, eq-or-lt_of_le, mul-pos, le-div_iff_mul-le, mul_right_comm, arith, pow_pos, pow_mono, pow-add}
use Prim.Native.Nat.{compare}
use native.Mathlib.Nat.{div-div-eq-div-mul}
use lib.Ieee.{Format, prec, low, size}
use lib.Ieee.Digits.{size-lt, size-le, size_reaches}
use lib.Ieee.Fits.{kept-lt, nearest-le, two, two-le_pos}
use lib.Ieee.Nearest.{closest, closest_mono, nearest-ge, div_mono}
use lib.Ieee.Order.{drop, kept}
use lib.Ieee.Scale.{grid}

-- ---- a number's digits
pub size_mono : (a b : ℕ) → a ≤ b → size a ≤ size b
size_mono a b h = size-le a (size b) (lt_of_le_of_lt h (size-lt b))

same_drop : (k a b c d : ℕ) → 0 < b → 0 < d → a * d ≤ c * b → closest a (b * 2 ^ k) * 2 ^ k ≤ closest c (d * 2 ^ k) * 2 ^ k
same_drop k a b c d B D h =
    mul-le-mul_right (2 ^ k)
    (closest_mono a (b * 2 ^ k) c (d * 2 ^ k) (mul-pos B (pow_pos k)) (mul-pos D (pow_pos k))
    (le_trans (le_of_eq (sym (mul_assoc a d (2 ^ k)))) (le_trans (mul-le-mul_right (2 ^ k) h) (le_of_eq (mul_assoc c b (2 ^ k))))))

kept_le : (p n den : ℕ) → kept p n den ≤ 2 ^ p
kept_le p n den =
    let k = drop p n den in
    let u = den * 2 ^ k in
    le_trans (nearest-le (n / u) (compare (n % u * 2) u)) (subst (λ (x : ℕ). x < 2 ^ p) (div-div-eq-div-mul n den (2 ^ k)) (kept-lt p (n / den)))

pub all_in_use : (z p : ℕ) → 0 < p → 0 < z - p → p - 1 + (z - p) < z
all_in_use z p P h = omega arith

-- where digits are dropped, the kept number has at least p digits
kept_ge : (p n den : ℕ) → 0 < p → 0 < drop p n den → 2 ^ (p - 1) ≤ kept p n den
kept_ge p n den P K =
    let k = drop p n den in
    let u = den * 2 ^ k in
    let w = n / den in
    let a : 2 ^ (p - 1) * 2 ^ k ≤ w = le_trans (le_of_eq (sym (pow-add 2 (p - 1) k))) (size_reaches w (p - 1 + k) (all_in_use (size w) p P K)) in
    le_trans (subst (λ (x : ℕ). 2 ^ (p - 1) ≤ x) (div-div-eq-div-mul n den (2 ^ k)) ((le-div_iff_mul-le (pow_pos k)).1 a)) (nearest-ge (n / u) (compare (n % u * 2) u))

pub fewer : (x y p : ℕ) → x ≤ y → x - p ≤ y - p
fewer x y p h = omega arith

room : (p j k : ℕ) → 0 < p → j < k → p + j ≤ p - 1 + k
room p j k P h = omega arith

-- Either both drop as many digits, and then the kept numbers are in order. Or the smaller drops fewer, and then a power of two lies between the two results.
grid_mono : (p a b c d : ℕ) → 0 < p → 0 < b → 0 < d → a * d ≤ c * b → kept p a b * 2 ^ drop p a b ≤ kept p c d * 2 ^ drop p c d
grid_mono p a b c d P B D h =
    let j = drop p a b in
    let k = drop p c d in
    elim (eq-or-lt_of_le (fewer (size (a / b)) (size (c / d)) p (size_mono (a / b) (c / d) (div_mono a b c d B D h)))) [
      | inl e ↦ subst (λ (x : ℕ). closest a (b * 2 ^ x) * 2 ^ x ≤ kept p c d * 2 ^ k) (sym e) (same_drop k a b c d B D h)
      | inr l ↦
          le_trans (mul-le-mul_right (2 ^ j) (kept_le p a b))
          (le_trans (le_of_eq (sym (pow-add 2 p j)))
          (le_trans (pow_mono (room p j k P l))
          (le_trans (le_of_eq (pow-add 2 (p - 1) k)) (mul-le-mul_right (2 ^ k) (kept_ge p c d P (lt_of_le_of_lt zero-le l))))))
    ]

pub grid_le : (f : Format) (a b c d : ℕ) → 0 < b → 0 < d → a * d ≤ c * b → grid f a b ≤ grid f c d
grid_le f a b c d B D h =
    let l = 2 ^ low f in
    let x : a * l * d ≤ c * l * b = le_trans (le_of_eq (mul_right_comm a l d)) (le_trans (mul-le-mul_right l h) (le_of_eq (mul_right_comm c b l))) in
    grid_mono (prec f) (a * l) b (c * l) d (two-le_pos (prec f) (two f)) B D x
