-- The fractions of a positive denominator, equal ones being one: a commutative ring without divisors of zero. Assumes nothing.
use Prim.Native.Nat.{ℕ, ◌+◌, ◌-◌, ◌*◌, ◌<◌, ◌≤◌}
use native.Mathlib.Nat.{ℕ_set, eq_of_mul-eq-mul_right, lt_of_not-le, mul-pos, zero-lt-suc}
use native.Mathlib.Decide.{dec_le}
use native.Mathlib.Omega.{arith}
use mathlib.Core.HLevel.{Π_prop}
use mathlib.Core.Logic.{◌⊎◌, inl, inr}
use mathlib.Core.Path.{◌≡◌, refl, sym, ap, ◌∙◌}
use mathlib.Core.Quot.Quotient
use mathlib.Core.Quot.{Setoid, Quotient, Quotient-set}
use Rattle.number.proofs.Frac.{ring}

-- (plus − minus) / den
pub record Proper : Type 0 where
  pub plus : ℕ
  pub minus : ℕ
  pub den : ℕ
  pub positive : 0 < den

abbrev pub Equal : Proper → Proper → Type 0
Equal x y = x.plus * y.den + y.minus * x.den ≡ y.plus * x.den + x.minus * y.den

pub equal_trans : (x y z : Proper) → Equal x y → Equal y z → Equal x z
equal_trans x y z h k =
    let a = simp ring at (ap (λ (t : ℕ). t * z.den) h) in
    let b = simp ring at (ap (λ (t : ℕ). t * x.den) k) in
    eq_of_mul-eq-mul_right y.den y.positive _ _ (simp ring (omega arith))

abbrev pub equality : Setoid {0, 0} Proper
equality = record { r = Equal; iseqv = record { refl = λ x. refl; symm = λ x y h. sym h; trans = equal_trans } }

-- the rational numbers
abbrev pub Rational : Type 0
Rational = Quotient equality

abbrev pub of : Proper → Rational
of = Quotient.mk equality

abbrev pub is_set : IsSet Rational
is_set = Quotient-set equality

pub of_equal : (x y : Proper) → Equal x y → of x ≡ of y
of_equal x y h = Quotient.sound equality h

pub equal_of : (x y : Proper) → of x ≡ of y → Equal x y
equal_of x y h = Quotient.exact equality (λ a b. ℕ_set _ _) h

-- ---- the operations
abbrev pub plus_p : Proper → Proper → Proper
plus_p x y =
    record {
      plus = x.plus * y.den + y.plus * x.den;
      minus = x.minus * y.den + y.minus * x.den;
      den = x.den * y.den;
      positive = mul-pos x.positive y.positive;
    }

abbrev pub times_p : Proper → Proper → Proper
times_p x y =
    record {
      plus = x.plus * y.plus + x.minus * y.minus;
      minus = x.plus * y.minus + x.minus * y.plus;
      den = x.den * y.den;
      positive = mul-pos x.positive y.positive;
    }

abbrev pub minus_p : Proper → Proper
minus_p x = record { plus = x.minus; minus = x.plus; den = x.den; positive = x.positive }

abbrev pub whole_p : ℕ → Proper
whole_p n = record { plus = n; minus = 0; den = 1; positive = zero-lt-suc 0 }

pub plus_equal : (x y u v : Proper) → Equal x u → Equal y v → Equal (plus_p x y) (plus_p u v)
plus_equal x y u v h k =
    let a = simp ring at (ap (λ (t : ℕ). t * (y.den * v.den)) h) in
    let b = simp ring at (ap (λ (t : ℕ). t * (x.den * u.den)) k) in
    simp ring (omega arith)

pub times_equal : (x y u v : Proper) → Equal x u → Equal y v → Equal (times_p x y) (times_p u v)
times_equal x y u v h k =
    let a = simp ring at (ap (λ (t : ℕ). t * (y.plus * v.den)) h) in
    let b = simp ring at (ap (λ (t : ℕ). t * (y.minus * v.den)) h) in
    let c = simp ring at (ap (λ (t : ℕ). t * (u.plus * x.den)) k) in
    let d = simp ring at (ap (λ (t : ℕ). t * (u.minus * x.den)) k) in
    simp ring (omega arith)

pub minus_equal : (x u : Proper) → Equal x u → Equal (minus_p x) (minus_p u)
minus_equal x u h = omega arith

unfoldable pub ◌⊞◌ : Rational → Rational → Rational
◌⊞◌ = Quotient.lift₂ equality equality is_set (λ x y. of (plus_p x y)) (λ x y u v h k. of_equal _ _ (plus_equal x y u v h k))

unfoldable pub ◌⊠◌ : Rational → Rational → Rational
◌⊠◌ = Quotient.lift₂ equality equality is_set (λ x y. of (times_p x y)) (λ x y u v h k. of_equal _ _ (times_equal x y u v h k))

unfoldable pub ⊟◌ : Rational → Rational
⊟◌ = Quotient.lift equality is_set (λ x. of (minus_p x)) (λ x u h. of_equal _ _ (minus_equal x u h))

unfoldable pub whole : ℕ → Rational
whole n = of (whole_p n)

infixl 60 ◌⊞◌
infixl 70 ◌⊠◌
infix 80 ⊟◌
pub of_plus : (x y : Proper) → of (plus_p x y) ≡ of x ⊞ of y
unfolding ◌⊞◌ Quotient.lift₂
of_plus x y = refl

pub of_times : (x y : Proper) → of (times_p x y) ≡ of x ⊠ of y
unfolding ◌⊠◌ Quotient.lift₂
of_times x y = refl

pub of_minus : (x : Proper) → of (minus_p x) ≡ ⊟ of x
unfolding ⊟◌ Quotient.lift
of_minus x = refl

-- ---- an equation of rational numbers is one of fractions
by_one : (f g : Rational → Rational) → ((x : Proper) → f (of x) ≡ g (of x)) → (a : Rational) → f a ≡ g a
by_one f g h a = Quotient.ind equality {motive = λ a. f a ≡ g a} (λ a. is_set (f a) (g a)) h a

by_two : (f g : Rational → Rational → Rational) → ((x y : Proper) → f (of x) (of y) ≡ g (of x) (of y)) → (a b : Rational) → f a b ≡ g a b
by_two f g h a b = by_one (λ a. f a b) (λ a. g a b) (λ x. by_one (f (of x)) (g (of x)) (h x) b) a

by_three : (f g : Rational → Rational → Rational → Rational) → ((x y z : Proper) → f (of x) (of y) (of z) ≡ g (of x) (of y) (of z)) → (a b c : Rational) → f a b c ≡ g a b c
by_three f g h a b c = by_one (λ a. f a b c) (λ a. g a b c) (λ x. by_two (f (of x)) (g (of x)) (h x) b c) a

-- ---- the laws of a commutative ring
pub plus_comm : (a b : Rational) → a ⊞ b ≡ b ⊞ a
unfolding ◌⊞◌ Quotient.lift₂
plus_comm = by_two (λ a b. a ⊞ b) (λ a b. b ⊞ a) (λ x y. of_equal (plus_p x y) (plus_p y x) (simp ring (omega arith)))

pub times_comm : (a b : Rational) → a ⊠ b ≡ b ⊠ a
unfolding ◌⊠◌ Quotient.lift₂
times_comm = by_two (λ a b. a ⊠ b) (λ a b. b ⊠ a) (λ x y. of_equal (times_p x y) (times_p y x) (simp ring (omega arith)))

pub plus_assoc : (a b c : Rational) → a ⊞ b ⊞ c ≡ a ⊞ (b ⊞ c)
unfolding ◌⊞◌ Quotient.lift₂
plus_assoc = by_three (λ a b c. a ⊞ b ⊞ c) (λ a b c. a ⊞ (b ⊞ c)) (λ x y z. of_equal (plus_p (plus_p x y) z) (plus_p x (plus_p y z)) (simp ring (omega arith)))

pub times_assoc : (a b c : Rational) → a ⊠ b ⊠ c ≡ a ⊠ (b ⊠ c)
unfolding ◌⊠◌ Quotient.lift₂
times_assoc = by_three (λ a b c. a ⊠ b ⊠ c) (λ a b c. a ⊠ (b ⊠ c)) (λ x y z. of_equal (times_p (times_p x y) z) (times_p x (times_p y z)) (simp ring (omega arith)))

pub plus_times : (a b c : Rational) → (a ⊞ b) ⊠ c ≡ a ⊠ c ⊞ b ⊠ c
unfolding ◌⊞◌ ◌⊠◌ Quotient.lift₂
plus_times = by_three (λ a b c. (a ⊞ b) ⊠ c) (λ a b c. a ⊠ c ⊞ b ⊠ c) (λ x y z. of_equal (times_p (plus_p x y) z) (plus_p (times_p x z) (times_p y z)) (simp ring (omega arith)))

pub zero_plus : (a : Rational) → whole 0 ⊞ a ≡ a
unfolding ◌⊞◌ whole Quotient.lift₂
zero_plus = by_one (λ a. whole 0 ⊞ a) (λ a. a) (λ x. of_equal (plus_p (whole_p 0) x) x (simp ring (omega arith)))

pub zero_times : (a : Rational) → whole 0 ⊠ a ≡ whole 0
unfolding ◌⊠◌ whole Quotient.lift₂
zero_times = by_one (λ a. whole 0 ⊠ a) (λ a. whole 0) (λ x. of_equal (times_p (whole_p 0) x) (whole_p 0) (simp ring (omega arith)))

pub one_times : (a : Rational) → whole 1 ⊠ a ≡ a
unfolding ◌⊠◌ whole Quotient.lift₂
one_times = by_one (λ a. whole 1 ⊠ a) (λ a. a) (λ x. of_equal (times_p (whole_p 1) x) x (simp ring (omega arith)))

pub minus_self : (a : Rational) → a ⊞ ⊟ a ≡ whole 0
unfolding ◌⊞◌ ⊟◌ whole Quotient.lift₂ Quotient.lift
minus_self = by_one (λ a. a ⊞ ⊟ a) (λ a. whole 0) (λ x. of_equal (plus_p x (minus_p x)) (whole_p 0) (simp ring (omega arith)))

pub minus_times : (a b : Rational) → ⊟ a ⊠ b ≡ ⊟ (a ⊠ b)
unfolding ◌⊠◌ ⊟◌ Quotient.lift₂ Quotient.lift
minus_times = by_two (λ a b. ⊟ a ⊠ b) (λ a b. ⊟ (a ⊠ b)) (λ x y. of_equal (times_p (minus_p x) y) (minus_p (times_p x y)) (simp ring (omega arith)))

pub minus_plus : (a b : Rational) → ⊟ (a ⊞ b) ≡ ⊟ a ⊞ ⊟ b
unfolding ◌⊞◌ ⊟◌ Quotient.lift₂ Quotient.lift
minus_plus = by_two (λ a b. ⊟ (a ⊞ b)) (λ a b. ⊟ a ⊞ ⊟ b) (λ x y. of_equal (minus_p (plus_p x y)) (plus_p (minus_p x) (minus_p y)) (simp ring (omega arith)))

pub whole_plus : (m n : ℕ) → whole (m + n) ≡ whole m ⊞ whole n
unfolding ◌⊞◌ whole Quotient.lift₂
whole_plus m n = of_equal (whole_p (m + n)) (plus_p (whole_p m) (whole_p n)) (simp ring (omega arith))

-- ---- a factor that is not zero may be left out
by_excess : (p n : ℕ) → (p ≡ n → ⊥) → ((v : ℕ) × (0 < v) × (p ≡ n + v)) ⊎ ((v : ℕ) × (0 < v) × (n ≡ p + v))
by_excess p n h = go (dec_le p n)
  where
    go : Dec (p ≤ n) → ((v : ℕ) × (0 < v) × (p ≡ n + v)) ⊎ ((v : ℕ) × (0 < v) × (n ≡ p + v))
    go (no k) = let l = lt_of_not-le k in inl (p - n, omega arith, omega arith)
    go (yes k) = inr (n - p, omega (arith, h), omega arith)

above : (n v d q m c r l e : ℕ)
    → ((n + v) * q + n * m) * (d * e) + ((n + v) * l + n * r) * (d * c) ≡ ((n + v) * r + n * l) * (d * c) + ((n + v) * m + n * q) * (d * e)
    → (q * e + l * c) * (v * d) ≡ (r * c + m * e) * (v * d)
above n v d q m c r l e h = let k = simp ring at h in simp ring (omega arith)

below : (p v d q m c r l e : ℕ)
    → (p * q + (p + v) * m) * (d * e) + (p * l + (p + v) * r) * (d * c) ≡ (p * r + (p + v) * l) * (d * c) + (p * m + (p + v) * q) * (d * e)
    → (q * e + l * c) * (v * d) ≡ (r * c + m * e) * (v * d)
below p v d q m c r l e h = let k = simp ring at h in simp ring (omega arith)

-- not zero as a fraction
proper_zero : (x : Proper) → (of x ≡ whole 0 → ⊥) → x.plus ≡ x.minus → ⊥
unfolding whole
proper_zero x h e = h (of_equal x (whole_p 0) (omega (arith, e)))

left_out : (x y z : Proper) → (of x ≡ whole 0 → ⊥) → Equal (times_p x y) (times_p x z) → Equal y z
left_out x y z h e = go (by_excess x.plus x.minus (proper_zero x h))
  where
    go : ((v : ℕ) × (0 < v) × (x.plus ≡ x.minus + v)) ⊎ ((v : ℕ) × (0 < v) × (x.minus ≡ x.plus + v)) → Equal y z
    go (inl (v, k, p)) =
        eq_of_mul-eq-mul_right (v * x.den) (mul-pos k x.positive) _ _ (above x.minus v x.den y.plus y.minus y.den z.plus z.minus z.den (rw p at e))
    go (inr (v, k, p)) =
        eq_of_mul-eq-mul_right (v * x.den) (mul-pos k x.positive) _ _ (below x.plus v x.den y.plus y.minus y.den z.plus z.minus z.den (rw p at e))

pub times_cancel : (a b c : Rational) → (a ≡ whole 0 → ⊥) → a ⊠ b ≡ a ⊠ c → b ≡ c
unfolding ◌⊠◌ Quotient.lift₂
times_cancel a b c = Quotient.ind equality {motive = λ a. (a ≡ whole 0 → ⊥) → a ⊠ b ≡ a ⊠ c → b ≡ c} (λ a. Π_prop (λ _. Π_prop (λ _. is_set b c)))
    (λ x. Quotient.ind equality {motive = λ b. (of x ≡ whole 0 → ⊥) → of x ⊠ b ≡ of x ⊠ c → b ≡ c} (λ b. Π_prop (λ _. Π_prop (λ _. is_set b c)))
    (λ y. Quotient.ind equality {motive = λ c. (of x ≡ whole 0 → ⊥) → of x ⊠ of y ≡ of x ⊠ c → of y ≡ c} (λ c. Π_prop (λ _. Π_prop (λ _. is_set (of y) c)))
    (λ z h e. of_equal y z (left_out x y z h (equal_of (times_p x y) (times_p x z) e))) c) b) a

-- ---- further laws
pub times_plus : (a b c : Rational) → a ⊠ (b ⊞ c) ≡ a ⊠ b ⊞ a ⊠ c
times_plus a b c = rw (times_comm a (b ⊞ c), plus_times b c a, times_comm b a, times_comm c a)

pub plus_left : (a b c : Rational) → a ⊞ (b ⊞ c) ≡ b ⊞ (a ⊞ c)
plus_left a b c = sym (plus_assoc a b c) ∙ ap (λ (x : Rational). x ⊞ c) (plus_comm a b) ∙ plus_assoc b a c

pub times_left : (a b c : Rational) → a ⊠ (b ⊠ c) ≡ b ⊠ (a ⊠ c)
times_left a b c = sym (times_assoc a b c) ∙ ap (λ (x : Rational). x ⊠ c) (times_comm a b) ∙ times_assoc b a c

pub plus_zero : (a : Rational) → a ⊞ whole 0 ≡ a
plus_zero a = plus_comm a (whole 0) ∙ zero_plus a

pub times_zero : (a : Rational) → a ⊠ whole 0 ≡ whole 0
times_zero a = times_comm a (whole 0) ∙ zero_times a

pub times_one : (a : Rational) → a ⊠ whole 1 ≡ a
times_one a = times_comm a (whole 1) ∙ one_times a

pub times_minus : (a b : Rational) → a ⊠ ⊟ b ≡ ⊟ (a ⊠ b)
times_minus a b = times_comm a (⊟ b) ∙ minus_times b a ∙ ap (λ (x : Rational). ⊟ x) (times_comm b a)

-- products multiplied out, sums and products in one order
pub ruleset rational = (plus_times, times_plus, plus_assoc, plus_comm, plus_left, times_assoc, times_comm, times_left, zero_plus, plus_zero, zero_times, times_zero, one_times, times_one, minus_times, times_minus, minus_plus)

pub product_not_zero : (a b : Rational) → (a ≡ whole 0 → ⊥) → (b ≡ whole 0 → ⊥) → a ⊠ b ≡ whole 0 → ⊥
product_not_zero a b h k e = k (times_cancel a b (whole 0) h (e ∙ sym (times_zero a)))

pub one_not_zero : whole 1 ≡ whole 0 → ⊥
unfolding whole
one_not_zero e = let k = equal_of (whole_p 1) (whole_p 0) e in omega arith
