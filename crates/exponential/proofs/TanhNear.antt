-- tanh's distance from document 01's values for an argument of at least 2 ^ -17 in size: the quotient of the core's numbers. Assumes nothing.
use mathlib.Core.Path.{◌≡◌, sym, ap, ◌∙◌, subst}
use mathlib.Core.Bool.{Bool, true, false, true≢false}
use Prim.Native.Nat.{ℕ, ◌+◌, ◌-◌, ◌*◌, ◌/◌, ◌^◌, ◌≤◌, ◌<◌}
use native.Mathlib.Nat.{add_comm, add-mul, mul_assoc, mul_comm, mul-zero, zero-mul, one-mul, mul-one, add-zero, zero-add, le_refl, le_trans, le_of_eq, le_of_lt, le_dest, lt_of_not-le, add-le-add, mul-pos, mul-le-mul_left, mul-le-mul_right, mul-lt-mul_of_pos_right, le_of_mul-le-mul_right, div-mul-le_self, lt-div-mul-add, div-le_of_le-mul}
use native.Mathlib.Decide.{dec_le}
use native.Mathlib.Omega.{arith}
use lib.Dec.{lit<, lit≤}
use borrow.Author.Tests.{lt-ltb, le-ltb}
use lib.Pow.{pow_pos, pow-add, pow_mono}
use lib.Ieee.{Float, nan, inf, fin, up, down, binary64, add, sub, sum, div, round, neg}
use lib.Ieee.Back.{round_whole}
use lib.Ieee.Exact.{HasValue}
use lib.Ieee.Fits.{down_pos}
use lib.Ieee.Scale.{grid, round_same}
use Rattle.number.specs.Frac.{Frac, frac, Pos, le_f, neg_f, add_f, sub_f, mul_f, div_f, inv_f, val_f}
use Rattle.number.proofs.Frac.{ring, le_trans_f, add_mono_f, neg_anti_f, neg_f_pos}
use Rattle.number.proofs.Hull.{inv_above}
use Rattle.series.specs.Sums.{nat_f, abs_f, eq_f}
use Rattle.series.specs.Distance.{near}
use Rattle.series.proofs.Close.{Close, value_finite}
use Rattle.series.proofs.Fractions.{eq_trans_f}
use Rattle.exponential.specs.Raise.{significand_of}
use Rattle.exponential.specs.Tanh.{exp_part, one_part, tanh_ratio_of}
use Rattle.exponential.proofs.Digits.{significand_lo, significand_hi}
use Rattle.exponential.proofs.Bounds.{Bound, bound_eq, sub_pos, scaled}
use Rattle.exponential.proofs.Value.{abs_le}
use Rattle.exponential.proofs.RaiseNear.{Bracket, value_of}
use Rattle.exponential.proofs.TanhPart.{small_part}
use Rattle.exponential.proofs.Rounded.{whole, whole_is, quotient_is, rounded_value, rounded_lo, rounded_hi}

-- ---- the distance, from a bound of the difference
pub near_of : (r x s t : Frac) → Pos s → Pos t → eq_f r s → eq_f x t → Bound (sub_f s t) (frac 1 0 (2 ^ 48)) → near (2 ^ 48) r x
near_of r x s t S T₁ p q b =
    le_trans_f (mul_f (nat_f (2 ^ 48)) (abs_f (sub_f r x))) (mul_f (nat_f (2 ^ 48)) (frac 1 0 (2 ^ 48))) (nat_f 1) (lit< tt)
    (scaled (2 ^ 48) 1 (abs_f (sub_f r x)) (frac 1 0 (2 ^ 48)) (abs_le (sub_f r x) (frac 1 0 (2 ^ 48))
    (bound_eq (sub_f s t) (sub_f r x) (frac 1 0 (2 ^ 48)) (sub_pos s t S T₁) (add_mono_f r s (neg_f x) (neg_f t) p.0 (neg_anti_f t x q.1), add_mono_f s r (neg_f t) (neg_f x) p.1 (neg_anti_f x t q.0)) b)))
    (lit≤ tt)

-- the size of a difference does not know its sign
near_turned : (r x s t : Frac) → Pos s → Pos t → eq_f (neg_f r) s → eq_f (neg_f x) t → Bound (sub_f s t) (frac 1 0 (2 ^ 48)) → near (2 ^ 48) r x
near_turned r x s t S T₁ p q b = near_of r x (neg_f s) (neg_f t) (neg_f_pos s S) (neg_f_pos t T₁) (turn r s p) (turn x t q) (flip s t b)
  where
    turn : (x y : Frac) → eq_f (neg_f x) y → eq_f x (neg_f y)
    turn (frac p n d) (frac q m c) h = (neg_anti_f (frac q m c) (frac n p d) h.1, neg_anti_f (frac n p d) (frac q m c) h.0)

    flip : (s t : Frac) → Bound (sub_f s t) (frac 1 0 (2 ^ 48)) → Bound (sub_f (neg_f s) (neg_f t)) (frac 1 0 (2 ^ 48))
    flip (frac p n d) (frac q m c) h = (h.1, h.0)

-- ---- the difference and the sum of whole numbers in f64
-- the size of one in units of both: a is m up e, D both denominators
in_units : (m e a d : ℕ) → m * 1 ≡ a * e → m * d ≡ a * (e * d)
in_units m e a d h = ap (λ (x : ℕ). x * d) (sym (mul-one m) ∙ h) ∙ mul_assoc a e d

in_units_too : (n d b e : ℕ) → n * 1 ≡ b * d → n * e ≡ b * (e * d)
in_units_too n d b e h = ap (λ (x : ℕ). x * e) (sym (mul-one n) ∙ h) ∙ mul_assoc b d e ∙ ap (λ (x : ℕ). b * x) (mul_comm d e)

sum_is : (x y : Float) (a b : ℕ) → HasValue x false a 1 → HasValue y false b 1 → add binary64 x y ≡ round binary64 false (a + b) 1
unfolding add sum
sum_is nan y a b h k = absurd h
sum_is (inf s) y a b h k = absurd h
sum_is (fin true m e) y a b h k = absurd (true≢false h.0)
sum_is (fin false m e) nan a b h k = absurd k
sum_is (fin false m e) (inf s) a b h k = absurd k
sum_is (fin false m e) (fin true n d) a b h k = absurd (true≢false k.0)
sum_is (fin false m e) (fin false n d) a b h k = rw (in_units (m * up e) (down e) a (down d) h.1, in_units_too (n * up d) (down d) b (down e) k.1) (round_same binary64 false (a * (down e * down d) + b * (down e * down d)) (down e * down d) (a + b) 1 (mul-pos (down_pos e) (down_pos d)) (lit< tt) (go (down e * down d)))
  where
    go : (c : ℕ) → (a * c + b * c) * 1 ≡ (a + b) * c
    go c = mul-one (a * c + b * c) ∙ sym (add-mul a b c)

-- a - b, not below 0
pub plus_is : (x y : Float) (t b : ℕ) → HasValue x false (b + t) 1 → HasValue y false b 1 → sub binary64 x y ≡ round binary64 false t 1
unfolding sub add neg sum
plus_is nan y t b h k = absurd h
plus_is (inf s) y t b h k = absurd h
plus_is (fin true m e) y t b h k = absurd (true≢false h.0)
plus_is (fin false m e) nan t b h k = absurd k
plus_is (fin false m e) (inf s) t b h k = absurd k
plus_is (fin false m e) (fin true n d) t b h k = absurd (true≢false k.0)
plus_is (fin false m e) (fin false n d) t b h k = rw (in_units (m * up e) (down e) (b + t) (down d) h.1, in_units_too (n * up d) (down d) b (down e) k.1, le-ltb ((b + t) * (down e * down d)) (b * (down e * down d)) (mul-le-mul_right (down e * down d) (more b t))) (round_same binary64 false ((b + t) * (down e * down d) - b * (down e * down d)) (down e * down d) t 1 (mul-pos (down_pos e) (down_pos d)) (lit< tt) (go (down e * down d)))
  where
    more : (b t : ℕ) → b ≤ b + t
    more b t = omega arith

    go : (c : ℕ) → ((b + t) * c - b * c) * 1 ≡ t * c
    go c = lin ((b + t) * c) (b * c) (t * c) (add-mul b t c)
      where
        lin : (x y z : ℕ) → x ≡ y + z → (x - y) * 1 ≡ z
        lin x y z e = omega arith

-- and below 0
pub minus_is : (x y : Float) (t a : ℕ) → 0 < t → HasValue x false a 1 → HasValue y false (a + t) 1 → sub binary64 x y ≡ round binary64 true t 1
unfolding sub add neg sum
minus_is nan y t a T₁ h k = absurd h
minus_is (inf s) y t a T₁ h k = absurd h
minus_is (fin true m e) y t a T₁ h k = absurd (true≢false h.0)
minus_is (fin false m e) nan t a T₁ h k = absurd k
minus_is (fin false m e) (inf s) t a T₁ h k = absurd k
minus_is (fin false m e) (fin true n d) t a T₁ h k = absurd (true≢false k.0)
minus_is (fin false m e) (fin false n d) t a T₁ h k = rw (in_units (m * up e) (down e) a (down d) h.1, in_units_too (n * up d) (down d) (a + t) (down e) k.1, lt-ltb (a * (down e * down d)) ((a + t) * (down e * down d)) (mul-lt-mul_of_pos_right {k = down e * down d} (more a t T₁) (mul-pos (down_pos e) (down_pos d)))) (round_same binary64 true ((a + t) * (down e * down d) - a * (down e * down d)) (down e * down d) t 1 (mul-pos (down_pos e) (down_pos d)) (lit< tt) (go (down e * down d)))
  where
    more : (a t : ℕ) → 0 < t → a < a + t
    more a t h = omega arith

    go : (c : ℕ) → ((a + t) * c - a * c) * 1 ≡ t * c
    go c = lin ((a + t) * c) (a * c) (t * c) (add-mul a t c)
      where
        lin : (x y z : ℕ) → x ≡ y + z → (x - y) * 1 ≡ z
        lin x y z e = omega arith

-- the quotient of two whole numbers, at most 1: in units of 2 ^ -52
module _ (a b : ℕ) (P : 0 < b) (ratio : a ≤ b) where
  abbrev k : ℕ
  k = a * 2 ^ 52 / b

  k_le : k ≤ 2 ^ 52
  k_le = div-le_of_le-mul b (mul-le-mul_right (2 ^ 52) ratio)

  k_lo : k * b ≤ a * 2 ^ 52
  k_lo = div-mul-le_self (a * 2 ^ 52) b

  k_hi : a * 2 ^ 52 ≤ (k + 1) * b
  k_hi = le_trans (le_of_lt (lt-div-mul-add {a = a * 2 ^ 52} {b = b} P)) (le_of_eq (more k b))
    where
      more : (x g : ℕ) → x * g + g ≡ (x + 1) * g
      more x g = simp (add-mul, one-mul)

  less : k + 1 < 2 ^ 53
  less = go k k_le
    where
      go : (k : ℕ) → k ≤ 2 ^ 52 → k + 1 < 2 ^ 53
      go k h = omega arith

  turn : (k b p : ℕ) → k * p * b ≡ k * b * p
  turn k b p = simp (mul_assoc, mul_comm)

  lo : k * 2 ^ 1022 * b ≤ a * 2 ^ 1074
  lo = le_trans (le_of_eq (turn k b (2 ^ 1022))) (le_trans (mul-le-mul_right (2 ^ 1022) k_lo) (le_of_eq (mul_assoc a (2 ^ 52) (2 ^ 1022))))

  hi : a * 2 ^ 1074 ≤ (k + 1) * 2 ^ 1022 * b
  hi = le_trans (le_of_eq (sym (mul_assoc a (2 ^ 52) (2 ^ 1022)))) (le_trans (mul-le-mul_right (2 ^ 1022) k_hi) (le_of_eq (sym (turn (k + 1) b (2 ^ 1022)))))

  abbrev z : ℕ
  z = grid binary64 a b

  signed_value : (s : Bool) → HasValue (round binary64 s a b) s z (2 ^ 1074)
  signed_value s = rounded_value a b k 1022 P less (lit≤ tt) lo hi s

  r_lo : k * 2 ^ 1074 ≤ z * 2 ^ 52
  r_lo = le_trans (le_of_eq (sym (mul_assoc k (2 ^ 1022) (2 ^ 52)))) (mul-le-mul_right (2 ^ 52) (rounded_lo a b k 1022 P less (lit≤ tt) lo hi))

  r_hi : z * 2 ^ 52 ≤ (k + 1) * 2 ^ 1074
  r_hi = le_trans (mul-le-mul_right (2 ^ 52) (rounded_hi a b k 1022 P less (lit≤ tt) lo hi)) (le_of_eq (mul_assoc (k + 1) (2 ^ 1022) (2 ^ 52)))

-- ---- z / C against (α - β) / S, on plain numbers
bound_up_nums : (α β S z C k : ℕ) → z * 2 ^ 52 * S ≤ (k + 1) * C * S → (k * S + 2 ^ 52 * β) * C ≤ (2 ^ 52 * α + 13 * S) * C → le_f (sub_f (frac z 0 C) (frac α β S)) (frac 1 0 (2 ^ 48))
bound_up_nums α β S z C k u t =
    let u' = simp (ring, one-mul) at u in
    let t' = simp ring at t in
    simp (ring, one-mul, zero-mul, add-zero, zero-add) (omega arith)

bound_down_nums : (α β S z C k : ℕ) → k * C * S ≤ z * 2 ^ 52 * S → 2 ^ 52 * α * C ≤ ((k + 1) * S + 2 ^ 52 * β + 13 * S) * C → le_f (neg_f (sub_f (frac z 0 C) (frac α β S))) (frac 1 0 (2 ^ 48))
bound_down_nums α β S z C k l t =
    let l' = simp ring at l in
    let t' = simp (ring, one-mul) at t in
    simp (ring, one-mul, zero-mul, add-zero, zero-add) (omega arith)

-- ---- the true quotient (α - β) / (α + β) against a / b: both parts near, in units of 4096 ω
abbrev Ratio : ℕ → ℕ → ℕ → ℕ → ℕ → Type 0
Ratio α β ω a b = (4096 * a * ω + β ≤ α + 10604 * ω) × (α ≤ β + 4096 * a * ω + 10604 * ω) × (4096 * b * ω ≤ α + β + 14700 * ω) × (α + β ≤ 4096 * b * ω + 14700 * ω)

module _ (α β ω a b k : ℕ) (least : 2 ^ 51 ≤ b) (r : Ratio α β ω a b) (l : k * b ≤ a * 2 ^ 52) (u : a * 2 ^ 52 ≤ (k + 1) * b) (h : k ≤ 2 ^ 52) where
  -- k times the sum against the difference, in units of 2 ^ -52
  times_up : k * (α + β) + 2 ^ 52 * β ≤ 2 ^ 52 * α + 25310 * (2 ^ 52 * ω)
  times_up = go α β ω a b k r.0 (mul-le-mul_left k r.3) (mul-le-mul_right ω l) (mul-le-mul_right ω h)
    where
      go : (α β ω a b y : ℕ) → 4096 * a * ω + β ≤ α + 10604 * ω → y * (α + β) ≤ y * (4096 * b * ω + 14700 * ω) → y * b * ω ≤ a * 2 ^ 52 * ω → y * ω ≤ 2 ^ 52 * ω → y * (α + β) + 2 ^ 52 * β ≤ 2 ^ 52 * α + 25310 * (2 ^ 52 * ω)
      go α β ω a b y h i j k =
          let h' = simp ring at h in
          let i' = simp ring at i in
          let j' = simp ring at j in
          simp ring (omega arith)

  times_down : 2 ^ 52 * α ≤ (k + 1) * (α + β) + 2 ^ 52 * β + 25310 * (2 ^ 52 * ω)
  times_down = go α β ω a b (k + 1) r.1 (mul-le-mul_left (k + 1) r.2) (mul-le-mul_right ω u) (mul-le-mul_right ω (more k h))
    where
      more : (k : ℕ) → k ≤ 2 ^ 52 → k + 1 ≤ 2 ^ 52 + 1
      more k h = omega arith

      go : (α β ω a b y : ℕ) → α ≤ β + 4096 * a * ω + 10604 * ω → y * (4096 * b * ω) ≤ y * (α + β + 14700 * ω) → a * 2 ^ 52 * ω ≤ y * b * ω → y * ω ≤ (2 ^ 52 + 1) * ω → 2 ^ 52 * α ≤ y * (α + β) + 2 ^ 52 * β + 25310 * (2 ^ 52 * ω)
      go α β ω a b y h i j k =
          let h' = simp ring at h in
          let i' = simp ring at i in
          let j' = simp ring at j in
          simp ring (omega arith)

  -- the errors are at most 13 / 2 ^ 52
  errors : 25310 * (2 ^ 52 * ω) ≤ 13 * (α + β)
  errors = lin (α + β) ω (4096 * b * ω) r.2 (mul-le-mul_right ω (mul-le-mul_left 4096 least))
    where
      lin : (s ω x : ℕ) → x ≤ s + 14700 * ω → 4096 * 2 ^ 51 * ω ≤ x → 25310 * (2 ^ 52 * ω) ≤ 13 * s
      lin s ω x h k = omega arith

  ratio_bound : (z C : ℕ) → k * C ≤ z * 2 ^ 52 → z * 2 ^ 52 ≤ (k + 1) * C → Bound (sub_f (frac z 0 C) (frac α β (α + β))) (frac 1 0 (2 ^ 48))
  ratio_bound z C l u = (
    bound_up_nums α β (α + β) z C k (mul-le-mul_right (α + β) u) (mul-le-mul_right C (le_trans times_up (add-le-add (le_refl (2 ^ 52 * α)) errors))),
    bound_down_nums α β (α + β) z C k (mul-le-mul_right (α + β) l) (mul-le-mul_right C (le_trans times_down (add-le-add (le_refl ((k + 1) * (α + β) + 2 ^ 52 * β)) errors))),
  )

-- ---- document 01's value: e = P / d gives (P - d) / (P + d)
inverse_is : (n P d : ℕ) → 0 < d → inv_f (add_f (frac (n + P) n d) (nat_f 1)) ≡ frac (d * 1) 0 (P + d)
inverse_is n P d D = inv_above ((n + P) * 1 + 1 * d) (n * 1 + 0 * d) (d * 1) (less n P d D) ∙ ap (λ (x : ℕ). frac (d * 1) 0 x) (apart n P d)
  where
    less : (n P d : ℕ) → 0 < d → n * 1 + 0 * d < (n + P) * 1 + 1 * d
    less n P d h = omega arith

    apart : (n P d : ℕ) → (n + P) * 1 + 1 * d - (n * 1 + 0 * d) ≡ P + d
    apart n P d = omega arith

ratio_is : (n P d : ℕ) → 0 < d → eq_f (div_f (sub_f (frac (n + P) n d) (nat_f 1)) (add_f (frac (n + P) n d) (nat_f 1))) (frac P d (P + d))
ratio_is n P d D = subst (λ (i : Frac). eq_f (mul_f (sub_f (frac (n + P) n d) (nat_f 1)) i) (frac P d (P + d))) (sym (inverse_is n P d D)) (one n P d, two n P d)
  where
    one : (n P d : ℕ) → le_f (mul_f (sub_f (frac (n + P) n d) (nat_f 1)) (frac (d * 1) 0 (P + d))) (frac P d (P + d))
    one n P d = simp (ring, one-mul, mul-one, mul-zero, zero-mul, add-zero, zero-add) (omega arith)

    two : (n P d : ℕ) → le_f (frac P d (P + d)) (mul_f (sub_f (frac (n + P) n d) (nat_f 1)) (frac (d * 1) 0 (P + d)))
    two n P d = simp (ring, one-mul, mul-one, mul-zero, zero-mul, add-zero, zero-add) (omega arith)

-- both parts C times
scale_is : (a b C : ℕ) → eq_f (frac a b (a + b)) (frac (a * C) (b * C) (a * C + b * C))
scale_is a b C = (one a b C, two a b C)
  where
    one : (a b C : ℕ) → le_f (frac a b (a + b)) (frac (a * C) (b * C) (a * C + b * C))
    one a b C = simp ring (omega arith)

    two : (a b C : ℕ) → le_f (frac (a * C) (b * C) (a * C + b * C)) (frac a b (a + b))
    two a b C = simp ring (omega arith)

-- positive denominators
pub some_of : (P d : ℕ) → 0 < d → 0 < P + d
some_of P d h = omega arith

quotient_pos : (n P d : ℕ) → 0 < d → Pos (div_f (sub_f (frac (n + P) n d) (nat_f 1)) (add_f (frac (n + P) n d) (nat_f 1)))
quotient_pos n P d D = subst (λ (i : Frac). Pos (mul_f (sub_f (frac (n + P) n d) (nat_f 1)) i)) (sym (inverse_is n P d D)) (mul-pos (mul-pos D (lit< tt)) (some_of P d D))

-- every value of tanh for this e, and with both parts C times
pub value_is : (n P d : ℕ) (x : Frac) → 0 < d → eq_f x (div_f (sub_f (frac (n + P) n d) (nat_f 1)) (add_f (frac (n + P) n d) (nat_f 1))) → eq_f x (frac P d (P + d))
value_is n P d x D s = eq_trans_f x (div_f (sub_f (frac (n + P) n d) (nat_f 1)) (add_f (frac (n + P) n d) (nat_f 1))) (frac P d (P + d)) (quotient_pos n P d D) s (ratio_is n P d D)

value_scaled : (n P d C : ℕ) (x : Frac) → 0 < d → eq_f x (div_f (sub_f (frac (n + P) n d) (nat_f 1)) (add_f (frac (n + P) n d) (nat_f 1))) → eq_f x (frac (P * C) (d * C) (P * C + d * C))
value_scaled n P d C x D s = eq_trans_f x (frac P d (P + d)) (frac (P * C) (d * C) (P * C + d * C)) (some_of P d D) (value_is n P d x D s) (scale_is P d C)

-- ---- the core's numbers: X Y / C is near e, C being 2 ^ 1086
module _ (X Y C n P d : ℕ) (l : le_f (frac (X * Y) (5856 * Y) C) (frac (n + P) n d)) (u : le_f (frac (n + P) n d) (frac ((X + 652 + 5856) * Y) 0 C)) where
  part_low : X * (Y * d) ≤ P * C + 5856 * (Y * d)
  part_low = go X Y C n P d l
    where
      go : (X Y C n P d : ℕ) → X * Y * d + n * C ≤ (n + P) * C + 5856 * Y * d → X * (Y * d) ≤ P * C + 5856 * (Y * d)
      go X Y C n P d h = let k = simp ring at h in simp ring (omega arith)

  part_high : P * C ≤ X * (Y * d) + 6508 * (Y * d)
  part_high = go X Y C n P d u
    where
      go : (X Y C n P d : ℕ) → (n + P) * C + 0 * d ≤ (X + 652 + 5856) * Y * d + n * C → P * C ≤ X * (Y * d) + 6508 * (Y * d)
      go X Y C n P d h = let k = simp (ring, zero-mul, add-zero) at h in simp ring (omega arith)

-- what is not below a positive number
pub positive : (X h C p n d : ℕ) → h ≤ X → 0 < C → le_f (frac X h C) (frac p n d) → n ≤ p
positive X h C p n d i k l = le_of_mul-le-mul_right {k = C} (lin (X * d) (h * d) (n * C) (p * C) l (mul-le-mul_right d i)) k
  where
    lin : (x h n p : ℕ) → x + n ≤ p + h → h ≤ x → n ≤ p
    lin x h n p k l = omega arith

-- ---- the f64 quotient of two whole numbers e and o against (α - β) / (α + β), α and β being e and o in units of 4096 ω
abbrev Parts : ℕ → ℕ → ℕ → ℕ → ℕ → Type 0
Parts α β ω e o = (4096 * e * ω ≤ α + 5856 * ω) × (α ≤ 4096 * e * ω + 10604 * ω) × (4096 * o * ω ≤ β) × (β ≤ 4096 * o * ω + 4096 * ω)

plus_ratio : (α β ω t o : ℕ) → Parts α β ω (o + t) o → Ratio α β ω t (o + t + o)
plus_ratio α β ω t o (a, b, c, d) =
    let a' = simp ring at a in
    let b' = simp ring at b in
    let c' = simp ring at c in
    let d' = simp ring at d in
    (simp ring (omega arith), simp ring (omega arith), simp ring (omega arith), simp ring (omega arith))

minus_ratio : (α β ω t e : ℕ) → Parts α β ω e (e + t) → Ratio β α ω t (e + (e + t))
minus_ratio α β ω t e (a, b, c, d) =
    let a' = simp ring at a in
    let b' = simp ring at b in
    let c' = simp ring at c in
    let d' = simp ring at d in
    (simp ring (omega arith), simp ring (omega arith), simp ring (omega arith), simp ring (omega arith))

module _ (α β ω t b : ℕ) (x : Frac) (some : 0 < α + β) (least : 2 ^ 51 ≤ b) (ratio : t ≤ b) (r : Ratio α β ω t b) where
  positive_b : 0 < b
  positive_b = le_trans (lit≤ tt) least

  abbrev Z : ℕ
  Z = z t b positive_b ratio

  bounded : Bound (sub_f (frac Z 0 (2 ^ 1074)) (frac α β (α + β))) (frac 1 0 (2 ^ 48))
  bounded = ratio_bound α β ω t b (k t b positive_b ratio) least r (k_lo t b positive_b ratio) (k_hi t b positive_b ratio) (k_le t b positive_b ratio) Z (2 ^ 1074) (r_lo t b positive_b ratio) (r_hi t b positive_b ratio)

  near_plus : eq_f x (frac α β (α + β)) → Close (near (2 ^ 48)) (round binary64 false t b) x
  near_plus e = (value_finite (round binary64 false t b) false Z (2 ^ 1074) (signed_value t b positive_b ratio false), near_of (val_f (round binary64 false t b)) x (frac Z 0 (2 ^ 1074)) (frac α β (α + β)) (pow_pos 1074) some (value_of (round binary64 false t b) false Z (2 ^ 1074) (pow_pos 1074) (signed_value t b positive_b ratio false)) e bounded)

  near_minus : eq_f (neg_f x) (frac α β (α + β)) → Close (near (2 ^ 48)) (round binary64 true t b) x
  near_minus e = (value_finite (round binary64 true t b) true Z (2 ^ 1074) (signed_value t b positive_b ratio true), near_turned (val_f (round binary64 true t b)) x (frac Z 0 (2 ^ 1074)) (frac α β (α + β)) (pow_pos 1074) some (flip (val_f (round binary64 true t b)) Z (value_of (round binary64 true t b) true Z (2 ^ 1074) (pow_pos 1074) (signed_value t b positive_b ratio true))) e bounded)
    where
      flip : (x : Frac) (z : ℕ) → eq_f x (frac 0 z (2 ^ 1074)) → eq_f (neg_f x) (frac z 0 (2 ^ 1074))
      flip x z h = (neg_anti_f (frac 0 z (2 ^ 1074)) x h.1, neg_anti_f x (frac 0 z (2 ^ 1074)) h.0)

abbrev pub ratio_of : ℕ → ℕ → Float
ratio_of e o = div binary64 (sub binary64 (whole e) (whole o)) (add binary64 (whole e) (whole o))

-- what the f64 operations give, by the sign
pub ratio_signed : (s : Bool) (e o t : ℕ) → e ≤ 2 ^ 52 → o ≤ 2 ^ 52 → t ≤ 2 ^ 53 → 0 < e + o → sub binary64 (whole e) (whole o) ≡ round binary64 s t 1 → ratio_of e o ≡ round binary64 s t (e + o)
ratio_signed s e o t h k l P d =
    let X = whole_is e (le_trans h (lit≤ tt)) in
    let Y = whole_is o (le_trans k (lit≤ tt)) in
    subst (λ (n : ℕ). ratio_of e o ≡ round binary64 s t n) (one-mul (e + o)) (quotient_is s (sub binary64 (whole e) (whole o)) (add binary64 (whole e) (whole o)) t 1 (e + o) (lit< tt) P
    (subst (λ (y : Float). HasValue y s t 1) (sym d) (round_whole binary64 s t l))
    (subst (λ (y : Float). HasValue y false (e + o) 1) (sym (sum_is (whole e) (whole o) e o X Y)) (round_whole binary64 false (e + o) (double e o h k))))
  where
    double : (x y : ℕ) → x ≤ 2 ^ 52 → y ≤ 2 ^ 52 → x + y ≤ 2 ^ 53
    double x y h k = omega arith

module _ (α β ω e o : ℕ) (x : Frac) (some : 0 < α + β) (value : eq_f x (frac α β (α + β))) (e-le : e ≤ 2 ^ 52) (o-le : o ≤ 2 ^ 52) (least : 2 ^ 51 ≤ e + o) (p : Parts α β ω e o) where
  ratio_near : Close (near (2 ^ 48)) (ratio_of e o) x
  ratio_near = go (dec_le o e)
    where
      back : (e o : ℕ) → o ≤ e → o + (e - o) ≡ e
      back e o h = omega arith

      wide : (e o : ℕ) → e ≤ 2 ^ 52 → e - o ≤ 2 ^ 53
      wide e o h = omega arith

      less : (e o : ℕ) → e - o ≤ e + o
      less e o = omega arith

      positive_sum : 0 < e + o
      positive_sum = le_trans (lit≤ tt) least

      go : Dec (o ≤ e) → Close (near (2 ^ 48)) (ratio_of e o) x
      go (yes h) =
          let X = whole_is e (le_trans e-le (lit≤ tt)) in
          let Y = whole_is o (le_trans o-le (lit≤ tt)) in
          subst (λ (y : Float). Close (near (2 ^ 48)) y x) (sym (ratio_signed false e o (e - o) e-le o-le (wide e o e-le) positive_sum (plus_is (whole e) (whole o) (e - o) o (subst (λ (n : ℕ). HasValue (whole e) false n 1) (sym (back e o h)) X) Y)))
          (near_plus α β ω (e - o) (e + o) x some least (less e o) (subst (λ (n : ℕ). Ratio α β ω (e - o) (n + o)) (back e o h) (plus_ratio α β ω (e - o) o (subst (λ (n : ℕ). Parts α β ω n o) (sym (back e o h)) p))) value)
      go (no h) =
          let l = lt_of_not-le h in
          let X = whole_is e (le_trans e-le (lit≤ tt)) in
          let Y = whole_is o (le_trans o-le (lit≤ tt)) in
          subst (λ (y : Float). Close (near (2 ^ 48)) y x) (sym (ratio_signed true e o (o - e) e-le o-le (wide o e o-le) positive_sum (minus_is (whole e) (whole o) (o - e) e (apart e o l) X (subst (λ (n : ℕ). HasValue (whole o) false n 1) (sym (back o e (le_of_lt l))) Y))))
          (near_minus β α ω (o - e) (e + o) x (subst (λ (n : ℕ). 0 < n) (add_comm α β) some) least (under e o) (subst (λ (n : ℕ). Ratio β α ω (o - e) (e + n)) (back o e (le_of_lt l)) (minus_ratio α β ω (o - e) e (subst (λ (n : ℕ). Parts α β ω e n) (sym (back o e (le_of_lt l))) p)))
          (subst (λ (n : ℕ). eq_f (neg_f x) (frac β α n)) (add_comm α β) (neg_anti_f (frac α β (α + β)) x value.1, neg_anti_f x (frac α β (α + β)) value.0)))
        where
          apart : (e o : ℕ) → e < o → 0 < o - e
          apart e o h = omega arith

          under : (e o : ℕ) → o - e ≤ e + o
          under e o = omega arith

-- ---- the law, for an exponent w: either part is moved to the unit 2 ^ 1023, or 2 to the whole part of w above 1023
module _ (w : ℕ) where
  abbrev X : ℕ
  X = significand_of w

  abbrev q : ℕ
  q = w / 2 ^ 53

  abbrev G : ℕ
  G = 2 ^ (q + (1023 - q))

  e_unit : 2 ^ (1023 - q) * 2 ^ q ≡ G
  e_unit = mul_comm (2 ^ (1023 - q)) (2 ^ q) ∙ sym (pow-add 2 q (1023 - q))

  o_unit : 2 ^ (q - 1023) * 2 ^ 1023 ≡ G
  o_unit = sym (pow-add 2 (q - 1023) 1023) ∙ ap (λ (n : ℕ). 2 ^ n) (lin q)
    where
      lin : (q : ℕ) → q - 1023 + 1023 ≡ q + (1023 - q)
      lin q = omega arith

  -- n / 2 ^ i, in the unit G = 2 ^ i 2 ^ j
  floor_lo : (n i j g : ℕ) → 2 ^ i * j ≡ g → n / 2 ^ i * g ≤ n * j
  floor_lo n i j g e = le_trans (le_of_eq (ap (λ (x : ℕ). n / 2 ^ i * x) (sym e) ∙ sym (mul_assoc (n / 2 ^ i) (2 ^ i) j))) (mul-le-mul_right j (div-mul-le_self n (2 ^ i)))

  floor_hi : (n i j g : ℕ) → 2 ^ i * j ≡ g → n * j ≤ (n / 2 ^ i + 1) * g
  floor_hi n i j g e = le_trans (mul-le-mul_right j (le_trans (le_of_lt (lt-div-mul-add {a = n} {b = 2 ^ i} (pow_pos i))) (le_of_eq (more (n / 2 ^ i) (2 ^ i))))) (le_of_eq (mul_assoc (n / 2 ^ i + 1) (2 ^ i) j ∙ ap (λ (x : ℕ). (n / 2 ^ i + 1) * x) e))
    where
      more : (x g : ℕ) → x * g + g ≡ (x + 1) * g
      more x g = simp (add-mul, one-mul)

  unit_le : 2 ^ q ≤ G
  unit_le = pow_mono (lin q)
    where
      lin : (q : ℕ) → q ≤ q + (1023 - q)
      lin q = omega arith

  sum_least : 2 ^ 51 ≤ exp_part w + one_part w
  sum_least = go (dec_le 1023 q)
    where
      none : (q : ℕ) → 1023 ≤ q → 1023 - q ≡ 0
      none q h = omega arith

      under : (q : ℕ) → (1023 ≤ q → ⊥) → q - 1023 ≡ 0
      under q h = omega arith

      first : (X o : ℕ) → 2 ^ 63 ≤ X → 2 ^ 51 ≤ X / 1 / 4096 + o
      first X o h = omega arith

      second : (e : ℕ) → 2 ^ 51 ≤ e + 2 ^ 63 / 1 / 4096
      second e = omega arith

      go : Dec (1023 ≤ q) → 2 ^ 51 ≤ exp_part w + one_part w
      go (yes h) = subst (λ (n : ℕ). 2 ^ 51 ≤ X / 2 ^ n / 4096 + one_part w) (sym (none q h)) (first X (one_part w) (significand_lo w))
      go (no h) = subst (λ (n : ℕ). 2 ^ 51 ≤ exp_part w + 2 ^ 63 / 2 ^ n / 4096) (sym (under q h)) (second (exp_part w))

  parts : (P d : ℕ) → X * (2 ^ q * d) ≤ P * 2 ^ 1086 + 5856 * (2 ^ q * d) → P * 2 ^ 1086 ≤ X * (2 ^ q * d) + 6508 * (2 ^ q * d) → Parts (P * 2 ^ 1086) (d * 2 ^ 1086) (G * d) (exp_part w) (one_part w)
  parts P d l u = (
    e_low (X / 2 ^ (1023 - q)) (X * (2 ^ q * d)) (P * 2 ^ 1086) (2 ^ q * d) (G * d) (times (X / 2 ^ (1023 - q)) G X (2 ^ q) (floor_lo X (1023 - q) (2 ^ q) G e_unit)) l v,
    e_high (X / 2 ^ (1023 - q)) (X * (2 ^ q * d)) (P * 2 ^ 1086) (2 ^ q * d) (G * d) (times X (2 ^ q) (X / 2 ^ (1023 - q) + 1) G (floor_hi X (1023 - q) (2 ^ q) G e_unit)) u v,
    o_low (2 ^ 63 / 2 ^ (q - 1023)) (d * 2 ^ 1086) (G * d) (le_trans (times (2 ^ 63 / 2 ^ (q - 1023)) G (2 ^ 63) (2 ^ 1023) (floor_lo (2 ^ 63) (q - 1023) (2 ^ 1023) G o_unit)) (le_of_eq (one d))),
    o_high (2 ^ 63 / 2 ^ (q - 1023)) (d * 2 ^ 1086) (G * d) (le_trans (le_of_eq (sym (one d))) (times (2 ^ 63) (2 ^ 1023) (2 ^ 63 / 2 ^ (q - 1023) + 1) G (floor_hi (2 ^ 63) (q - 1023) (2 ^ 1023) G o_unit))),
  )
    where
      v : 2 ^ q * d ≤ G * d
      v = mul-le-mul_right d unit_le

      times : (a b c e : ℕ) → a * b ≤ c * e → a * (b * d) ≤ c * (e * d)
      times a b c e h = le_trans (le_of_eq (sym (mul_assoc a b d))) (le_trans (mul-le-mul_right d h) (le_of_eq (mul_assoc c e d)))

      one : (d : ℕ) → 2 ^ 63 * (2 ^ 1023 * d) ≡ d * 2 ^ 1086
      one d = sym (mul_assoc (2 ^ 63) (2 ^ 1023) d) ∙ mul_comm (2 ^ 1086) d

      cut_lo : (E ω : ℕ) → 4096 * (E / 4096) * ω ≤ E * ω
      cut_lo E ω = mul-le-mul_right ω (lin E)
        where
          lin : (E : ℕ) → 4096 * (E / 4096) ≤ E
          lin E = omega arith

      cut_hi : (E ω : ℕ) → (E + 1) * ω ≤ 4096 * (E / 4096) * ω + 4096 * ω
      cut_hi E ω = le_trans (mul-le-mul_right ω (lin E)) (le_of_eq (add-mul (4096 * (E / 4096)) 4096 ω))
        where
          lin : (E : ℕ) → E + 1 ≤ 4096 * (E / 4096) + 4096
          lin E = omega arith

      e_low : (E x α v ω : ℕ) → E * ω ≤ x → x ≤ α + 5856 * v → v ≤ ω → 4096 * (E / 4096) * ω ≤ α + 5856 * ω
      e_low E x α v ω h k l = lin (4096 * (E / 4096) * ω) (E * ω) x α v ω (cut_lo E ω) h k l
        where
          lin : (c e x α v ω : ℕ) → c ≤ e → e ≤ x → x ≤ α + 5856 * v → v ≤ ω → c ≤ α + 5856 * ω
          lin c e x α v ω a b d e' = omega arith

      e_high : (E x α v ω : ℕ) → x ≤ (E + 1) * ω → α ≤ x + 6508 * v → v ≤ ω → α ≤ 4096 * (E / 4096) * ω + 10604 * ω
      e_high E x α v ω h k l = lin (4096 * (E / 4096) * ω) ((E + 1) * ω) x α v ω (cut_hi E ω) h k l
        where
          lin : (c e x α v ω : ℕ) → e ≤ c + 4096 * ω → x ≤ e → α ≤ x + 6508 * v → v ≤ ω → α ≤ c + 10604 * ω
          lin c e x α v ω a b d e' = omega arith

      o_low : (O β ω : ℕ) → O * ω ≤ β → 4096 * (O / 4096) * ω ≤ β
      o_low O β ω h = le_trans (cut_lo O ω) h

      o_high : (O β ω : ℕ) → β ≤ (O + 1) * ω → β ≤ 4096 * (O / 4096) * ω + 4096 * ω
      o_high O β ω h = le_trans h (cut_hi O ω)

  pub tanh_near : (e x : Frac) → Pos e → Bracket w 242 e → eq_f x (div_f (sub_f e (nat_f 1)) (add_f e (nat_f 1))) → Close (near (2 ^ 48)) (tanh_ratio_of w) x
  unfolding tanh_ratio_of
  tanh_near (frac p n d) x E b s = go (le_dest (positive (X * 2 ^ q) (5856 * 2 ^ q) (2 ^ 1086) p n d (mul-le-mul_right (2 ^ q) (le_trans (lit≤ tt) (significand_lo w))) (pow_pos 1086) b.0))
    where
      at : (P : ℕ) → Bracket w 242 (frac (n + P) n d) → eq_f x (div_f (sub_f (frac (n + P) n d) (nat_f 1)) (add_f (frac (n + P) n d) (nat_f 1))) → Close (near (2 ^ 48)) (ratio_of (exp_part w) (one_part w)) x
      at P b s =
          let Y = 2 ^ q in
          let C = 2 ^ 1086 in
          ratio_near (P * C) (d * C) (G * d) (exp_part w) (one_part w) x (some_of (P * C) (d * C) (mul-pos E (pow_pos 1086))) (value_scaled n P d C x E s) (small_part X (1023 - q) (significand_hi w)) (small_part (2 ^ 63) (q - 1023) (lit< tt)) sum_least
          (parts P d (part_low X Y C n P d b.0 b.1) (part_high X Y C n P d b.0 b.1))

      go : (P : ℕ) × (n + P ≡ p) → Close (near (2 ^ 48)) (ratio_of (exp_part w) (one_part w)) x
      go (P, i) = at P (subst (λ (p : ℕ). Bracket w 242 (frac p n d)) (sym i) b) (subst (λ (p : ℕ). eq_f x (div_f (sub_f (frac p n d) (nat_f 1)) (add_f (frac p n d) (nat_f 1)))) (sym i) s)
