-- Multiples of a power of two, and the whole numbers of units that a format holds. Assumes nothing.
use mathlib.Core.Path.{◌≡◌, refl, sym, ap, ◌∙◌, subst}
use mathlib.Core.Logic.{◌⊎◌, inl, inr}
use Prim.Native.Nat.{ℕ, suc, ◌+◌, ◌-◌, ◌*◌, ◌^◌, ◌≤◌, ◌<◌}
use native.Mathlib.Nat.{le_trans, le_of_eq, le_of_lt, lt_of_lt_of_le, lt_of_le_of_lt, lt_of_not-le, eq-or-lt_of_le, lt_irrefl, mul-sub, mul_comm, mul_assoc, mul-one, zero-mul, add-mul, mul-pos, mul-le-mul_right, le_of_mul-le-mul_right, lt_of_mul-lt-mul_right, mul-div_cancel, mul-mod_left, div-add-mod', zero-lt-suc}
use native.Mathlib.Omega.{arith}
use lib.Pow.{pow-add, pow_pos, pow_mono, shl_lt}
use lib.Ieee.{size}
use lib.Ieee.Digits.{back, size-lt, size-le}

-- 2 ^ k divides n
abbrev pub Multiple : ℕ → ℕ → Type 0
Multiple k n = (q : ℕ) × (n ≡ q * 2 ^ k)

pub mult_add : (k a b : ℕ) → Multiple k a → Multiple k b → Multiple k (a + b)
mult_add k a b (q, e) (r, g) = (q + r, let h = add-mul q r (2 ^ k) in omega arith)

pub mult_sub : (k a b : ℕ) → Multiple k a → Multiple k b → Multiple k (a - b)
mult_sub k a b (q, e) (r, g) =
    let u = 2 ^ k in
    (q - r, ap (λ (x : ℕ). x - b) e ∙ ap (λ (x : ℕ). q * u - x) g ∙ ap (λ (x : ℕ). x - r * u) (mul_comm q u) ∙ ap (λ (x : ℕ). u * q - x) (mul_comm r u) ∙ sym (mul-sub u q r) ∙ mul_comm u (q - r))

pub mult_lower : (j k n : ℕ) → j ≤ k → Multiple k n → Multiple j n
mult_lower j k n h (q, e) = (q * 2 ^ (k - j), e ∙ ap (λ (x : ℕ). q * x) (ap (λ (x : ℕ). 2 ^ x) (sym (back k j h)) ∙ pow-add 2 (k - j) j) ∙ sym (mul_assoc q (2 ^ (k - j)) (2 ^ j)))

-- a multiple below another's successor is at most that other
pub mult_le : (u x y n : ℕ) → x * u ≤ n → n < y * u + u → x * u ≤ y * u
mult_le u x y n h k = mul-le-mul_right u (under (lt_of_mul-lt-mul_right u (lt_of_le_of_lt h (subst (λ (z : ℕ). n < z) (next y u) k))))
  where
    next : (y u : ℕ) → y * u + u ≡ suc y * u
    next y u = let e = add-mul y 1 u in omega arith

    under : {a b : ℕ} → a < suc b → a ≤ b
    under h = omega arith

-- ---- a format of p digits holds n units
pub record Digits (p n : ℕ) : Type 0 where
  pub digits : ℕ
  pub places : ℕ
  pub few : digits < 2 ^ p
  pub is : n ≡ digits * 2 ^ places

module _ (p : ℕ) (P : 0 < p) where
  -- how many of a number's digits are dropped
  abbrev pub spare : ℕ → ℕ
  spare n = size n - p

  pub one_few : 1 < 2 ^ p
  one_few = lt_of_lt_of_le two (pow_mono P)
    where
      two : 1 < 2 ^ 1
      two = omega arith

  -- a multiple of 2 ^ j of at most 2 ^ p times that
  pub held : (j n : ℕ) → Multiple j n → n ≤ 2 ^ p * 2 ^ j → Digits p n
  held j n (q, e) h = go (eq-or-lt_of_le (le_of_mul-le-mul_right {k = 2 ^ j} (subst (λ (x : ℕ). x ≤ 2 ^ p * 2 ^ j) e h) (pow_pos j)))
    where
      go : (q ≡ 2 ^ p) ⊎ (q < 2 ^ p) → Digits p n
      go (inl g) =
          record {
            digits = 1;
            places = p + j;
            few = one_few;
            is = e ∙ ap (λ (x : ℕ). x * 2 ^ j) g ∙ sym (pow-add 2 p j) ∙ (let z = 2 ^ (p + j) in omega arith);
          }
      go (inr g) = record { digits = q; places = j; few = g; is = e }

  pub held_zero : Digits p 0
  held_zero = record { digits = 0; places = 0; few = pow_pos p; is = refl }

  -- what is held is a multiple of the unit of its size, and below 2 ^ p of it
  spare_le : (n : ℕ) (h : Digits p n) → spare n ≤ h.places
  spare_le n h = less (size n) p h.places (size-le n (p + h.places) (subst (λ (x : ℕ). x < 2 ^ (p + h.places)) (sym h.is) (shl_lt p h.places h.few)))
    where
      less : (z p l : ℕ) → z ≤ p + l → z - p ≤ l
      less z p l h = omega arith

  pub own_multiple : (n : ℕ) → Digits p n → Multiple (spare n) n
  own_multiple n h = mult_lower (spare n) h.places n (spare_le n h) (h.digits, h.is)

  pub below_all : (n : ℕ) → n < 2 ^ p * 2 ^ spare n
  below_all n = lt_of_lt_of_le (size-lt n) (le_trans (pow_mono (more (size n) p)) (le_of_eq (pow-add 2 p (spare n))))
    where
      more : (z p : ℕ) → z ≤ p + (z - p)
      more z p = omega arith

  pub held_twice : (n : ℕ) → Digits p n → Digits p (n + n)
  held_twice n h =
      record {
        digits = h.digits;
        places = suc h.places;
        few = h.few;
        is = twice n h.digits (2 ^ h.places) h.is ∙ ap (λ (x : ℕ). h.digits * x) (sym (double h.places));
      }
    where
      double : (k : ℕ) → 2 ^ suc k ≡ 2 ^ k + 2 ^ k
      double k = native.Mathlib.Nat.two-pow-succ k

      twice : (n q u : ℕ) → n ≡ q * u → n + n ≡ q * (u + u)
      twice n q u e = let g = native.Mathlib.Nat.mul-add q u u in omega arith
