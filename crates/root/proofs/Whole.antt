-- The whole root is the largest number whose square is at most n, and the corrections reach it. Assumes nothing.
use mathlib.Core.Path.{◌≡◌, subst}
use mathlib.Core.Bool.{Bool, true, false, not, cond}
use Prim.Native.Nat.{ℕ, zero, suc, ◌+◌, ◌-◌, ◌*◌, ◌/◌, ◌^◌, ◌≤◌, ◌<◌}
use native.Mathlib.Nat.{le_trans, le_of_eq, le_antisymm, lt_of_le_of_lt, mul-le-mul_right, mul-lt-mul_of_pos_right, add-sub_of_le, pow-succ'}
use native.Mathlib.Omega.{arith}
use lib.Dec.{T, leb, leb→le, nleb→lt}
use Rattle.number.proofs.Frac.{ring}
use Rattle.root.specs.Root.{whole_root}
use Rattle.root.proofs.Square.{root_lt}

-- r is the whole root of n
abbrev pub Whole : ℕ → ℕ → Type 0
Whole r n = (r * r ≤ n) × (n < (r + 1) * (r + 1))

pub whole_unique : (r s n : ℕ) → Whole r n → Whole s n → r ≡ s
whole_unique r s n a b = le_antisymm (lin r s (root_lt r (s + 1) (lt_of_le_of_lt a.0 b.1))) (lin s r (root_lt s (r + 1) (lt_of_le_of_lt b.0 a.1)))
  where
    lin : (r s : ℕ) → r < s + 1 → r ≤ s
    lin r s h = omega arith

pub whole_root_is : (k n : ℕ) → n < 4 ^ k → Whole (whole_root k n) n
unfolding whole_root
whole_root_is zero n h = (omega arith, omega arith)
whole_root_is (suc k) n h =
    go (whole_root k (n / 4)) (whole_root_is k (n / 4) (quarter n (4 ^ k) (subst (λ (z : ℕ). n < z) (pow-succ' 4 k) h)))
    (leb ((2 * whole_root k (n / 4) + 1) * (2 * whole_root k (n / 4) + 1)) n) (leb→le ((2 * whole_root k (n / 4) + 1) * (2 * whole_root k (n / 4) + 1)) n) (nleb→lt ((2 * whole_root k (n / 4) + 1) * (2 * whole_root k (n / 4) + 1)) n)
  where
    quarter : (n p : ℕ) → n < 4 * p → n / 4 < p
    quarter n p h = omega arith

    low : (r n : ℕ) → r * r ≤ n / 4 → 2 * r * (2 * r) ≤ n
    low r n h = let e : 2 * r * (2 * r) ≡ 4 * (r * r) = simp ring (omega arith) in omega arith

    high : (r n : ℕ) → n / 4 < (r + 1) * (r + 1) → n < (2 * r + 1 + 1) * (2 * r + 1 + 1)
    high r n h =
        let e : (2 * r + 1 + 1) * (2 * r + 1 + 1) ≡ 4 * ((r + 1) * (r + 1)) = simp ring (omega arith) in
        omega arith

    go : (r : ℕ) → Whole r (n / 4) → (b : Bool) → (T b → (2 * r + 1) * (2 * r + 1) ≤ n) → (T (not b) → n < (2 * r + 1) * (2 * r + 1)) → Whole (cond b (2 * r + 1) (2 * r)) n
    go r w true p q = (p tt, high r n w.1)
    go r w false p q = (low r n w.0, q tt)

-- ---- the correction, of a root r with rest left of the number a 2 ^ 44
pub short : (a r rest : ℕ) → a < 2 ^ 64 → r * r + rest ≡ a * 2 ^ 44 → r < 2 ^ 54
short a r rest h e = root_lt r 18014398509481984 (lt_of_le_of_lt (le_trans (more (r * r) rest) (le_of_eq e)) (mul-lt-mul_of_pos_right {k = 17592186044416} h (omega arith)))
  where
    more : (u v : ℕ) → u ≤ u + v
    more u v = omega arith

whole_is : (a r : ℕ) → a < 2 ^ 64 → Whole r (a * 2 ^ 44) → r ≡ whole_root 54 (a * 2 ^ 44)
whole_is a r h w = whole_unique r (whole_root 54 (a * 2 ^ 44)) (a * 2 ^ 44) w (whole_root_is 54 (a * 2 ^ 44) (mul-lt-mul_of_pos_right {k = 17592186044416} h (omega arith)))

pub stays : (a r rest : ℕ) → a < 2 ^ 64 → r * r + rest ≡ a * 2 ^ 44 → rest ≤ 2 * r → r ≡ whole_root 54 (a * 2 ^ 44)
stays a r rest h e k = whole_is a r h (go r rest (a * 2 ^ 44) e k)
  where
    go : (r rest n : ℕ) → r * r + rest ≡ n → rest ≤ 2 * r → Whole r n
    go r rest n e k = let s : (r + 1) * (r + 1) ≡ r * r + 2 * r + 1 = simp ring (omega arith) in (omega arith, omega arith)

pub one_up : (a r rest : ℕ) → a < 2 ^ 64 → r * r + rest ≡ a * 2 ^ 44 → 2 * r < rest → rest ≤ 4 * r → r + 1 ≡ whole_root 54 (a * 2 ^ 44)
one_up a r rest h e k l = whole_is a (r + 1) h (go r rest (a * 2 ^ 44) e k l)
  where
    go : (r rest n : ℕ) → r * r + rest ≡ n → 2 * r < rest → rest ≤ 4 * r → Whole (r + 1) n
    go r rest n e k l =
        let s : (r + 1) * (r + 1) ≡ r * r + 2 * r + 1 = simp ring (omega arith) in
        let t : (r + 1 + 1) * (r + 1 + 1) ≡ r * r + 4 * r + 4 = simp ring (omega arith) in
        (omega arith, omega arith)

-- the whole root has 54 digits
pub digits_54 : (a : ℕ) → 2 ^ 62 ≤ a → a < 2 ^ 64 → (2 ^ 53 ≤ whole_root 54 (a * 2 ^ 44)) × (whole_root 54 (a * 2 ^ 44) < 2 ^ 54)
digits_54 a l h =
    let w : Whole (whole_root 54 (a * 2 ^ 44)) (a * 2 ^ 44) = whole_root_is 54 (a * 2 ^ 44) (mul-lt-mul_of_pos_right {k = 17592186044416} h (omega arith)) in (
      lin 9007199254740992 (whole_root 54 (a * 2 ^ 44)) (root_lt 9007199254740992 (whole_root 54 (a * 2 ^ 44) + 1) (lt_of_le_of_lt (mul-le-mul_right 17592186044416 l) w.1)),
      short a (whole_root 54 (a * 2 ^ 44)) (a * 2 ^ 44 - whole_root 54 (a * 2 ^ 44) * whole_root 54 (a * 2 ^ 44)) h (add-sub_of_le w.0),
    )
  where
    lin : (r s : ℕ) → r < s + 1 → r ≤ s
    lin r s h = omega arith
