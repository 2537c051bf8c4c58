-- A whole number of units, rounded to a format: how far it moves. Assumes nothing.
use mathlib.Core.Path.{◌≡◌, refl, sym, ap, ◌∙◌, subst}
use mathlib.Core.Bool.{not}
use Prim.Native.Nat.{ℕ, zero, suc, ◌+◌, ◌-◌, ◌*◌, ◌/◌, ◌%◌, ◌^◌, ◌≤◌, ◌<◌, compare, Ordering}
use native.Mathlib.Nat.{le_trans, le_of_eq, le_of_lt, lt_of_lt_of_le, lt_irrefl, mul_comm, mul_assoc, add-mul, mul-pos, mul-div_cancel, mul-mod_left, div-add-mod', le_antisymm, mod-lt}
use native.Mathlib.Decide.{dec_le}
use native.Mathlib.Omega.{arith}
use lib.Dec.{T, is_le, compare_is_eq, leb→le, nleb→lt, eqb→eq}
use lib.Pow.{pow_pos}
use lib.Ieee.{Format, prec, low, size, nearest}
use lib.Ieee.Nearest.{closest, closest_same}
use lib.Ieee.Scale.{grid}
use lib.Ieee.Fits.{two, two-le_pos}
use Rattle.number.proofs.Grid.{grid_le}
use Rattle.rounded_sum.proofs.Multiples.{Multiple, mult_le, Digits, spare, own_multiple}

-- ---- x is n moved to a nearest multiple of u: down from it, or up
pub data Near (n u x : ℕ) : Type 0 where
  fell : (w : ℕ) → x ≡ w * u → w * u ≤ n → n + n ≤ w * u + w * u + u → Near n u x
  rose : (w : ℕ) → x ≡ w * u + u → n < w * u + u → w * u + w * u + u ≤ n + n → Near n u x

near_down : (n u w r : ℕ) → w * u + r ≡ n → r * 2 ≤ u → Near n u (w * u)
near_down n u w r e h = fell w refl (omega arith) (omega arith)

near_up : (n u w r : ℕ) → w * u + r ≡ n → r < u → u ≤ r * 2 → Near n u (suc w * u)
near_up n u w r e l h = rose w (let g = add-mul w 1 u in omega arith) (omega arith) (omega arith)

closest_near : (n u : ℕ) → 0 < u → Near n u (closest n u * u)
closest_near n u U = go (compare (n % u * 2) u) (leb→le (n % u * 2) u) (nleb→lt (n % u * 2) u) (eqb→eq (n % u * 2) u)
  where
    w : ℕ
    w = n / u

    e : w * u + n % u ≡ n
    e = div-add-mod' n u

    l : n % u < u
    l = mod-lt n U

    tie : (b : ℕ) → b ≤ 1 → n % u * 2 ≡ u → Near n u ((w + b) * u)
    tie zero h k = subst (λ (x : ℕ). Near n u (x * u)) (plain w) (near_down n u w (n % u) e (le_of_eq k))
      where
        plain : (w : ℕ) → w ≡ w + 0
        plain w = omega arith
    tie (suc zero) h k = subst (λ (x : ℕ). Near n u (x * u)) (next w) (near_up n u w (n % u) e l (le_of_eq (sym k)))
      where
        next : (w : ℕ) → suc w ≡ w + 1
        next w = omega arith
    tie (suc (suc b)) h k = absurd (no b h)
      where
        no : (b : ℕ) → suc (suc b) ≤ 1 → ⊥
        no b h = omega arith

    bit : (w : ℕ) → w % 2 ≤ 1
    bit w = omega arith

    go : (o : Ordering) → (T (is_le o) → n % u * 2 ≤ u) → (T (not (is_le o)) → u < n % u * 2) → (T (compare_is_eq o) → n % u * 2 ≡ u) → Near n u (nearest w o * u)
    go Ordering.lt h k g = near_down n u w (n % u) e (h tt)
    go Ordering.eq h k g = tie (w % 2) (bit w) (g tt)
    go Ordering.gt h k g = near_up n u w (n % u) e l (le_of_lt (k tt))

-- no further from n than a multiple of u on either side of it
pub near_below : (n u x y : ℕ) → 0 < u → Near n u x → y * u ≤ n → (x - n ≤ n - y * u) × (n - x ≤ n - y * u)
near_below n u x y U (fell w e h k) l = let m = mult_le u y w n l (omega arith) in (omega arith, omega arith)
near_below n u x y U (rose w e h k) l = let m = mult_le u y w n l h in (omega arith, omega arith)

pub near_above : (n u x y : ℕ) → 0 < u → Near n u x → n ≤ y * u → (x - n ≤ y * u - n) × (n - x ≤ y * u - n)
near_above n u x y U (fell w e h k) l = go (dec_le (w * u + u) (y * u))
  where
    go : Dec (w * u + u ≤ y * u) → (x - n ≤ y * u - n) × (n - x ≤ y * u - n)
    go (yes g) = (omega arith, omega arith)
    go (no g) = let m = mult_le u y w (y * u) (le_of_eq refl) (native.Mathlib.Nat.lt_of_not-le g) in (omega arith, omega arith)
near_above n u x y U (rose w e h k) l = go (dec_le (w * u + u) (y * u))
  where
    go : Dec (w * u + u ≤ y * u) → (x - n ≤ y * u - n) × (n - x ≤ y * u - n)
    go (yes g) = (omega arith, omega arith)
    go (no g) = let m = mult_le u y w (y * u) (le_of_eq refl) (native.Mathlib.Nat.lt_of_not-le g) in absurd (omega arith)

-- ---- n units rounded
module _ (f : Format) where
  abbrev pub L : ℕ
  L = 2 ^ low f

  abbrev pub p : ℕ
  p = prec f

  pub p_pos : 0 < p
  p_pos = two-le_pos p (two f)

  -- the unit at n's size
  abbrev pub unit : ℕ → ℕ
  unit n = 2 ^ spare p p_pos n

  abbrev pub rounded : ℕ → ℕ
  rounded n = grid f n L

  pub rounded_is : (n : ℕ) → rounded n ≡ closest n (unit n) * unit n
  rounded_is n =
      let d : n * L / L ≡ n = mul-div_cancel n (pow_pos (low f)) in
      ap (λ (z : ℕ). closest (n * L) (L * 2 ^ (size z - p)) * 2 ^ (size z - p)) d
      ∙ ap (λ (z : ℕ). z * unit n) (closest_same (n * L) (L * unit n) n (unit n) (mul-pos (pow_pos (low f)) (pow_pos (size n - p))) (pow_pos (size n - p)) (mul_assoc n L (unit n)))

  pub rounded_near : (n : ℕ) → Near n (unit n) (rounded n)
  rounded_near n = subst (λ (x : ℕ). Near n (unit n) x) (sym (rounded_is n)) (closest_near n (unit n) (pow_pos (size n - p)))

  pub rounded_multiple : (n : ℕ) → Multiple (size n - p) (rounded n)
  rounded_multiple n = (closest n (unit n), rounded_is n)

  pub rounded_mono : (n m : ℕ) → n ≤ m → rounded n ≤ rounded m
  rounded_mono n m h = grid_le f n L m L (pow_pos (low f)) (pow_pos (low f)) (native.Mathlib.Nat.mul-le-mul_right L h)

  -- a multiple of its unit stays
  pub rounded_multiple_is : (n : ℕ) → Multiple (size n - p) n → rounded n ≡ n
  rounded_multiple_is n (q, e) =
      let v = near_below n (unit n) (rounded n) q (pow_pos (size n - p)) (rounded_near n) (le_of_eq (sym e)) in
      same (rounded n) n (q * unit n) e v.0 v.1
    where
      same : (x n y : ℕ) → n ≡ y → x - n ≤ n - y → n - x ≤ n - y → x ≡ n
      same x n y e h k = omega arith

  pub rounded_held : (n : ℕ) → Digits p n → rounded n ≡ n
  rounded_held n h = rounded_multiple_is n (own_multiple p p_pos n h)
