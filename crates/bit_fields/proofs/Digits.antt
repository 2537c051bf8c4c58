-- Laws of numerals and digits: each is the other's inverse, and what a part of a list of bits stands for. Assumes nothing.
use Prim.Native.Nat.{ℕ, zero, suc, ◌+◌, ◌*◌, ◌-◌, ◌/◌, ◌%◌, ◌^◌, ◌≤◌, ◌<◌}
use native.Mathlib.Nat.{pow-succ', mod-eq_of_lt, mul_assoc, add-mul, add_assoc, lt_of_lt_of_le}
use native.Mathlib.Numerals.{add-one, one-add}
use native.Mathlib.Omega.{arith}
use lib.Dec.{eqb}
use lib.Pow.{pow-add, pow_mono, mod-pow-add, high, low}
use lib.ListN.{length, take, drop, get_or, length-append, length-take, take-append-drop}
use lib.Seq.{take-suc}
use mathlib.Core.Path.{◌≡◌, refl, sym, ap, ◌∙◌}
use mathlib.Core.Bool.{Bool, true, false, cond}
use mathlib.Core.List.{List, [], ◌∷◌, ◌++◌}
use Rattle.bit_fields.specs.Bits.{numeral, digits}

pub numeral_append : (s t : List Bool) → numeral (s ++ t) ≡ numeral s * 2 ^ length t + numeral t
unfolding numeral
numeral_append [] t = omega arith
numeral_append (b ∷ s) t = rw (length-append s t, pow-add 2 (length s) (length t), numeral_append s t) (regroup (cond b 1 0) (2 ^ length s) (2 ^ length t) (numeral s) (numeral t))
  where
    regroup : (c p q n m : ℕ) → c * (p * q) + (n * q + m) ≡ (c * p + n) * q + m
    regroup c p q n m = rw (add-mul (c * p) n q, mul_assoc c p q, add_assoc (c * (p * q)) (n * q) m)

pub numeral_lt : (l : List Bool) → numeral l < 2 ^ length l
unfolding numeral
numeral_lt [] = omega arith
numeral_lt (true ∷ l) = omega (arith, numeral_lt l, pow-succ' 2 (length l))
numeral_lt (false ∷ l) = omega (arith, numeral_lt l, pow-succ' 2 (length l))

pub digits_length : (w v : ℕ) → length (digits w v) ≡ w
unfolding digits
digits_length zero v = refl
digits_length (suc w) v = ap suc (digits_length w v)

bit_of : (d : ℕ) → d < 2 → cond (eqb d 1) 1 0 ≡ d
bit_of zero h = refl
bit_of (suc zero) h = refl
bit_of (suc (suc d)) h = absurd (omega arith)

pub numeral_digits : (w v : ℕ) → numeral (digits w v) ≡ v % 2 ^ w
unfolding numeral digits
numeral_digits zero v = omega arith
numeral_digits (suc w) v =
    let b : v / 2 ^ w % 2 < 2 = omega arith in
    let e : v % 2 ^ suc w ≡ v / 2 ^ w % 2 * 2 ^ w + v % 2 ^ w = rw (one-add w) at (mod-pow-add v 1 w) in
    rw (bit_of (v / 2 ^ w % 2) b, digits_length w v, numeral_digits w v) (sym e)

pub numeral_inj : (s t : List Bool) → length s ≡ length t → numeral s ≡ numeral t → s ≡ t
unfolding numeral
numeral_inj [] [] p q = refl
numeral_inj [] (b ∷ t) p q = absurd (omega arith)
numeral_inj (b ∷ s) [] p q = absurd (omega arith)
numeral_inj (true ∷ s) (true ∷ t) p q =
    let e : length s ≡ length t = omega arith in
    let h = rw e at q in
    ap (λ (l : List Bool). true ∷ l) (numeral_inj s t e (omega (arith, h)))
numeral_inj (false ∷ s) (false ∷ t) p q = ap (λ (l : List Bool). false ∷ l) (numeral_inj s t (omega arith) (omega arith))
numeral_inj (true ∷ s) (false ∷ t) p q =
    let e : length s ≡ length t = omega arith in
    let h = rw e at q in
    absurd (omega (arith, numeral_lt t, h))
numeral_inj (false ∷ s) (true ∷ t) p q =
    let e : length t ≡ length s = omega arith in
    let h = rw e at q in
    absurd (omega (arith, numeral_lt s, h))

pub digits_numeral : (l : List Bool) → digits (length l) (numeral l) ≡ l
digits_numeral l =
    numeral_inj (digits (length l) (numeral l)) l (digits_length (length l) (numeral l))
    (numeral_digits (length l) (numeral l) ∙ mod-eq_of_lt (numeral_lt l))

-- ---- parts of a list of bits
pub numeral_drop : (k : ℕ) (l : List Bool) → numeral (drop k l) ≡ numeral l % 2 ^ length (drop k l)
numeral_drop k l =
    let e = ap numeral (take-append-drop k l) in
    sym (rw (← e, numeral_append (take k l) (drop k l)) (low (numeral (take k l)) (length (drop k l)) (numeral_lt (drop k l))))

pub numeral_take : (k : ℕ) (l : List Bool) → numeral (take k l) ≡ numeral l / 2 ^ length (drop k l)
numeral_take k l =
    let e = ap numeral (take-append-drop k l) in
    sym (rw (← e, numeral_append (take k l) (drop k l)) (high (numeral (take k l)) (length (drop k l)) (numeral_lt (drop k l))))

-- one bit more
pub numeral_next : (i : ℕ) (l : List Bool) → i < length l → numeral (take (i + 1) l) ≡ 2 * numeral (take i l) + cond (get_or l i false) 1 0
unfolding numeral
numeral_next i l h = rw (add-one, take-suc l i false h, numeral_append (take i l) (get_or l i false ∷ [])) (omega arith)

-- a digit of a number
pub digit_at : (w v i : ℕ) → i < w → cond (get_or (digits w v) i false) 1 0 ≡ v / 2 ^ (w - 1 - i) % 2
unfolding digits
digit_at zero v i h = elim h [ ]
digit_at (suc w) v zero h =
    let b : v / 2 ^ w % 2 < 2 = omega arith in
    let e : suc w - 1 - 0 ≡ w = omega arith in
    rw e (bit_of (v / 2 ^ w % 2) b)
digit_at (suc w) v (suc i) h =
    let e : suc w - 1 - suc i ≡ w - 1 - i = omega arith in
    rw e (digit_at w v i (omega arith))

-- few bits make a small number
pub numeral_below : (k i : ℕ) (l : List Bool) → i ≤ k → numeral (take i l) < 2 ^ k
numeral_below k i l h =
    let e : length (take i l) ≤ k = rw (length-take i l) (omega arith) in
    lt_of_lt_of_le (numeral_lt (take i l)) (pow_mono e)
