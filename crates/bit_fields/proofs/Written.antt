-- Laws of bits that are written: a byte's bits in their place, one part of a field after the other. Assumes nothing.
use Prim.Native.Nat.{ℕ, zero, suc, ◌+◌, ◌*◌, ◌-◌, ◌/◌, ◌%◌, ◌^◌, ◌≤◌, ◌<◌, min}
use native.Mathlib.Nat.{mod-eq_of_lt, mod-lt}
use native.Mathlib.Omega.{arith}
use lib.Pow.{pow_pos, shl_exact, shr-shr, split}
use lib.ListN.{length, take, drop, get_or, set, length-append, length-take, length-drop, take-append-drop}
use lib.Seq.{take-append-le, take-append-add, drop-append-le, drop-append-add, drop-drop, take_at, length-take-le}
use mathlib.Core.Path.{◌≡◌, sym, ap, ◌∙◌}
use mathlib.Core.Bool.{Bool}
use mathlib.Core.List.{List, [], ◌∷◌, ◌++◌, append_assoc}
use Rattle.bit_fields.specs.Bits.{numeral, digits, bits_of, over}
use Rattle.bit_fields.proofs.Digits.{numeral_append, numeral_lt, digits_length, numeral_digits, digits_numeral, numeral_drop}
use Rattle.bit_fields.proofs.Bytes.{bits_length, part_low}

-- ---- bits in place of others
pub over_length : (at : ℕ) (new l : List Bool) → at + length new ≤ length l → length (over at new l) ≡ length l
unfolding over
over_length at new l h =
    rw (length-append (take at l) (new ++ drop (at + length new) l), length-append new (drop (at + length new) l), length-take at l, length-drop (at + length new) l)
    (omega arith)

pub over_none : (at : ℕ) (l : List Bool) → over at [] l ≡ l
unfolding over
over_none at l = let e : at + 0 ≡ at = omega arith in rw e (take-append-drop at l)

-- one part after the other
pub over_over : (at : ℕ) (s t l : List Bool) → at + length s ≤ length l → over (at + length s) t (over at s l) ≡ over at (s ++ t) l
unfolding over
over_over at s t l h =
    let front = take at l ++ s in
    let back = drop (at + length s) l in
    let a : length (take at l) ≡ at = length-take-le at l (omega arith) in
    let f : length front ≡ at + length s = rw (length-append (take at l) s, a) in
    let z : take at l ++ (s ++ back) ≡ front ++ back = sym (append_assoc (take at l) s back) in
    let d : drop (at + length s + length t) (front ++ back) ≡ drop (length t) back = ap (λ (k : ℕ). drop (k + length t) (front ++ back)) (sym f) ∙ drop-append-add front back (length t) in
    let g : at + (length s + length t) ≡ at + length s + length t = omega arith in
    rw (z, take_at front back (at + length s) f, d, drop-drop (length t) (at + length s) l, length-append s t, g, append_assoc (take at l) s (t ++ drop (at + length s + length t) l), append_assoc s t (drop (at + length s + length t) l))

-- within the first part of a list, or behind it
over_front : (s : ℕ) (new x y : List Bool) → s + length new ≤ length x → over s new (x ++ y) ≡ over s new x ++ y
unfolding over
over_front s new x y h =
    rw (take-append-le s x y (omega arith), drop-append-le (s + length new) x y h, append_assoc (take s x) (new ++ drop (s + length new) x) y, append_assoc new (drop (s + length new) x) y)

over_behind : (k s : ℕ) (new x y : List Bool) → length x ≡ k → over (k + s) new (x ++ y) ≡ x ++ over s new y
unfolding over
over_behind k s new x y h =
    let e : k + s + length new ≡ length x + (s + length new) = omega (arith, h) in
    rw (e, drop-append-add x y (s + length new), ← h, take-append-add x y s, append_assoc x (take s y) (new ++ drop (s + length new) y))

-- a byte in a list
pub byte_over : (l : List ℕ) (q s b : ℕ) (new : List Bool) → q < length l → s + length new ≤ 8 → digits 8 b ≡ over s new (digits 8 (get_or l q 0)) → bits_of (set l q b) ≡ over (8 * q + s) new (bits_of l)
unfolding bits_of
byte_over [] q s b new h g e = absurd (omega arith)
byte_over (x ∷ l) zero s b new h g e =
    let z : 8 * 0 + s ≡ s = omega arith in
    rw (z, e) (sym (over_front s new (digits 8 x) (bits_of l) (rw (digits_length 8 x) g)))
byte_over (x ∷ l) (suc q) s b new h g e =
    let z : 8 * suc q + s ≡ 8 + (8 * q + s) = omega arith in
    rw (z, over_behind 8 (8 * q + s) new (digits 8 x) (bits_of l) (digits_length 8 x), byte_over l q s b new (omega arith) g e)

-- ---- digits in parts
pub digits_append : (a b v : ℕ) → digits (a + b) v ≡ digits a (v / 2 ^ b) ++ digits b v
unfolding digits
digits_append zero b v = let e : 0 + b ≡ b = omega arith in rw e
digits_append (suc a) b v =
    let e : suc a + b ≡ suc (a + b) = omega arith in
    let f : b + a ≡ a + b = omega arith in
    rw (e, digits_append a b v, shr-shr v b a, f)

-- ---- one byte

module _ (b s n v : ℕ) (small : b < 256) (h : s + n ≤ 8) where
  bits : List Bool
  bits = over s (digits n v) (digits 8 b)

  bits_8 : length bits ≡ 8
  unfolding bits
  bits_8 = over_length s (digits n v) (digits 8 b) (rw (digits_length n v, digits_length 8 b) h) ∙ digits_length 8 b

  -- the byte's number
  number_is : numeral bits ≡ (b - b % 2 ^ (8 - s)) + v % 2 ^ n * 2 ^ (8 - s - n) + b % 2 ^ (8 - s - n)
  unfolding bits over
  number_is =
      let behind = drop (s + n) (digits 8 b) in
      let d : length behind ≡ 8 - s - n = rw (length-drop (s + n) (digits 8 b), digits_length 8 b) (omega arith) in
      let e : length (digits n v ++ behind) ≡ 8 - s = rw (length-append (digits n v) behind, digits_length n v, d) (omega arith) in
      let whole : numeral (digits 8 b) ≡ b = numeral_digits 8 b ∙ mod-eq_of_lt small in
      let low = rw (d, whole) at (numeral_drop (s + n) (digits 8 b)) in
      let p = split b (8 - s) in
      let q : b / 2 ^ (8 - s) * 2 ^ (8 - s) ≡ b - b % 2 ^ (8 - s) = omega (arith, p) in
      rw (digits_length n v, numeral_append (take s (digits 8 b)) (digits n v ++ behind), e, numeral_append (digits n v) behind, d, low, part_low b s small (omega arith), numeral_digits n v, q)
      (omega arith)

  shifted_in : (v % 2 ^ n * 2 ^ (8 - s - n)) % 2 ^ 64 ≡ v % 2 ^ n * 2 ^ (8 - s - n)
  shifted_in = shl_exact n (8 - s - n) 64 (mod-lt v (pow_pos n)) (omega arith)

  -- as the code works it
  module _ (byte kept middle low : ℕ) (e : byte ≡ b) (p : kept ≡ byte % 2 ^ (8 - s)) (q : middle ≡ v % 2 ^ n) (r : low ≡ byte % 2 ^ (8 - s - n)) where
    pub placed_is : (byte - kept) + (middle * 2 ^ (8 - s - n)) % 2 ^ 64 + low ≡ numeral (over s (digits n v) (digits 8 b))
    unfolding bits
    placed_is = rw (p, q, r, e, shifted_in) (sym number_is)

    pub placed_small : (byte - kept) + (middle * 2 ^ (8 - s - n)) % 2 ^ 64 + low < 256
    unfolding bits
    placed_small = rw placed_is (rw bits_8 at (numeral_lt bits))

    pub placed_digits : digits 8 ((byte - kept) + (middle * 2 ^ (8 - s - n)) % 2 ^ 64 + low) ≡ over s (digits n v) (digits 8 b)
    unfolding bits
    placed_digits = rw placed_is (rw bits_8 at (digits_numeral bits))

pub low_le : (x n : ℕ) → x < 2 ^ 64 → (x / 2 ^ n * 2 ^ n) % 2 ^ 64 ≤ x
low_le x n h =
    let s = split x n in
    let b : x / 2 ^ n * 2 ^ n < 2 ^ 64 = omega (arith, s) in
    rw (mod-eq_of_lt b) (omega (arith, s))

-- ---- a field, one part after the other
module _ (old now : List ℕ) (at width left value n : ℕ) (inv : bits_of now ≡ over at (digits (width - left) (value / 2 ^ left)) (bits_of old)) where
  pub put_next : (b : ℕ) → left ≤ width → at + width ≤ 8 * length old → length now ≡ length old → n ≡ min left (8 - (at + (width - left)) % 8) → 0 < left
      → digits 8 b ≡ over ((at + (width - left)) % 8) (digits n (value / 2 ^ (left - n))) (digits 8 (get_or now ((at + (width - left)) / 8) 0))
      → bits_of (set now ((at + (width - left)) / 8) b) ≡ over at (digits (width - (left - n)) (value / 2 ^ (left - n))) (bits_of old)
  put_next b le fits same e some d =
      let end = at + (width - left) in
      let k = width - left in
      let rest = value / 2 ^ (left - n) in
      let n_le : n ≤ left = omega (arith, e) in
      let new-length = digits_length n rest in
      let done-length = digits_length k (value / 2 ^ left) in
      let z : 8 * (end / 8) + end % 8 ≡ end = omega arith in
      let g : end % 8 + length (digits n rest) ≤ 8 = rw new-length (omega (arith, e)) in
      let one = rw z at (byte_over now (end / 8) (end % 8) b (digits n rest) (omega (arith, same)) g d) in
      let w : width - (left - n) ≡ k + n = omega (arith, e) in
      let c : left - n + n ≡ left = omega (arith, e) in
      let two : over end (digits n rest) (over at (digits k (value / 2 ^ left)) (bits_of old)) ≡ over at (digits k (value / 2 ^ left) ++ digits n rest) (bits_of old) =
      rw done-length at (over_over at (digits k (value / 2 ^ left)) (digits n rest) (bits_of old) (rw (done-length, bits_length old) (omega arith))) in
      let three : digits k (value / 2 ^ left) ++ digits n rest ≡ digits (k + n) rest = sym (rw (shr-shr value (left - n) n, c) at (digits_append k n rest)) in
      one ∙ ap (over end (digits n rest)) inv ∙ two ∙ rw (w, three)

pub put_start : (l : List ℕ) (at width value : ℕ) → bits_of l ≡ over at (digits (width - width) (value / 2 ^ width)) (bits_of l)
unfolding digits
put_start l at width value = let e : width - width ≡ 0 = omega arith in sym (rw e (over_none at (bits_of l)))
