-- Laws of bytes as bits: where a byte's bits lie, and the fields that the code reads. Assumes nothing.
use Prim.Native.Nat.{ℕ, zero, suc, ◌+◌, ◌*◌, ◌-◌, ◌/◌, ◌%◌, ◌^◌, ◌≤◌, ◌<◌}
use native.Mathlib.Nat.{mod-eq_of_lt, mul-mod_left}
use native.Mathlib.Omega.{arith}
use lib.Pow.{mod-pow-add, shl-shr}
use lib.ListN.{length, take, drop, get_or, length-append, length-take, length-drop, take-append-drop, get_or-append}
use lib.Seq.{take_all, get_or-take, drop-cons, take-add, drop-drop, get_or-drop, drop-append-le, take-append-le, take-append-add, take_at, drop_at, drop-nil}
use mathlib.Core.Path.{◌≡◌, refl, sym, ap, ◌∙◌}
use mathlib.Core.Bool.{Bool, true, false, cond}
use mathlib.Core.List.{List, [], ◌∷◌, ◌++◌}
use Rattle.std.specs.Int.{w64, from_be_bytes}
use Rattle.std.specs.Simd.{first_chunks}
use Rattle.bit_fields.specs.Bits.{numeral, digits, bits_of}
use Rattle.bit_fields.proofs.Digits.{numeral_append, digits_length, numeral_digits, numeral_drop, numeral_take, numeral_next, numeral_below, digit_at}

-- each number of a list is a byte: what a list of the code keeps
abbrev pub Bytes : List ℕ → Type 0
Bytes l = (i : ℕ) → get_or l i 0 < 256

pub bits_length : (l : List ℕ) → length (bits_of l) ≡ 8 * length l
unfolding bits_of
bits_length [] = refl
bits_length (b ∷ l) = rw (length-append (digits 8 b) (bits_of l), digits_length 8 b, bits_length l) (omega arith)

pub bits_drop : (q : ℕ) (l : List ℕ) → drop (8 * q) (bits_of l) ≡ bits_of (drop q l)
unfolding bits_of
bits_drop zero l = refl
bits_drop (suc q) [] = drop-nil (8 * suc q)
bits_drop (suc q) (b ∷ l) =
    let e : 8 * suc q ≡ 8 + 8 * q = omega arith in
    rw (e, ← drop-drop (8 * q) 8 (digits 8 b ++ bits_of l), drop_at (digits 8 b) (bits_of l) 8 (digits_length 8 b)) (bits_drop q l)

-- the byte in which a position lies
pub bits_from : (q : ℕ) (l : List ℕ) → q < length l → drop (8 * q) (bits_of l) ≡ digits 8 (get_or l q 0) ++ bits_of (drop (suc q) l)
unfolding bits_of
bits_from q l h = rw (bits_drop q l, drop-cons l q 0 h)

-- one bit
bit_of : (l : List ℕ) (q s : ℕ) → q < length l → s < 8 → cond (get_or (bits_of l) (8 * q + s) false) 1 0 ≡ get_or l q 0 / 2 ^ (7 - s) % 2
bit_of l q s c b =
    let d : get_or (bits_of l) (8 * q + s) false ≡ get_or (digits 8 (get_or l q 0)) s false =
    rw (← get_or-drop (8 * q) (bits_of l) s false, bits_from q l c) (get_or-append (digits 8 (get_or l q 0)) (bits_of (drop (suc q) l)) false s (rw (digits_length 8 (get_or l q 0)) b)) in
    rw d (digit_at 8 (get_or l q 0) s b)

pub bit_in : (l : List ℕ) (at : ℕ) → at < 8 * length l → cond (get_or (bits_of l) at false) 1 0 ≡ get_or l (at / 8) 0 / 2 ^ (7 - at % 8) % 2
bit_in l at h =
    let e : 8 * (at / 8) + at % 8 ≡ at = omega arith in
    rw e at (bit_of l (at / 8) (at % 8) (omega arith) (omega arith))

-- one byte more
pub byte_next : (l : List ℕ) → Bytes l → (q i : ℕ) → q + i < length l → numeral (take (8 * (i + 1)) (drop (8 * q) (bits_of l))) ≡ 256 * numeral (take (8 * i) (drop (8 * q) (bits_of l))) + get_or l (q + i) 0
byte_next l w q i h =
    let x = drop (8 * q) (bits_of l) in
    let b = get_or l (q + i) 0 in
    let r = bits_of (drop (suc (q + i)) l) in
    let e : 8 * (i + 1) ≡ 8 * i + 8 = omega arith in
    let f : 8 * q + 8 * i ≡ 8 * (q + i) = omega arith in
    let g : drop (8 * i) x ≡ digits 8 b ++ r = rw (drop-drop (8 * i) (8 * q) (bits_of l), f) (bits_from (q + i) l h) in
    let v : numeral (digits 8 b) ≡ b = numeral_digits 8 b ∙ mod-eq_of_lt (w (q + i)) in
    rw (e, take-add (8 * i) 8 x, g, take_at (digits 8 b) r 8 (digits_length 8 b), numeral_append (take (8 * i) x) (digits 8 b), v, digits_length 8 b) (omega arith)

-- eight bytes, the first worth most
byte_in : (l : List ℕ) (q i : ℕ) → i < 8 → get_or (take 8 (drop q l)) i 0 ≡ get_or l (q + i) 0
byte_in l q i h = get_or-take 8 (drop q l) i 0 h ∙ get_or-drop q l i 0

pub word_is : (l : List ℕ) → Bytes l → (q : ℕ) → q + 8 ≤ length l → from_be_bytes w64 (take 8 (drop q l)) ≡ numeral (take 64 (drop (8 * q) (bits_of l)))
unfolding numeral
word_is l w q h =
    let x = drop (8 * q) (bits_of l) in
    let v₀ : numeral (take 0 x) ≡ 0 = refl in
    let v₁ : numeral (take 8 x) ≡ 256 * numeral (take 0 x) + get_or l (q + 0) 0 = byte_next l w q 0 (omega arith) in
    let v₂ : numeral (take 16 x) ≡ 256 * numeral (take 8 x) + get_or l (q + 1) 0 = byte_next l w q 1 (omega arith) in
    let v₃ : numeral (take 24 x) ≡ 256 * numeral (take 16 x) + get_or l (q + 2) 0 = byte_next l w q 2 (omega arith) in
    let v₄ : numeral (take 32 x) ≡ 256 * numeral (take 24 x) + get_or l (q + 3) 0 = byte_next l w q 3 (omega arith) in
    let v₅ : numeral (take 40 x) ≡ 256 * numeral (take 32 x) + get_or l (q + 4) 0 = byte_next l w q 4 (omega arith) in
    let v₆ : numeral (take 48 x) ≡ 256 * numeral (take 40 x) + get_or l (q + 5) 0 = byte_next l w q 5 (omega arith) in
    let v₇ : numeral (take 56 x) ≡ 256 * numeral (take 48 x) + get_or l (q + 6) 0 = byte_next l w q 6 (omega arith) in
    let v₈ : numeral (take 64 x) ≡ 256 * numeral (take 56 x) + get_or l (q + 7) 0 = byte_next l w q 7 (omega arith) in
    rw (byte_in l q 0 (omega arith), byte_in l q 1 (omega arith), byte_in l q 2 (omega arith), byte_in l q 3 (omega arith), byte_in l q 4 (omega arith), byte_in l q 5 (omega arith), byte_in l q 6 (omega arith), byte_in l q 7 (omega arith)) (omega (arith, v₀, v₁, v₂, v₃, v₄, v₅, v₆, v₇, v₈))

-- the first of the runs of eight of a list from byte q on
first_run : (k : ℕ) (l d : List ℕ) → 0 < k → get_or (first_chunks 8 k l) 0 d ≡ take 8 l
first_run zero l d h = elim h [ ]
first_run (suc k) l d h = refl

pub run_from : (l d : List ℕ) (q : ℕ) → q + 8 ≤ length l → get_or (first_chunks 8 (length (take (length l - q) (drop q l)) / 8) (take (length l - q) (drop q l))) 0 d ≡ take 8 (drop q l)
run_from l d q h =
    let n = length-drop q l in
    let e : take (length l - q) (drop q l) ≡ drop q l = take_all (length l - q) (drop q l) (rw n (omega arith)) in
    rw e (first_run (length (drop q l) / 8) (drop q l) d (omega (arith, n)))

-- ---- 64 bits that begin inside a byte
pub part_high : (l : List Bool) (s : ℕ) → length l ≡ 64 → s ≤ 64 → numeral (drop s l) ≡ numeral l % 2 ^ (64 - s)
part_high l s e h = let d : length (drop s l) ≡ 64 - s = rw (length-drop s l, e) in rw d at (numeral_drop s l)

pub part_low : (b s : ℕ) → b < 256 → s ≤ 8 → numeral (take s (digits 8 b)) ≡ b / 2 ^ (8 - s)
part_low b s h g =
    let d : length (drop s (digits 8 b)) ≡ 8 - s = rw (length-drop s (digits 8 b), digits_length 8 b) in
    let e : numeral (digits 8 b) ≡ b = numeral_digits 8 b ∙ mod-eq_of_lt h in
    rw (d, e) at (numeral_take s (digits 8 b))

-- the two parts
pub across : (l : List ℕ) → Bytes l → (q s : ℕ) → s < 8 → 0 < s → q + 8 < length l
    → numeral (take 64 (drop (8 * q + s) (bits_of l))) ≡ numeral (take 64 (drop (8 * q) (bits_of l))) % 2 ^ (64 - s) * 2 ^ s + get_or l (q + 8) 0 / 2 ^ (8 - s)
across l w q s h g c =
    let y = drop (8 * q) (bits_of l) in
    let u = take 64 y in
    let b = get_or l (q + 8) 0 in
    let r = bits_of (drop (suc (q + 8)) l) in
    let f : 8 * q + 64 ≡ 8 * (q + 8) = omega arith in
    let behind : drop 64 y ≡ digits 8 b ++ r = rw (drop-drop 64 (8 * q) (bits_of l), f) (bits_from (q + 8) l c) in
    let whole : length u ≡ 64 = rw (length-take 64 y, length-drop (8 * q) (bits_of l), bits_length l) (omega arith) in
    let seam : y ≡ u ++ (digits 8 b ++ r) = sym (rw behind at (take-append-drop 64 y)) in
    let first : length (drop s u) ≡ 64 - s = rw (length-drop s u, whole) in
    let last : length (take s (digits 8 b)) ≡ s = rw (length-take s (digits 8 b), digits_length 8 b) (omega arith) in
    let le : s ≤ length u = rw whole (omega arith) in
    let le8 : s ≤ length (digits 8 b) = rw (digits_length 8 b) (omega arith) in
    let n : 64 ≡ length (drop s u) + s = rw first (omega arith) in
    let parts : take 64 (drop s y) ≡ drop s u ++ take s (digits 8 b) =
    ap (λ (z : List Bool). take 64 (drop s z)) seam
    ∙ ap (take 64) (drop-append-le s u (digits 8 b ++ r) le)
    ∙ ap (λ (k : ℕ). take k (drop s u ++ (digits 8 b ++ r))) n
    ∙ take-append-add (drop s u) (digits 8 b ++ r) s
    ∙ ap (λ (z : List Bool). drop s u ++ z) (take-append-le s (digits 8 b) r le8) in
    rw (← drop-drop s (8 * q) (bits_of l), parts, numeral_append (drop s u) (take s (digits 8 b)), last, part_high u s whole (omega arith), part_low b s (w (q + 8)) (omega arith))

pub shifted : (v s : ℕ) → s ≤ 64 → (v * 2 ^ s) % 2 ^ 64 ≡ v % 2 ^ (64 - s) * 2 ^ s
shifted v s h =
    let e : 64 - s + s ≡ 64 = omega arith in
    let d : v * 2 ^ s % 2 ^ s ≡ 0 = mul-mod_left v (2 ^ s) in
    let f = rw (e, shl-shr v s, d) at (mod-pow-add (v * 2 ^ s) (64 - s) s) in
    omega (arith, f)

-- ---- the reader's loop
pub narrow_next : (l : List ℕ) (at width i value bit : ℕ) → at + width ≤ 8 * length l → i < width → value ≡ numeral (take i (drop at (bits_of l))) → bit ≡ cond (get_or (bits_of l) (at + i) false) 1 0
    → 2 * value + bit ≡ numeral (take (i + 1) (drop at (bits_of l)))
narrow_next l at width i value bit h g p q =
    let d : i < length (drop at (bits_of l)) = rw (length-drop at (bits_of l), bits_length l) (omega arith) in
    let e = get_or-drop at (bits_of l) i false in
    rw (p, q) (sym (rw e at (numeral_next i (drop at (bits_of l)) d)))

pub narrow_fits : (l : List ℕ) (at i value : ℕ) → i < 63 → value ≡ numeral (take i (drop at (bits_of l))) → value < 2 ^ 62
narrow_fits l at i value h p = rw p (numeral_below 62 i (drop at (bits_of l)) (omega arith))

pub bit_small : (b : Bool) → cond b 1 0 < 2
bit_small true = omega arith
bit_small false = omega arith

pub bit_below : (l : List Bool) (k r : ℕ) → r ≡ cond (get_or l k false) 1 0 → r < 2
bit_below l k r p = rw p (bit_small (get_or l k false))

-- ---- 64 bits at any position
module _ (l : List ℕ) (w : Bytes l) (at high byte : ℕ) (h : at + 64 ≤ 8 * length l) (p : high ≡ numeral (take 64 (drop (8 * (at / 8)) (bits_of l)))) where
  pub long_whole : at % 8 ≡ 0 → high ≡ numeral (take 64 (drop at (bits_of l)))
  long_whole z = let e : 8 * (at / 8) ≡ at = omega arith in rw e at p

  pub long_across : 0 < at % 8 → byte ≡ get_or l (at / 8 + 8) 0 → (high * 2 ^ (at % 8)) % 2 ^ 64 + byte / 2 ^ (8 - at % 8) ≡ numeral (take 64 (drop at (bits_of l)))
  long_across z q =
      let e : 8 * (at / 8) + at % 8 ≡ at = omega arith in
      let a = across l w (at / 8) (at % 8) (omega arith) z (omega arith) in
      rw (p, q, shifted (numeral (take 64 (drop (8 * (at / 8)) (bits_of l)))) (at % 8) (omega arith)) (sym (rw e at a))

  pub long_fits : 0 < at % 8 → byte ≡ get_or l (at / 8 + 8) 0 → (high * 2 ^ (at % 8)) % 2 ^ 64 + byte / 2 ^ (8 - at % 8) < 2 ^ 64
  long_fits z q = rw (long_across z q) (numeral_below 64 64 (drop at (bits_of l)) (omega arith))
