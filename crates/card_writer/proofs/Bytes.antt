-- Laws of bits as bytes and back. Assumes nothing.
use Prim.Native.Nat.{ℕ, zero, suc, ◌*◌, ◌-◌}
use native.Mathlib.Nat.{mod-eq_of_lt}
use native.Mathlib.Omega.{arith}
use lib.ListN.{length, take, drop, replicate, length-append, length-drop, length-replicate, take-append-drop}
use lib.Seq.{take_at, drop_at, length-take-le}
use mathlib.Core.Path.{◌≡◌, refl, sym, ap, ◌∙◌}
use mathlib.Core.Bool.{Bool, false}
use mathlib.Core.List.{List, [], ◌∷◌, ◌++◌, append_assoc}
use Rattle.bit_fields.specs.Bits.{numeral, digits, bits_of}
use Rattle.bit_fields.proofs.Digits.{digits_length, numeral_digits, digits_numeral}
use Rattle.bit_fields.proofs.Bytes.{Bytes, bits_length}
use Rattle.card_writer.specs.Writing.{byte_count, filled, bytes_of}

pub bytes_length : (k : ℕ) (l : List Bool) → length (bytes_of k l) ≡ k
unfolding bytes_of
bytes_length zero l = refl
bytes_length (suc k) l = ap suc (bytes_length k (drop 8 l))

-- whole bytes have the bits that they were made of
pub bits_bytes : (k : ℕ) (l : List Bool) → length l ≡ 8 * k → bits_of (bytes_of k l) ≡ l
unfolding bytes_of bits_of
bits_bytes zero [] h = refl
bits_bytes zero (b ∷ l) h = absurd (omega arith)
bits_bytes (suc k) l h =
    let e : length (take 8 l) ≡ 8 = length-take-le 8 l (omega arith) in
    let first : digits 8 (numeral (take 8 l)) ≡ take 8 l = rw e at (digits_numeral (take 8 l)) in
    rw (first, bits_bytes k (drop 8 l) (rw (length-drop 8 l) (omega arith))) (take-append-drop 8 l)

-- and bytes are made of their bits
pub bytes_bits : (l : List ℕ) → Bytes l → bytes_of (length l) (bits_of l) ≡ l
unfolding bytes_of bits_of
bytes_bits [] w = refl
bytes_bits (b ∷ l) w =
    let e = digits_length 8 b in
    let first : numeral (digits 8 b) ≡ b = numeral_digits 8 b ∙ mod-eq_of_lt (w 0) in
    rw (take_at (digits 8 b) (bits_of l) 8 e, drop_at (digits 8 b) (bits_of l) 8 e, first, bytes_bits l (λ i. w (suc i)))

pub bits_append : (s t : List ℕ) → bits_of (s ++ t) ≡ bits_of s ++ bits_of t
unfolding bits_of
bits_append [] t = refl
bits_append (b ∷ s) t = rw (bits_append s t) (sym (append_assoc (digits 8 b) (bits_of s) (bits_of t)))

pub filled_length : (l : List Bool) → length (filled l) ≡ 8 * byte_count (length l)
unfolding filled
filled_length l =
    rw (length-append l (replicate (8 * byte_count (length l) - length l) false), length-replicate (8 * byte_count (length l) - length l) false) (omega arith)

-- bytes that have the bits of others are those
pub bytes_same : (s t : List ℕ) → Bytes s → Bytes t → bits_of s ≡ bits_of t → s ≡ t
bytes_same s t v w e =
    let n : 8 * length s ≡ 8 * length t = sym (bits_length s) ∙ ap length e ∙ bits_length t in
    let m : length s ≡ length t = omega (arith, n) in
    sym (bytes_bits s v) ∙ rw (e, m) (bytes_bits t w)
