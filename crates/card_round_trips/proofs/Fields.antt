-- Reading and writing by one list of fields undo each other. Assumes nothing.
use Prim.Native.Nat.{ℕ, zero, suc, ◌^◌, ◌≤◌, ◌<◌}
use native.Mathlib.Nat.{mod-eq_of_lt}
use native.Mathlib.Omega.{arith}
use lib.Dec.{eqb, leb}
use lib.Pow.{pow_pos}
use lib.ListN.{length, take, drop, get_or, length-append, take-append-drop}
use lib.Seq.{take_at, drop_at, length-take-le}
use mathlib.Core.Path.{◌≡◌, refl, sym, ap, ◌∙◌, subst}
use mathlib.Core.Bool.{Bool, true, false, not, cond}
use mathlib.Core.List.{List, [], ◌∷◌, ◌++◌, append_assoc}
use borrow.Author.Tests.{le-leb, leb-true, eqb-true, eqb-false, not-true}
use Rattle.number.specs.Ans.{held, ◌>>=◌, demand}
use Rattle.number.proofs.Walk.{demanded, then_held, held_inj}
use Rattle.bit_fields.specs.Bits.{numeral, digits}
use Rattle.bit_fields.proofs.Digits.{numeral_lt, digits_length, numeral_digits, digits_numeral}
use Rattle.card.specs.declared.Field.{Field}
use Rattle.card.specs.Fields.{Read, Numbers, read_plain, read_spared, read_field, read_fields}
use Rattle.card.specs.Card.{float}
use Rattle.card_writer.specs.Writing.{write_field, write_fields}

-- a number for each field, below 2 to the field's width
pub record Fits (fs : List Field) (vs : List ℕ) : Type 0 where
  pub same : length vs ≡ length fs
  pub small : (k : ℕ) → k < length fs → get_or vs k 0 < 2 ^ (get_or fs k float).width

-- ---- what is written is read
plain_back : (w v : ℕ) (rest : List Bool) → v < 2 ^ w → read_plain w (digits w v ++ rest) ≡ held (record { value = v; rest = rest })
unfolding read_plain demand ◌>>=◌
plain_back w v rest h =
    let e = digits_length w v in
    let l : w ≤ length (digits w v ++ rest) = rw (length-append (digits w v) rest, e) (omega arith) in
    rw (le-leb w (length (digits w v ++ rest)) l, take_at (digits w v) rest w e, drop_at (digits w v) rest w e, numeral_digits w v, mod-eq_of_lt h)

bit_none : digits 1 0 ≡ false ∷ []
unfolding digits
bit_none = refl

bit_one : digits 1 1 ≡ true ∷ []
unfolding digits
bit_one = refl

flag_back : (b : Bool) (rest : List Bool) → read_plain 1 (b ∷ rest) ≡ held (record { value = cond b 1 0; rest = rest })
flag_back true rest = subst (λ (l : List Bool). read_plain 1 (l ++ rest) ≡ held (record { value = 1; rest = rest })) bit_one (plain_back 1 1 rest (omega arith))
flag_back false rest = subst (λ (l : List Bool). read_plain 1 (l ++ rest) ≡ held (record { value = 0; rest = rest })) bit_none (plain_back 1 0 rest (omega arith))

spared_back : (w v : ℕ) (rest : List Bool) → v < 2 ^ w → (z : Bool) → eqb v 0 ≡ z → read_spared w (cond z (false ∷ []) (true ∷ digits w v) ++ rest) ≡ held (record { value = v; rest = rest })
unfolding read_spared demand ◌>>=◌
spared_back w v rest h true e = rw (flag_back false rest, eqb-true v 0 e)
spared_back w v rest h false e = rw (flag_back true (digits w v ++ rest), plain_back w v rest h, e)

field_back : (f : Field) (v : ℕ) (rest : List Bool) → v < 2 ^ f.width → read_field f (write_field f v ++ rest) ≡ held (record { value = v; rest = rest })
unfolding read_field write_field
field_back f v rest h = either f.spared
  where
    either : (s : Bool) → cond s (read_spared f.width (cond s (cond (eqb v 0) (false ∷ []) (true ∷ digits f.width v)) (digits f.width v) ++ rest)) (read_plain f.width (cond s (cond (eqb v 0) (false ∷ []) (true ∷ digits f.width v)) (digits f.width v) ++ rest)) ≡ held (record { value = v; rest = rest })
    either true = spared_back f.width v rest h (eqb v 0) refl
    either false = plain_back f.width v rest h

pub read_written : (fs : List Field) (vs : List ℕ) (rest : List Bool) → Fits fs vs → read_fields fs (write_fields fs vs ++ rest) ≡ held (record { values = vs; rest = rest })
unfolding read_fields write_fields ◌>>=◌
read_written [] [] rest h = refl
read_written [] (v ∷ vs) rest h = absurd (omega (arith, h.same))
read_written (f ∷ fs) [] rest h = absurd (omega (arith, h.same))
read_written (f ∷ fs) (v ∷ vs) rest h =
    let s = h.same in
    let t : Fits fs vs = record { same = omega (arith, s); small = λ k p. h.small (suc k) (omega arith) } in
    let a = append_assoc (write_field f v) (write_fields fs vs) rest in
    rw (a, field_back f v (write_fields fs vs ++ rest) (h.small 0 (omega arith)), read_written fs vs rest t)

-- ---- what is read is written
pub record Undone (f : Field) (l : List Bool) (r : Read) : Type 0 where
  pub bits : l ≡ write_field f r.value ++ r.rest
  pub small : r.value < 2 ^ f.width

record Plain (w : ℕ) (l : List Bool) (r : Read) : Type 0 where
  bits : l ≡ digits w r.value ++ r.rest
  small : r.value < 2 ^ w

plain_undone : (w : ℕ) (l : List Bool) (r : Read) → read_plain w l ≡ held r → Plain w l r
unfolding read_plain
plain_undone w l r p =
    let a = then_held (demand 9 (leb w (length l))) _ r p in
    let h = leb-true w (length l) (demanded 9 (leb w (length l)) a.0 a.1) in
    let e : length (take w l) ≡ w = length-take-le w l h in
    let d = rw e at (digits_numeral (take w l)) in
    let b = rw e at (numeral_lt (take w l)) in
    let found : Read = record { value = numeral (take w l); rest = drop w l } in
    subst (Plain w l) (held_inj found r a.2) (record { bits = rw d (sym (take-append-drop w l)); small = b })

module _ (f : Field) (s : f.spared ≡ true) (l : List Bool) (r : Read) where
  -- a spared 0
  zero_undone : (flag : Read) → Plain 1 l flag → flag.value ≡ 0 → flag ≡ r → Undone f l r
  unfolding write_field
  zero_undone flag p v e = subst (Undone f l) e (record { bits = rw (s, v) (rw (v, bit_none) at p.bits); small = rw v (pow_pos f.width) })

  -- a stored number
  stored_undone : (flag stored : Read) → Plain 1 l flag → flag.value ≡ 1 → Plain f.width flag.rest stored → eqb stored.value 0 ≡ false → stored ≡ r → Undone f l r
  unfolding write_field
  stored_undone flag stored p v q z e =
      let a = rw (v, bit_one) at p.bits in
      subst (Undone f l) e (record { bits = rw (s, z) (a ∙ ap (λ (x : List Bool). true ∷ x) q.bits); small = q.small })

  spared_undone : read_spared f.width l ≡ held r → Undone f l r
  unfolding read_spared
  spared_undone p =
      let a = then_held (read_plain 1 l) _ r p in
      either a.0 (plain_undone 1 l a.0 a.1) (eqb a.0.value 0) refl a.2
    where
      either : (flag : Read) → Plain 1 l flag → (z : Bool) → eqb flag.value 0 ≡ z
          → cond z (held flag) (read_plain f.width flag.rest >>= λ x. demand 15 (not (eqb x.value 0)) >>= λ _. held x) ≡ held r → Undone f l r
      either flag p true e q = zero_undone flag p (eqb-true flag.value 0 e) (held_inj flag r q)
      either flag p false e q =
          let b = then_held (read_plain f.width flag.rest) _ r q in
          let d = then_held (demand 15 (not (eqb b.0.value 0))) _ r b.2 in
          let n = eqb-false flag.value 0 e in
          let small = p.small in
          let v : flag.value ≡ 1 = omega (arith, small, n) in
          let t = demanded 15 (not (eqb b.0.value 0)) d.0 d.1 in
          stored_undone flag b.0 p v (plain_undone f.width flag.rest b.0 b.1) (not-true (eqb b.0.value 0) t) (held_inj b.0 r d.2)

field_undone : (f : Field) (l : List Bool) (r : Read) → read_field f l ≡ held r → Undone f l r
unfolding read_field write_field
field_undone f l r p = either f.spared refl p
  where
    either : (s : Bool) → f.spared ≡ s → cond s (read_spared f.width l) (read_plain f.width l) ≡ held r → Undone f l r
    either true e q = spared_undone f e l r q
    either false e q = let a = plain_undone f.width l r q in record { bits = rw e a.bits; small = a.small }

pub record Unread (fs : List Field) (l : List Bool) (b : Numbers) : Type 0 where
  pub bits : l ≡ write_fields fs b.values ++ b.rest
  pub fits : Fits fs b.values

pub written_read : (fs : List Field) (l : List Bool) (b : Numbers) → read_fields fs l ≡ held b → Unread fs l b
unfolding read_fields write_fields
written_read [] l b p = subst (Unread [] l) (held_inj (record { values = []; rest = l }) b p) (record { bits = refl; fits = record { same = refl; small = λ k h. absurd (omega arith) } })
written_read (f ∷ fs) l b p =
    let a = then_held (read_field f l) _ b p in
    let r = a.0 in
    let d = then_held (read_fields fs r.rest) _ b a.2 in
    let n = d.0 in
    let u = field_undone f l r a.1 in
    let v = written_read fs r.rest n d.1 in
    let same = v.fits.same in
    let found : Numbers = record { values = r.value ∷ n.values; rest = n.rest } in
    subst (Unread (f ∷ fs) l) (held_inj found b d.2)
    (record {
      bits = u.bits ∙ ap (λ (x : List Bool). write_field f r.value ++ x) v.bits ∙ sym (append_assoc (write_field f r.value) (write_fields fs n.values) n.rest);
      fits = record { same = omega (arith, same); small = smalls f fs r.value n.values u.small v.fits.small };
    })
  where
    smalls : (f : Field) (fs : List Field) (x : ℕ) (xs : List ℕ) → x < 2 ^ f.width → ((k : ℕ) → k < length fs → get_or xs k 0 < 2 ^ (get_or fs k float).width)
        → (k : ℕ) → k < suc (length fs) → get_or (x ∷ xs) k 0 < 2 ^ (get_or (f ∷ fs) k float).width
    smalls f fs x xs h g zero p = h
    smalls f fs x xs h g (suc k) p = g k (omega arith)
