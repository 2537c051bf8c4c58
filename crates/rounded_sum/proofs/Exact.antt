-- Slip 5's rounded sum: what the code works is the definition's remainder, and sum and remainder together are exact. Assumes nothing.
use mathlib.Core.Path.{◌≡◌, refl, sym, ap, ◌∙◌, subst}
use mathlib.Core.Logic.{◌⊎◌, inl, inr}
use mathlib.Core.Bool.{Bool, true, false, cond, beq}
use native.Mathlib.Nat.{zero-lt-suc}
use native.Mathlib.Omega.{arith}
use lib.IntN.{pos}
use lib.Dec.{T}
use lib.Ieee.{Float, nan, inf, fin, binary64, add, sub, fits, lt, of_bits}
use lib.Ieee.Bits.{is_true}
use lib.Ieee.Scale.{finite}
use Rattle.number.specs.Arith.{zero64}
use Rattle.number.specs.Frac.{Frac, frac, Pos, le_f, lt_f, add_f, neg_f, zero_f, sgn, val_f}
use Rattle.number.specs.Neighbour.{absolute}
use Rattle.number.proofs.Frac.{ring, val_f_pos, add_f_pos, neg_f_pos, lt_le_f, le_trans_f, le_or_lt}
use Rattle.number.proofs.Round.{Rounds}
use Rattle.number.proofs.Ops.{add_rounds}
use Rattle.number.proofs.Order.{lt_yes, lt_no}
use Rattle.rounded_sum.specs.declared.RoundedSum.{RoundedSum}
use Rattle.rounded_sum.specs.RoundedSum.{Same, left_of, nearest_to, rounded_sum, SumsExactly}
use Rattle.rounded_sum.proofs.Same.{same_refl, same_sym, same_trans, same_add, same_sub, add_turn, put_back, nearest_same, plus_zero}
use Rattle.rounded_sum.proofs.Held.{Exactly, exactly}
use Rattle.rounded_sum.proofs.Left.{left_exact}

pub zero_is : zero64 ≡ fin false 0 (pos 0)
unfolding of_bits
zero_is = refl

-- ---- a finite sum has finite operands
pub add_finite : (x y : Float) → T (finite (add binary64 x y)) → T (finite x) × T (finite y)
unfolding add
add_finite nan y t = absurd t
add_finite (inf s) nan t = absurd t
add_finite (inf true) (inf true) t = absurd t
add_finite (inf true) (inf false) t = absurd t
add_finite (inf false) (inf true) t = absurd t
add_finite (inf false) (inf false) t = absurd t
add_finite (inf s) (fin i n d) t = absurd t
add_finite (fin s m e) nan t = absurd t
add_finite (fin s m e) (inf i) t = absurd t
add_finite (fin s m e) (fin i n d) t = (tt, tt)

absolute_finite : (x : Float) → T (finite x) → T (finite (absolute x))
unfolding absolute
absolute_finite nan t = t
absolute_finite (inf s) t = t
absolute_finite (fin s m e) t = tt

-- what is left does not hang on the order
left_turn : (x y s : Float) → Same (left_of y x s) (left_of x y s)
left_turn x y s = same_sub (add_f (val_f y) (val_f x)) (add_f (val_f x) (val_f y)) (val_f s) (val_f s) (add_turn (val_f y) (val_f x)) (same_refl (val_f s))

left_pos : (x y s : Float) → Pos (left_of x y s)
left_pos x y s = add_f_pos (add_f (val_f x) (val_f y)) (neg_f (val_f s)) (add_f_pos (val_f x) (val_f y) (val_f_pos x) (val_f_pos y)) (neg_f_pos (val_f s) (val_f_pos s))

rounds_turn : (s x y : Float) → Rounds binary64 s (add_f (val_f x) (val_f y)) → Rounds binary64 s (add_f (val_f y) (val_f x))
rounds_turn s x y r =
    let h = add_turn (val_f x) (val_f y) in
    let P = add_f_pos (val_f x) (val_f y) (val_f_pos x) (val_f_pos y) in
    record {
      sign = r.sign;
      top = r.top;
      bottom = r.bottom;
      above = r.above;
      is = r.is;
      le = le_trans_f (sgn r.sign r.top r.bottom) (add_f (val_f x) (val_f y)) (add_f (val_f y) (val_f x)) P r.le h.0;
      ge = le_trans_f (add_f (val_f y) (val_f x)) (add_f (val_f x) (val_f y)) (sgn r.sign r.top r.bottom) P h.1 r.ge;
    }

-- ---- the two ways of the code
module _ (x y : Float) (p : T (fits binary64 x)) (q : T (fits binary64 y)) (t : T (finite (add binary64 x y))) where
  abbrev s : Float
  s = add binary64 x y

  abbrev first : Float
  first = sub binary64 y (sub binary64 s x)

  abbrev second : Float
  second = sub binary64 x (sub binary64 s y)

  first_exact : le_f (val_f (absolute y)) (val_f (absolute x)) → Exactly binary64 first (left_of x y s)
  first_exact h = let k = add_finite x y t in left_exact binary64 s x y p q k.0 k.1 h (add_rounds binary64 x y k.0 k.1) t

  second_exact : le_f (val_f (absolute x)) (val_f (absolute y)) → Exactly binary64 second (left_of x y s)
  second_exact h =
      let k = add_finite x y t in
      let e = left_exact binary64 s y x q p k.1 k.0 h (rounds_turn s x y (add_rounds binary64 x y k.0 k.1)) t in
      record { held = e.held; whole = e.whole; same = same_trans (val_f second) (left_of y x s) (left_of x y s) (left_pos y x s) e.same (left_turn x y s) }

  -- +0 added: the definition's remainder
  remainder_is : (r : Float) → Exactly binary64 r (left_of x y s) → add binary64 r zero64 ≡ nearest_to (left_of x y s)
  remainder_is r e = ap (add binary64 r) zero_is ∙ plus_zero r e.whole ∙ nearest_same (val_f r) (left_of x y s) (val_f_pos r) (left_pos x y s) e.same

  -- made of its parts
  pub made : (r : Float) → r ≡ nearest_to (left_of x y s) → record { sum = s; remainder = r } ≡ rounded_sum x y
  unfolding rounded_sum
  made r e = rw (is_true (finite s) t) (ap (λ (z : Float). make z) e)
    where
      make : Float → RoundedSum
      make z = record { sum = s; remainder = z }

  pub first_is : lt (absolute x) (absolute y) ≡ false → add binary64 first zero64 ≡ nearest_to (left_of x y s)
  first_is h =
      let k = add_finite x y t in
      remainder_is first (first_exact (lt_no (absolute x) (absolute y) (absolute_finite x k.0) (absolute_finite y k.1) (subst (λ (b : Bool). T (mathlib.Core.Bool.not b)) (sym h) tt)))

  pub second_is : lt (absolute x) (absolute y) ≡ true → add binary64 second zero64 ≡ nearest_to (left_of x y s)
  second_is h =
      let k = add_finite x y t in
      remainder_is second (second_exact (lt_le_f (val_f (absolute x)) (val_f (absolute y)) (lt_yes (absolute x) (absolute y) (absolute_finite x k.0) (absolute_finite y k.1) (subst T (sym h) tt))))

  -- ---- sum and remainder are x + y exactly
  record Worked : Type 0 where
    pub float : Float
    pub exact : Exactly binary64 float (left_of x y s)

  worked : Worked
  worked = go (le_or_lt (val_f (absolute y)) (val_f (absolute x)))
    where
      go : le_f (val_f (absolute y)) (val_f (absolute x)) ⊎ lt_f (val_f (absolute x)) (val_f (absolute y)) → Worked
      go (inl h) = record { float = first; exact = first_exact h }
      go (inr h) = record { float = second; exact = second_exact (lt_le_f (val_f (absolute x)) (val_f (absolute y)) h) }

  nothing_added : (q : Frac) → Same q (add_f q zero_f)
  nothing_added (frac a b c) = (simp ring (omega arith), simp ring (omega arith))

  left_held : Exactly binary64 (nearest_to (left_of x y s)) (left_of x y s)
  left_held =
      let r = worked.float in
      let e = worked.exact in
      let o = fin false 0 (pos 0) in
      let n = nothing_added (val_f r) in
      let P = add_f_pos (val_f r) zero_f (val_f_pos r) (zero-lt-suc 0) in
      let a = exactly binary64 (add binary64 r o) (add_f (val_f r) zero_f) P (add_rounds binary64 r o e.whole tt) (record { float = r; held = e.held; whole = e.whole; same = n }) in
      let v : Same (val_f (add binary64 r o)) (left_of x y s) = same_trans (val_f (add binary64 r o)) (val_f r) (left_of x y s) (val_f_pos r) (same_trans (val_f (add binary64 r o)) (add_f (val_f r) zero_f) (val_f r) P a.same (same_sym (val_f r) (add_f (val_f r) zero_f) n)) e.same in
      let i : add binary64 r o ≡ nearest_to (left_of x y s) = plus_zero r e.whole ∙ nearest_same (val_f r) (left_of x y s) (val_f_pos r) (left_pos x y s) e.same in
      subst (λ (z : Float). Exactly binary64 z (left_of x y s)) i (record { held = a.held; whole = a.whole; same = v })

  pub sum_exact : SumsExactly x y (rounded_sum x y)
  unfolding rounded_sum
  sum_exact =
      let r = nearest_to (left_of x y s) in
      rw (is_true (finite s) t)
      (record {
        remainder_finite = left_held.whole;
        remainder_held = left_held.held;
        exact = same_trans (add_f (val_f s) (val_f r)) (add_f (val_f s) (left_of x y s)) (add_f (val_f x) (val_f y)) (add_f_pos (val_f s) (left_of x y s) (val_f_pos s) (left_pos x y s))
            (same_add (val_f s) (val_f s) (val_f r) (left_of x y s) (same_refl (val_f s)) left_held.same) (put_back (add_f (val_f x) (val_f y)) (val_f s));
      })
