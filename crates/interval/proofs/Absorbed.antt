-- A sum with what is too small to move the other operand: each corner keeps the value of that operand's end. Assumes nothing.
use mathlib.Core.Path.{◌≡◌, sym, ◌∙◌}
use mathlib.Core.Bool.{Bool, true, false, not, and-true}
use lib.Dec.{T}
use lib.Ieee.{Float, nan, inf, fin, binary64, fits, is_nan, lt, add, sub}
use lib.Ieee.Bits.{is_true}
use lib.Ieee.Scale.{finite}
use Rattle.number.specs.Frac.{le_f, neg_f, add_f, val_f}
use Rattle.number.specs.Neighbour.{next_up, next_down, least, greatest}
use Rattle.number.proofs.Frac.{val_f_pos, le_refl_f, le_trans_f, add_f_pos, neg_f_pos, add_mono_f}
use Rattle.number.proofs.Order.{lt_no, least_is, greatest_is, over, under, both}
use Rattle.number.proofs.Round.{rounds_mono, rounds_no_nan, rounds_fits}
use Rattle.number.proofs.Extended.{stays_under, stays_over}
use Rattle.number.proofs.Ops.{add_rounds, sub_rounds}
use Rattle.number.proofs.Inside.{next_down_same, next_up_same}
use Rattle.interval.specs.declared.Interval.{Interval}
use Rattle.interval.specs.Interval.{outward, around, add_i}
use Rattle.interval.proofs.Near.{pick_least, pick_greatest}
use Rattle.interval.proofs.Bounded.{Within, Bounded}

-- ---- what the code's tests tell of a sum that may not be finite
not_above : (x r : Float) → T (finite x) → T (not (is_nan r)) → T (not (lt x r)) → T (under r)
unfolding lt is_nan
not_above x nan t n h = absurd n
not_above nan (inf s) t n h = absurd t
not_above (inf p) (inf s) t n h = absurd t
not_above (fin p m e) (inf true) t n h = tt
not_above (fin p m e) (inf false) t n h = absurd h
not_above x (fin s m e) t n h = tt

not_below : (x r : Float) → T (finite x) → T (not (is_nan r)) → T (not (lt r x)) → T (over r)
unfolding lt is_nan
not_below x nan t n h = absurd n
not_below nan (inf s) t n h = absurd t
not_below (inf p) (inf s) t n h = absurd t
not_below (fin p m e) (inf true) t n h = absurd h
not_below (fin p m e) (inf false) t n h = tt
not_below x (fin s m e) t n h = tt

-- r is x in value
record Same (x r : Float) : Type 0 where
  finite_r : T (finite r)
  fits_r : T (fits binary64 r)
  le : le_f (val_f r) (val_f x)
  ge : le_f (val_f x) (val_f r)

module _ (F x : Float) (f : T (finite F)) (t : T (finite x)) (up : T (not (lt x (add binary64 x F)))) (down : T (not (lt (sub binary64 x F) x))) where
  corner : (w : Float) → Within F w → Same x (add binary64 x w)
  corner w k =
      let X = val_f x in let Y = val_f F in let W = val_f w in
      let r0 = sub binary64 x F in let r = add binary64 x w in let r1 = add binary64 x F in
      let q0 = add_f X (neg_f Y) in let q = add_f X W in let q1 = add_f X Y in
      let R0 = sub_rounds binary64 x F t f in let R = add_rounds binary64 x w t k.is_finite in let R1 = add_rounds binary64 x F t f in
      let Q0 = add_f_pos X (neg_f Y) (val_f_pos x) (neg_f_pos Y (val_f_pos F)) in let Q = add_f_pos X W (val_f_pos x) (val_f_pos w) in let Q1 = add_f_pos X Y (val_f_pos x) (val_f_pos F) in
      let l : le_f q0 q = add_mono_f X X (neg_f Y) W (le_refl_f X) k.over in
      let h : le_f q q1 = add_mono_f X X W Y (le_refl_f X) k.under in
      let u1 = not_above x r1 t (rounds_no_nan binary64 r1 q1 R1) up in
      let o0 = not_below x r0 t (rounds_no_nan binary64 r0 q0 R0) down in
      let u = stays_under binary64 r r1 q q1 R R1 Q Q1 h u1 in
      let o = stays_over binary64 r0 r q0 q R0 R Q0 Q l o0 in
      let s = both r o u in
      let s1 = both r1 (stays_over binary64 r r1 q q1 R R1 Q Q1 h o) u1 in
      let s0 = both r0 o0 (stays_under binary64 r0 r q0 q R0 R Q0 Q l u) in
      record {
        finite_r = s;
        fits_r = rounds_fits binary64 r q R;
        le = le_trans_f (val_f r) (val_f r1) X (val_f_pos r1) (rounds_mono binary64 r r1 q q1 R R1 s s1 Q Q1 h) (lt_no x r1 t s1 up);
        ge = le_trans_f X (val_f r0) (val_f r) (val_f_pos r0) (lt_no r0 x s0 t down) (rounds_mono binary64 r0 r q0 q R0 R s0 s Q0 Q l);
      }

-- ---- four corners of two values
module _ (g : Bool) (x y : Float) (t : T (finite x)) (p : T (fits binary64 x)) (u : T (finite y)) (q : T (fits binary64 y)) where
  around_same : (a b c d : Float) → Same x a → Same x b → Same y c → Same y d → around g a b c d ≡ outward g (least x y) (greatest x y)
  unfolding around outward
  around_same a b c d sa sb sc sd =
      let l1 = least_is a b sa.finite_r sb.finite_r sa.fits_r sb.fits_r in
      let l2 = least_is c d sc.finite_r sd.finite_r sc.fits_r sd.fits_r in
      let l = least_is (least a b) (least c d) l1.finite_r l2.finite_r l1.fits_r l2.fits_r in
      let m = least_is x y t u p q in
      let g1 = greatest_is a b sa.finite_r sb.finite_r sa.fits_r sb.fits_r in
      let g2 = greatest_is c d sc.finite_r sd.finite_r sc.fits_r sd.fits_r in
      let k = greatest_is (greatest a b) (greatest c d) g1.finite_r g2.finite_r g1.fits_r g2.fits_r in
      let n = greatest_is x y t u p q in
      let L = least (least a b) (least c d) in let M = least x y in
      let U = greatest (greatest a b) (greatest c d) in let N = greatest x y in
      let down : le_f (val_f L) (val_f M) = pick_least (λ (z : Float). le_f (val_f L) (val_f z)) x y
      (le_trans_f (val_f L) (val_f a) (val_f x) (val_f_pos a) (le_trans_f (val_f L) (val_f (least a b)) (val_f a) (val_f_pos (least a b)) l.left l1.left) sa.le)
      (le_trans_f (val_f L) (val_f c) (val_f y) (val_f_pos c) (le_trans_f (val_f L) (val_f (least c d)) (val_f c) (val_f_pos (least c d)) l.right l2.left) sc.le) in
      let from : (z : Float) (s : Float) → le_f (val_f M) (val_f s) → Same s z → le_f (val_f M) (val_f z) = λ z s h e. le_trans_f (val_f M) (val_f s) (val_f z) (val_f_pos s) h e.ge in
      let back : le_f (val_f M) (val_f L) = pick_least (λ (z : Float). le_f (val_f M) (val_f z)) (least a b) (least c d)
      (pick_least (λ (z : Float). le_f (val_f M) (val_f z)) a b (from a x m.left sa) (from b x m.left sb))
      (pick_least (λ (z : Float). le_f (val_f M) (val_f z)) c d (from c y m.right sc) (from d y m.right sd)) in
      let up : le_f (val_f N) (val_f U) = pick_greatest (λ (z : Float). le_f (val_f z) (val_f U)) x y
      (le_trans_f (val_f x) (val_f a) (val_f U) (val_f_pos a) sa.ge (le_trans_f (val_f a) (val_f (greatest a b)) (val_f U) (val_f_pos (greatest a b)) g1.left k.left))
      (le_trans_f (val_f y) (val_f c) (val_f U) (val_f_pos c) sc.ge (le_trans_f (val_f c) (val_f (greatest c d)) (val_f U) (val_f_pos (greatest c d)) g2.left k.right)) in
      let to : (z : Float) (s : Float) → le_f (val_f s) (val_f N) → Same s z → le_f (val_f z) (val_f N) = λ z s h e. le_trans_f (val_f z) (val_f s) (val_f N) (val_f_pos s) e.le h in
      let back' : le_f (val_f U) (val_f N) = pick_greatest (λ (z : Float). le_f (val_f z) (val_f N)) (greatest a b) (greatest c d)
      (pick_greatest (λ (z : Float). le_f (val_f z) (val_f N)) a b (to a x n.left sa) (to b x n.left sb))
      (pick_greatest (λ (z : Float). le_f (val_f z) (val_f N)) c d (to c y n.right sc) (to d y n.right sd)) in
      moved L M U N (next_down_same L M l.fits_r l.finite_r m.fits_r m.finite_r down back) (next_up_same U N k.fits_r k.finite_r n.fits_r n.finite_r back' up)
    where
      moved : (L M U N : Float) → next_down L ≡ next_down M → next_up U ≡ next_up N → outward g L U ≡ outward g M N
      moved L M U N p q = rw (p, q)

-- ---- x's ends, which a sum with F, or its negative, does not move
pub record Firm (F : Float) (x : Interval) : Type 0 where
  pub lower_finite : T (finite x.lower)
  pub lower_fits : T (fits binary64 x.lower)
  pub upper_finite : T (finite x.upper)
  pub upper_fits : T (fits binary64 x.upper)
  pub lower_up : T (not (lt x.lower (add binary64 x.lower F)))
  pub lower_down : T (not (lt (sub binary64 x.lower F) x.lower))
  pub upper_up : T (not (lt x.upper (add binary64 x.upper F)))
  pub upper_down : T (not (lt (sub binary64 x.upper F) x.upper))

module _ (F : Float) (f : T (finite F)) (x : Interval) (k : Firm F x) where
  with_small : (y : Interval) → Bounded F y → add_i x y ≡ outward x.sound (least x.lower x.upper) (greatest x.lower x.upper)
  unfolding add_i
  with_small y b =
      let low = corner F x.lower f k.lower_finite k.lower_up k.lower_down in
      let high = corner F x.upper f k.upper_finite k.upper_up k.upper_down in
      rw (is_true y.sound b.is_sound, and-true x.sound)
      (around_same x.sound x.lower x.upper k.lower_finite k.lower_fits k.upper_finite k.upper_fits _ _ _ _ (low _ b.at_lower) (low _ b.at_upper) (high _ b.at_lower) (high _ b.at_upper))

  pub absorbed : (y z : Interval) → Bounded F y → Bounded F z → add_i x y ≡ add_i x z
  absorbed y z p q = with_small y p ∙ sym (with_small z q)
