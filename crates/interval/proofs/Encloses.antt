-- Sound ends enclose: what lies between the operands' ends, worked exactly, lies between the result's, and so does what is rounded from it. Assumes nothing.
use mathlib.Core.Path.{sym, subst}
use mathlib.Core.Logic.{◌⊎◌, inl, inr}
use mathlib.Core.Bool.{Bool, true, false, ◌&&◌, ◌||◌}
use Prim.Native.Nat.{zero, suc}
use native.Mathlib.Nat.{zero-lt-suc}
use native.Mathlib.Omega.{arith}
use lib.Dec.{T}
use lib.Ieee.{Float, nan, inf, fin, binary64, of_bits, fits, lt, add, sub, mul, div}
use lib.Ieee.Fits.{and_l, and_r, neg-fits}
use lib.Ieee.Scale.{finite}
use Rattle.number.specs.Frac.{Frac, Pos, le_f, lt_f, zero_f, neg_f, add_f, sub_f, mul_f, inv_f, div_f, val_f}
use Rattle.number.specs.Arith.{zero64}
use Rattle.number.specs.Neighbour.{next_up, next_down, least, greatest}
use Rattle.number.proofs.Frac.{val_f_pos, le_refl_f, le_trans_f, lt_le_trans_f, le_lt_trans_f, add_f_pos, mul_f_pos, neg_f_pos, add_mono_f, neg_anti_f}
use Rattle.number.proofs.Hull.{mul_lower, mul_upper, inv_anti_above, inv_anti_below, inv_f_pos_above, inv_f_pos_below}
use Rattle.number.proofs.Round.{Rounds, rounds_over, rounds_under, rounds_above, rounds_below, rounds_no_nan, rounds_fits}
use Rattle.number.proofs.Finite.{rounds_finite}
use Rattle.number.proofs.Ops.{NonZero, add_rounds, sub_rounds, mul_rounds, div_rounds, neg_val, neg_finite}
use Rattle.number.proofs.Neighbour.{next_up_lt, next_down_lt, next_up_fits, next_down_fits, next_up_finite, next_down_finite}
use Rattle.number.proofs.Order.{lt_yes, least_is, greatest_is, both, finite_over, finite_under, least_over, greatest_under, least_nan, greatest_nan}
use Rattle.interval.specs.declared.Interval.{Interval}
use Rattle.interval.specs.Interval.{point, outward, around, corners, one_sign, add_i, sub_i, mul_i, div_i, neg_i}

-- the ends are finite values of the format, and q lies between them
pub record In (x : Interval) (q : Frac) : Type 0 where
  pub lower_finite : T (finite x.lower)
  pub upper_finite : T (finite x.upper)
  pub lower_fits : T (fits binary64 x.lower)
  pub upper_fits : T (fits binary64 x.upper)
  pub den : Pos q
  pub from : le_f (val_f x.lower) q
  pub to : le_f q (val_f x.upper)

pub point_in : (x : Float) → T (fits binary64 x) → T (finite x) → In (point x) (val_f x)
unfolding point
point_in x p t = record { lower_finite = t; upper_finite = t; lower_fits = p; upper_fits = p; den = val_f_pos x; from = le_refl_f (val_f x); to = le_refl_f (val_f x) }

-- what is rounded from an enclosed fraction is enclosed: so the float run needs no corners of its own
pub rounded_in : (x : Interval) (r : Float) (q : Frac) → In x q → Rounds binary64 r q → T (finite r) × In x (val_f r)
rounded_in x r q i k =
    let t = rounds_finite binary64 r x.lower x.upper q k i.lower_fits i.lower_finite i.upper_fits i.upper_finite i.den i.from i.to in (
      t,
      record {
        lower_finite = i.lower_finite;
        upper_finite = i.upper_finite;
        lower_fits = i.lower_fits;
        upper_fits = i.upper_fits;
        den = val_f_pos r;
        from = rounds_above binary64 r x.lower q k t i.lower_fits i.lower_finite i.den i.from;
        to = rounds_below binary64 r x.upper q k t i.upper_fits i.upper_finite i.den i.to;
      },
    )

-- ---- negation
pub neg_in : (x : Interval) (q : Frac) → In x q → In (neg_i x) (neg_f q)
unfolding neg_i
neg_in x q i = record {
  lower_finite = neg_finite x.upper i.upper_finite;
  upper_finite = neg_finite x.lower i.lower_finite;
  lower_fits = neg-fits binary64 x.upper i.upper_fits;
  upper_fits = neg-fits binary64 x.lower i.lower_fits;
  den = neg_f_pos q i.den;
  from = subst (λ (z : Frac). le_f z (neg_f q)) (sym (neg_val x.upper)) (neg_anti_f q (val_f x.upper) i.to);
  to = subst (λ (z : Frac). le_f (neg_f q) z) (sym (neg_val x.lower)) (neg_anti_f (val_f x.lower) q i.from);
}

-- ---- the outward step
module _ (g : Bool) (a b : Float) (t : T (outward g a b).sound) where
  lower_ok : T (finite (next_down a))
  unfolding outward
  lower_ok = and_r g (finite (next_down a)) (and_l (g && finite (next_down a)) (finite (next_up b)) t)

  upper_ok : T (finite (next_up b))
  unfolding outward
  upper_ok = and_r (g && finite (next_down a)) (finite (next_up b)) t

  pub before_ok : T g
  unfolding outward
  before_ok = and_l g (finite (next_down a)) (and_l (g && finite (next_down a)) (finite (next_up b)) t)

  enclosed : (q : Frac) → Pos q → le_f (val_f (next_down a)) q → le_f q (val_f (next_up b)) → In (outward g a b) q
  unfolding outward
  enclosed q Q h k = record { lower_finite = lower_ok; upper_finite = upper_ok; lower_fits = next_down_fits a; upper_fits = next_up_fits b; den = Q; from = h; to = k }

-- from a rounded corner w to an exact corner q whose rounded value r is not beyond w
step_down : (w r : Float) (q : Frac) → T (fits binary64 w) → T (finite w) → T (finite (next_down w)) → Rounds binary64 r q → T (finite r) → Pos q → le_f (val_f w) (val_f r) → le_f (val_f (next_down w)) q
step_down w r q p t n k v Q h =
    rounds_over binary64 r (next_down w) q k v (next_down_fits w) n Q (lt_le_trans_f (val_f (next_down w)) (val_f w) (val_f r) (val_f_pos w) (val_f_pos r) (next_down_lt w p t n) h)

step_up : (w r : Float) (q : Frac) → T (fits binary64 w) → T (finite w) → T (finite (next_up w)) → Rounds binary64 r q → T (finite r) → Pos q → le_f (val_f r) (val_f w) → le_f q (val_f (next_up w))
step_up w r q p t n k v Q h =
    rounds_under binary64 r (next_up w) q k v (next_up_fits w) n Q (le_lt_trans_f (val_f r) (val_f w) (val_f (next_up w)) (val_f_pos r) (val_f_pos w) h (next_up_lt w p t n))

-- ---- four rounded corners and their exact fractions
record Corner (r : Float) (q : Frac) : Type 0 where
  rounds : Rounds binary64 r q
  den : Pos q

module _ (a b c d : Float) (A B C D : Frac) (ra : Corner a A) (rb : Corner b B) (rc : Corner c C) (rd : Corner d D) where
  abbrev L : Float
  L = least (least a b) (least c d)

  abbrev U : Float
  U = greatest (greatest a b) (greatest c d)

  record Four : Type 0 where
    fa : T (finite a)
    fb : T (finite b)
    fc : T (finite c)
    fd : T (finite d)

  -- the least above minus infinity and the greatest below plus infinity: all are finite
  four : T (finite L) → T (finite U) → Four
  four t u =
      let na = rounds_no_nan binary64 a A ra.rounds in
      let nb = rounds_no_nan binary64 b B rb.rounds in
      let nc = rounds_no_nan binary64 c C rc.rounds in
      let nd = rounds_no_nan binary64 d D rd.rounds in
      let l = least_over (least a b) (least c d) (least_nan a b na nb) (least_nan c d nc nd) (finite_over L t) in
      let l1 = least_over a b na nb l.0 in
      let l2 = least_over c d nc nd l.1 in
      let m = greatest_under (greatest a b) (greatest c d) (greatest_nan a b na nb) (greatest_nan c d nc nd) (finite_under U u) in
      let m1 = greatest_under a b na nb m.0 in
      let m2 = greatest_under c d nc nd m.1 in
      record { fa = both a l1.0 m1.0; fb = both b l1.1 m1.1; fc = both c l2.0 m2.0; fd = both d l2.1 m2.1 }

  record Beyond : Type 0 where
    la : le_f (val_f (next_down L)) A
    lb : le_f (val_f (next_down L)) B
    lc : le_f (val_f (next_down L)) C
    ld : le_f (val_f (next_down L)) D
    ua : le_f A (val_f (next_up U))
    ub : le_f B (val_f (next_up U))
    uc : le_f C (val_f (next_up U))
    ud : le_f D (val_f (next_up U))

  beyond : T (finite (next_down L)) → T (finite (next_up U)) → Beyond
  beyond t u =
      let k = four (next_down_finite L t) (next_up_finite U u) in
      let ia = rounds_fits binary64 a A ra.rounds in
      let ib = rounds_fits binary64 b B rb.rounds in
      let ic = rounds_fits binary64 c C rc.rounds in
      let id = rounds_fits binary64 d D rd.rounds in
      let l1 = least_is a b k.fa k.fb ia ib in
      let l2 = least_is c d k.fc k.fd ic id in
      let l = least_is (least a b) (least c d) l1.finite_r l2.finite_r l1.fits_r l2.fits_r in
      let m1 = greatest_is a b k.fa k.fb ia ib in
      let m2 = greatest_is c d k.fc k.fd ic id in
      let m = greatest_is (greatest a b) (greatest c d) m1.finite_r m2.finite_r m1.fits_r m2.fits_r in
      let vl = val_f L in
      let vu = val_f U in
      let p1 = val_f_pos (least a b) in
      let p2 = val_f_pos (least c d) in
      let q1 = val_f_pos (greatest a b) in
      let q2 = val_f_pos (greatest c d) in
      record {
        la = step_down L a A l.fits_r l.finite_r t ra.rounds k.fa ra.den (le_trans_f vl (val_f (least a b)) (val_f a) p1 l.left l1.left);
        lb = step_down L b B l.fits_r l.finite_r t rb.rounds k.fb rb.den (le_trans_f vl (val_f (least a b)) (val_f b) p1 l.left l1.right);
        lc = step_down L c C l.fits_r l.finite_r t rc.rounds k.fc rc.den (le_trans_f vl (val_f (least c d)) (val_f c) p2 l.right l2.left);
        ld = step_down L d D l.fits_r l.finite_r t rd.rounds k.fd rd.den (le_trans_f vl (val_f (least c d)) (val_f d) p2 l.right l2.right);
        ua = step_up U a A m.fits_r m.finite_r u ra.rounds k.fa ra.den (le_trans_f (val_f a) (val_f (greatest a b)) vu q1 m1.left m.left);
        ub = step_up U b B m.fits_r m.finite_r u rb.rounds k.fb rb.den (le_trans_f (val_f b) (val_f (greatest a b)) vu q1 m1.right m.left);
        uc = step_up U c C m.fits_r m.finite_r u rc.rounds k.fc rc.den (le_trans_f (val_f c) (val_f (greatest c d)) vu q2 m2.left m.right);
        ud = step_up U d D m.fits_r m.finite_r u rd.rounds k.fd rd.den (le_trans_f (val_f d) (val_f (greatest c d)) vu q2 m2.right m.right);
      }

-- an exact operation is bounded by its four corners: then sound ends enclose its result
module _ (op : Float → Float → Float) (opF : Frac → Frac → Frac) (g : Bool) (x y : Interval) (r : Frac) (R : Pos r) where
  abbrev at : (Interval → Float) → (Interval → Float) → Frac
  at end end' = opF (val_f (end x)) (val_f (end' y))

  abbrev low : Interval → Float
  low i = i.lower

  abbrev high : Interval → Float
  high i = i.upper

  record Hull : Type 0 where
    ra : Corner (op x.lower y.lower) (at low low)
    rb : Corner (op x.lower y.upper) (at low high)
    rc : Corner (op x.upper y.lower) (at high low)
    rd : Corner (op x.upper y.upper) (at high high)
    over : (q : Frac) → le_f q (at low low) → le_f q (at low high) → le_f q (at high low) → le_f q (at high high) → le_f q r
    under : (q : Frac) → le_f (at low low) q → le_f (at low high) q → le_f (at high low) q → le_f (at high high) q → le_f r q

  abbrev least_corner : Float
  least_corner = least (least (op x.lower y.lower) (op x.lower y.upper)) (least (op x.upper y.lower) (op x.upper y.upper))

  abbrev greatest_corner : Float
  greatest_corner = greatest (greatest (op x.lower y.lower) (op x.lower y.upper)) (greatest (op x.upper y.lower) (op x.upper y.upper))

  corners_in : Hull → T (corners op g x y).sound → In (corners op g x y) r
  unfolding around
  corners_in h t =
      let z = beyond _ _ _ _ _ _ _ _ h.ra h.rb h.rc h.rd (lower_ok g _ _ t) (upper_ok g _ _ t) in
      enclosed g _ _ t r R (h.over (val_f (next_down least_corner)) z.la z.lb z.lc z.ld) (h.under (val_f (next_up greatest_corner)) z.ua z.ub z.uc z.ud)

corners_before : (op : Float → Float → Float) (g : Bool) (x y : Interval) → T (corners op g x y).sound → T g
unfolding around
corners_before op g x y t = before_ok g _ _ t

-- ---- sum, difference, product
module _ (x y : Interval) (p q : Frac) (i : In x p) (j : In y q) where
  abbrev xl : Frac
  xl = val_f x.lower

  abbrev xh : Frac
  xh = val_f x.upper

  abbrev yl : Frac
  yl = val_f y.lower

  abbrev yh : Frac
  yh = val_f y.upper

  sum_corner : (a b : Float) → T (finite a) → T (finite b) → Corner (add binary64 a b) (add_f (val_f a) (val_f b))
  sum_corner a b s t = record { rounds = add_rounds binary64 a b s t; den = add_f_pos (val_f a) (val_f b) (val_f_pos a) (val_f_pos b) }

  pub add_in : T (add_i x y).sound → In (add_i x y) (add_f p q)
  unfolding add_i
  add_in =
      corners_in (add binary64) add_f (x.sound && y.sound) x y (add_f p q) (add_f_pos p q i.den j.den)
      (record {
        ra = sum_corner x.lower y.lower i.lower_finite j.lower_finite;
        rb = sum_corner x.lower y.upper i.lower_finite j.upper_finite;
        rc = sum_corner x.upper y.lower i.upper_finite j.lower_finite;
        rd = sum_corner x.upper y.upper i.upper_finite j.upper_finite;
        over = λ z a b c d. le_trans_f z (add_f xl yl) (add_f p q) (add_f_pos xl yl (val_f_pos x.lower) (val_f_pos y.lower)) a (add_mono_f xl p yl q i.from j.from);
        under = λ z a b c d. le_trans_f (add_f p q) (add_f xh yh) z (add_f_pos xh yh (val_f_pos x.upper) (val_f_pos y.upper)) (add_mono_f p xh q yh i.to j.to) d;
      })

  difference_pos : (a b : Frac) → Pos a → Pos b → Pos (sub_f a b)
  difference_pos a b A B = add_f_pos a (neg_f b) A (neg_f_pos b B)

  difference_corner : (a b : Float) → T (finite a) → T (finite b) → Corner (sub binary64 a b) (sub_f (val_f a) (val_f b))
  difference_corner a b s t = record { rounds = sub_rounds binary64 a b s t; den = difference_pos (val_f a) (val_f b) (val_f_pos a) (val_f_pos b) }

  pub sub_in : T (sub_i x y).sound → In (sub_i x y) (sub_f p q)
  unfolding sub_i
  sub_in =
      corners_in (sub binary64) sub_f (x.sound && y.sound) x y (sub_f p q) (difference_pos p q i.den j.den)
      (record {
        ra = difference_corner x.lower y.lower i.lower_finite j.lower_finite;
        rb = difference_corner x.lower y.upper i.lower_finite j.upper_finite;
        rc = difference_corner x.upper y.lower i.upper_finite j.lower_finite;
        rd = difference_corner x.upper y.upper i.upper_finite j.upper_finite;
        over = λ z a b c d. le_trans_f z (sub_f xl yh) (sub_f p q) (difference_pos xl yh (val_f_pos x.lower) (val_f_pos y.upper)) b (add_mono_f xl p (neg_f yh) (neg_f q) i.from (neg_anti_f q yh j.to));
        under = λ z a b c d. le_trans_f (sub_f p q) (sub_f xh yl) z (difference_pos xh yl (val_f_pos x.upper) (val_f_pos y.lower)) (add_mono_f p xh (neg_f q) (neg_f yl) i.to (neg_anti_f yl q j.from)) c;
      })

  product_corner : (a b : Float) → T (finite a) → T (finite b) → Corner (mul binary64 a b) (mul_f (val_f a) (val_f b))
  product_corner a b s t = record { rounds = mul_rounds binary64 a b s t; den = mul_f_pos (val_f a) (val_f b) (val_f_pos a) (val_f_pos b) }

  pub mul_in : T (mul_i x y).sound → In (mul_i x y) (mul_f p q)
  unfolding mul_i
  mul_in =
      corners_in (mul binary64) mul_f (x.sound && y.sound) x y (mul_f p q) (mul_f_pos p q i.den j.den)
      (record {
        ra = product_corner x.lower y.lower i.lower_finite j.lower_finite;
        rb = product_corner x.lower y.upper i.lower_finite j.upper_finite;
        rc = product_corner x.upper y.lower i.upper_finite j.lower_finite;
        rd = product_corner x.upper y.upper i.upper_finite j.upper_finite;
        over = λ z a b c d. mul_lower z xl p xh yl q yh (val_f_pos x.lower) i.den (val_f_pos x.upper) (val_f_pos y.lower) j.den (val_f_pos y.upper) i.from i.to j.from j.to a b c d;
        under = λ z a b c d. mul_upper z xl p xh yl q yh (val_f_pos x.lower) i.den (val_f_pos x.upper) (val_f_pos y.lower) j.den (val_f_pos y.upper) i.from i.to j.from j.to a b c d;
      })

-- ---- quotient
pub sign_nonzero : (y : Float) → T (finite y) → lt_f zero_f (val_f y) ⊎ lt_f (val_f y) zero_f → NonZero y
sign_nonzero nan t h = absurd t
sign_nonzero (inf s) t h = absurd t
sign_nonzero (fin false zero e) t (inl h) = absurd (omega arith)
sign_nonzero (fin true zero e) t (inl h) = absurd (omega arith)
sign_nonzero (fin false zero e) t (inr h) = absurd (omega arith)
sign_nonzero (fin true zero e) t (inr h) = absurd (omega arith)
sign_nonzero (fin s (suc m) e) t h = zero-lt-suc m

-- a divisor of one sign: its ends and what lies between are not zero, and 1 / y turns the order
record Divisor (y : Interval) (q : Frac) : Type 0 where
  nl : NonZero y.lower
  nh : NonZero y.upper
  il : Pos (inv_f (val_f y.lower))
  iq : Pos (inv_f q)
  ih : Pos (inv_f (val_f y.upper))
  first : le_f (inv_f (val_f y.upper)) (inv_f q)
  second : le_f (inv_f q) (inv_f (val_f y.lower))
  sign : lt_f zero_f q ⊎ lt_f q zero_f

or_split : (a b : Bool) → T (a || b) → T a ⊎ T b
or_split true b t = inl tt
or_split false b t = inr t

divisor : (y : Interval) (q : Frac) → In y q → T (one_sign y) → Divisor y q
unfolding one_sign of_bits
divisor y q j t = go (or_split (lt zero64 y.lower) (lt y.upper zero64) t)
  where
    go : T (lt zero64 y.lower) ⊎ T (lt y.upper zero64) → Divisor y q
    go (inl u) =
        let yl = val_f y.lower in
        let yh = val_f y.upper in
        let l : lt_f zero_f yl = lt_yes zero64 y.lower tt j.lower_finite u in
        let m : lt_f zero_f q = lt_le_trans_f zero_f yl q (val_f_pos y.lower) j.den l j.from in
        let h : lt_f zero_f yh = lt_le_trans_f zero_f q yh j.den (val_f_pos y.upper) m j.to in
        record {
          nl = sign_nonzero y.lower j.lower_finite (inl l);
          nh = sign_nonzero y.upper j.upper_finite (inl h);
          il = inv_f_pos_above yl l;
          iq = inv_f_pos_above q m;
          ih = inv_f_pos_above yh h;
          first = inv_anti_above q yh m h j.to;
          second = inv_anti_above yl q l m j.from;
          sign = inl m;
        }
    go (inr u) =
        let yl = val_f y.lower in
        let yh = val_f y.upper in
        let h : lt_f yh zero_f = lt_yes y.upper zero64 j.upper_finite tt u in
        let m : lt_f q zero_f = le_lt_trans_f q yh zero_f j.den (val_f_pos y.upper) j.to h in
        let l : lt_f yl zero_f = le_lt_trans_f yl q zero_f (val_f_pos y.lower) j.den j.from m in
        record {
          nl = sign_nonzero y.lower j.lower_finite (inr l);
          nh = sign_nonzero y.upper j.upper_finite (inr h);
          il = inv_f_pos_below yl l;
          iq = inv_f_pos_below q m;
          ih = inv_f_pos_below yh h;
          first = inv_anti_below q yh m h j.to;
          second = inv_anti_below yl q l m j.from;
          sign = inr m;
        }

quotient_corner : (a b : Float) → T (finite a) → NonZero b → Pos (inv_f (val_f b)) → Corner (div binary64 a b) (div_f (val_f a) (val_f b))
quotient_corner a b s n P = record { rounds = div_rounds binary64 a b s n; den = mul_f_pos (val_f a) (inv_f (val_f b)) (val_f_pos a) P }

module _ (x y : Interval) (t : T (div_i x y).sound) where
  div_before : T (x.sound && y.sound && one_sign y)
  unfolding div_i
  div_before = corners_before (div binary64) (x.sound && y.sound && one_sign y) x y t

  of_one_sign : T (one_sign y)
  of_one_sign = and_r (x.sound && y.sound) (one_sign y) div_before

  -- the divisor is not zero
  pub div_sign : (q : Frac) → In y q → lt_f zero_f q ⊎ lt_f q zero_f
  div_sign q j = (divisor y q j of_one_sign).sign

  pub div_in : (p q : Frac) → In x p → In y q → In (div_i x y) (div_f p q)
  unfolding div_i
  div_in p q i j =
      let D = divisor y q j of_one_sign in
      let xl = val_f x.lower in
      let xh = val_f x.upper in
      let rl = inv_f (val_f y.lower) in
      let rh = inv_f (val_f y.upper) in
      let XL = val_f_pos x.lower in
      let XH = val_f_pos x.upper in
      corners_in (div binary64) div_f (x.sound && y.sound && one_sign y) x y (div_f p q) (mul_f_pos p (inv_f q) i.den D.iq)
      (record {
        ra = quotient_corner x.lower y.lower i.lower_finite D.nl D.il;
        rb = quotient_corner x.lower y.upper i.lower_finite D.nh D.ih;
        rc = quotient_corner x.upper y.lower i.upper_finite D.nl D.il;
        rd = quotient_corner x.upper y.upper i.upper_finite D.nh D.ih;
        over = λ z a b c d. mul_lower z xl p xh rh (inv_f q) rl XL i.den XH D.ih D.iq D.il i.from i.to D.first D.second b a d c;
        under = λ z a b c d. mul_upper z xl p xh rh (inv_f q) rl XL i.den XH D.ih D.iq D.il i.from i.to D.first D.second b a d c;
      })
      t

-- ---- a sound result had sound operands
module _ (x y : Interval) where
  pub add_sound : T (add_i x y).sound → T (x.sound && y.sound)
  unfolding add_i
  add_sound = corners_before (add binary64) (x.sound && y.sound) x y

  pub sub_sound : T (sub_i x y).sound → T (x.sound && y.sound)
  unfolding sub_i
  sub_sound = corners_before (sub binary64) (x.sound && y.sound) x y

  pub mul_sound : T (mul_i x y).sound → T (x.sound && y.sound)
  unfolding mul_i
  mul_sound = corners_before (mul binary64) (x.sound && y.sound) x y

  pub div_sound : T (div_i x y).sound → T (x.sound && y.sound)
  div_sound t = and_l (x.sound && y.sound) (one_sign y) (div_before x y t)
