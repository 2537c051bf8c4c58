-- The usual way of the four operations: two corners in the place of four, by the operands' signs. Assumes nothing.
use mathlib.Core.Path.{◌≡◌, refl, sym, ap, subst}
use mathlib.Core.Logic.{inl}
use mathlib.Core.Bool.{Bool, true, false, cond, not, ◌&&◌, ◌||◌}
use Prim.Native.Nat.{◌+◌, ◌-◌, ◌<◌}
use native.Mathlib.Omega.{arith}
use lib.Dec.{T, eqb}
use lib.Ieee.{Float, nan, inf, fin, binary64, fits, lt, neg, add, sub, mul, div, to_bits, of_bits}
use lib.Ieee.Fits.{and_l, and_r}
use lib.Ieee.Scale.{finite}
use Rattle.number.specs.Frac.{Frac, frac, Pos, le_f, lt_f, zero_f, neg_f, add_f, sub_f, mul_f, inv_f, sgn, val_f}
use Rattle.number.specs.Arith.{zero64, one64}
use Rattle.number.specs.Power.{digits, pow_digits, pow_up}
use Rattle.number.specs.Neighbour.{next_up, next_down, least, greatest}
use Rattle.number.specs.Inside.{least_normal, largest, InsideAbove, InsideBelow}
use Rattle.number.proofs.Frac.{val_f_pos, le_refl_f, le_trans_f, lt_le_trans_f, lt_le_f, add_f_pos, mul_f_pos, neg_f_pos, add_mono_f, neg_anti_f, keeps_of, turns_of}
use Rattle.number.proofs.Hull.{mul_comm_f, inv_above, inv_anti_above, inv_f_pos_above}
use Rattle.number.proofs.Round.{Rounds, rounds_mono, rounds_fits}
use Rattle.number.proofs.Extended.{stays_under, stays_over}
use Rattle.number.proofs.Ops.{NonZero, add_rounds, sub_rounds, mul_rounds, div_rounds}
use Rattle.number.proofs.Order.{lt_yes, lt_no, lt_from, least_is, greatest_is, over, under, both}
use Rattle.number.proofs.Inside.{next_down_same, next_up_same, down_one, up_one, down_one_finite, up_one_finite, down_one_more, up_one_less, down_one_more_finite, up_one_less_finite, both_above, both_below}
use Rattle.interval.specs.declared.Interval.{Interval}
use Rattle.interval.specs.Usual.{InOrder}
use Rattle.interval.specs.Interval.{point, outward, around, corners, mul_i, pow_i}
use Rattle.interval.proofs.Encloses.{sign_nonzero}

-- a rounded corner and its exact fraction
pub record Rounded (r : Float) (q : Frac) : Type 0 where
  pub rounds : Rounds binary64 r q
  pub den : Pos q

-- what the usual way tells of its two ends
pub record Two (g : Bool) (x : Interval) (a b : Float) : Type 0 where
  pub fits_a : T (fits binary64 a)
  pub finite_a : T (finite a)
  pub fits_b : T (fits binary64 b)
  pub finite_b : T (finite b)
  pub in_order : le_f (val_f a) (val_f b)
  pub is : outward g a b ≡ x

-- either of the two
pub pick_least : (P : Float → Type 0) (x y : Float) → P x → P y → P (least x y)
unfolding least
pick_least P x y p q = go (lt y x)
  where
    go : (b : Bool) → P (cond b y x)
    go true = q
    go false = p

pub pick_greatest : (P : Float → Type 0) (x y : Float) → P x → P y → P (greatest x y)
unfolding greatest
pick_greatest P x y p q = go (lt x y)
  where
    go : (b : Bool) → P (cond b y x)
    go true = q
    go false = p

-- ---- two ends whose fractions bound those of four corners, and which are corners themselves
module _ (g : Bool) (a b : Float) (A B : Frac) (ra : Rounded a A) (rb : Rounded b B) (oa : T (over a)) (ub : T (under b)) where
  pub record Corner (c : Float) : Type 0 where
    pub exact : Frac
    pub rounded : Rounded c exact
    pub from : le_f A exact
    pub to : le_f exact B

  pub corner : (c : Float) (C : Frac) → Rounded c C → le_f A C → le_f C B → Corner c
  corner c C r h k = record { exact = C; rounded = r; from = h; to = k }

  module _ (c : Float) (k : Corner c) where
    corner_finite : T (finite c)
    corner_finite =
        both c (stays_over binary64 a c A k.exact ra.rounds k.rounded.rounds ra.den k.rounded.den k.from oa)
        (stays_under binary64 c b k.exact B k.rounded.rounds rb.rounds k.rounded.den rb.den k.to ub)

    corner_fits : T (fits binary64 c)
    corner_fits = rounds_fits binary64 c k.exact k.rounded.rounds

  module _ (c d e h : Float) (kc : Corner c) (kd : Corner d) (ke : Corner e) (kh : Corner h) where
    ab : le_f A B
    ab = le_trans_f A kc.exact B kc.rounded.den kc.from kc.to

    fa : T (finite a)
    fa = both a oa (stays_under binary64 a b A B ra.rounds rb.rounds ra.den rb.den ab ub)

    fb : T (finite b)
    fb = both b (stays_over binary64 a b A B ra.rounds rb.rounds ra.den rb.den ab oa) ub

    pa : T (fits binary64 a)
    pa = rounds_fits binary64 a A ra.rounds

    pb : T (fits binary64 b)
    pb = rounds_fits binary64 b B rb.rounds

    over_a : (z : Float) → Corner z → le_f (val_f a) (val_f z)
    over_a z k = rounds_mono binary64 a z A k.exact ra.rounds k.rounded.rounds fa (corner_finite z k) ra.den k.rounded.den k.from

    under_b : (z : Float) → Corner z → le_f (val_f z) (val_f b)
    under_b z k = rounds_mono binary64 z b k.exact B k.rounded.rounds rb.rounds (corner_finite z k) fb k.rounded.den rb.den k.to

    abbrev L : Float
    L = least (least c d) (least e h)

    abbrev U : Float
    U = greatest (greatest c d) (greatest e h)

    -- a is a corner: no less than what is below all; b likewise
    pub two : ((z : Frac) → le_f z (val_f c) → le_f z (val_f d) → le_f z (val_f e) → le_f z (val_f h) → le_f z (val_f a))
        → ((z : Frac) → le_f (val_f c) z → le_f (val_f d) z → le_f (val_f e) z → le_f (val_f h) z → le_f (val_f b) z)
        → Two g (around g c d e h) a b
    unfolding around outward
    two at_a at_b =
        let l1 = least_is c d (corner_finite c kc) (corner_finite d kd) (corner_fits c kc) (corner_fits d kd) in
        let l2 = least_is e h (corner_finite e ke) (corner_finite h kh) (corner_fits e ke) (corner_fits h kh) in
        let l = least_is (least c d) (least e h) l1.finite_r l2.finite_r l1.fits_r l2.fits_r in
        let m1 = greatest_is c d (corner_finite c kc) (corner_finite d kd) (corner_fits c kc) (corner_fits d kd) in
        let m2 = greatest_is e h (corner_finite e ke) (corner_finite h kh) (corner_fits e ke) (corner_fits h kh) in
        let m = greatest_is (greatest c d) (greatest e h) m1.finite_r m2.finite_r m1.fits_r m2.fits_r in
        let p1 = val_f_pos (least c d) in
        let p2 = val_f_pos (least e h) in
        let q1 = val_f_pos (greatest c d) in
        let q2 = val_f_pos (greatest e h) in
        let from : le_f (val_f a) (val_f L) = pick_least (λ (z : Float). le_f (val_f a) (val_f z)) (least c d) (least e h)
        (pick_least (λ (z : Float). le_f (val_f a) (val_f z)) c d (over_a c kc) (over_a d kd)) (pick_least (λ (z : Float). le_f (val_f a) (val_f z)) e h (over_a e ke) (over_a h kh)) in
        let to : le_f (val_f U) (val_f b) = pick_greatest (λ (z : Float). le_f (val_f z) (val_f b)) (greatest c d) (greatest e h)
        (pick_greatest (λ (z : Float). le_f (val_f z) (val_f b)) c d (under_b c kc) (under_b d kd)) (pick_greatest (λ (z : Float). le_f (val_f z) (val_f b)) e h (under_b e ke) (under_b h kh)) in
        let back : le_f (val_f L) (val_f a) = at_a (val_f L)
        (le_trans_f (val_f L) (val_f (least c d)) (val_f c) p1 l.left l1.left) (le_trans_f (val_f L) (val_f (least c d)) (val_f d) p1 l.left l1.right)
        (le_trans_f (val_f L) (val_f (least e h)) (val_f e) p2 l.right l2.left) (le_trans_f (val_f L) (val_f (least e h)) (val_f h) p2 l.right l2.right) in
        let back' : le_f (val_f b) (val_f U) = at_b (val_f U)
        (le_trans_f (val_f c) (val_f (greatest c d)) (val_f U) q1 m1.left m.left) (le_trans_f (val_f d) (val_f (greatest c d)) (val_f U) q1 m1.right m.left)
        (le_trans_f (val_f e) (val_f (greatest e h)) (val_f U) q2 m2.left m.right) (le_trans_f (val_f h) (val_f (greatest e h)) (val_f U) q2 m2.right m.right) in
        record {
          fits_a = pa;
          finite_a = fa;
          fits_b = pb;
          finite_b = fb;
          in_order = rounds_mono binary64 a b A B ra.rounds rb.rounds fa fb ra.den rb.den ab;
          is = moved (next_down_same a L pa fa l.fits_r l.finite_r from back) (next_up_same b U pb fb m.fits_r m.finite_r back' to);
        }
      where
        moved : next_down a ≡ next_down L → next_up b ≡ next_up U → outward g a b ≡ outward g L U
        moved p q = rw (p, q)

-- ---- what is not beyond an infinity: from the tests, and from a sum's, a product's and a quotient's ends
pub lt_over : (x z : Float) → T (lt z x) → T (over x)
unfolding lt
lt_over nan nan t = t
lt_over nan (inf s) t = t
lt_over nan (fin s m e) t = t
lt_over (inf true) nan t = absurd t
lt_over (inf true) (inf true) t = absurd t
lt_over (inf true) (inf false) t = absurd t
lt_over (inf true) (fin s m e) t = absurd t
lt_over (inf false) z t = tt
lt_over (fin s m e) z t = tt

pub lt_under : (x z : Float) → T (lt x z) → T (under x)
unfolding lt
lt_under nan z t = t
lt_under (inf true) z t = tt
lt_under (inf false) nan t = absurd t
lt_under (inf false) (inf s) t = absurd t
lt_under (inf false) (fin s m e) t = absurd t
lt_under (fin s m e) z t = tt

pub ordered_finite : (l u : Float) → T (over l) → T (under u) → T (not (lt u l)) → T (finite l) × T (finite u)
unfolding lt
ordered_finite nan u o n h = absurd o
ordered_finite (inf true) u o n h = absurd o
ordered_finite (inf false) nan o n h = absurd n
ordered_finite (inf false) (inf true) o n h = absurd h
ordered_finite (inf false) (inf false) o n h = absurd n
ordered_finite (inf false) (fin s m e) o n h = absurd h
ordered_finite (fin s m e) nan o n h = absurd n
ordered_finite (fin s m e) (inf true) o n h = absurd h
ordered_finite (fin s m e) (inf false) o n h = absurd n
ordered_finite (fin s m e) (fin t k d) o n h = (tt, tt)

over_add : (x y : Float) → T (over (add binary64 x y)) → T (over x) × T (over y)
unfolding add
over_add nan y t = absurd t
over_add (inf s) nan t = absurd t
over_add (inf true) (inf true) t = absurd t
over_add (inf true) (inf false) t = absurd t
over_add (inf false) (inf true) t = absurd t
over_add (inf false) (inf false) t = (tt, tt)
over_add (inf true) (fin s m e) t = absurd t
over_add (inf false) (fin s m e) t = (tt, tt)
over_add (fin s m e) nan t = absurd t
over_add (fin s m e) (inf true) t = absurd t
over_add (fin s m e) (inf false) t = (tt, tt)
over_add (fin s m e) (fin r n d) t = (tt, tt)

under_add : (x y : Float) → T (under (add binary64 x y)) → T (under x) × T (under y)
unfolding add
under_add nan y t = absurd t
under_add (inf s) nan t = absurd t
under_add (inf true) (inf true) t = (tt, tt)
under_add (inf true) (inf false) t = absurd t
under_add (inf false) (inf true) t = absurd t
under_add (inf false) (inf false) t = absurd t
under_add (inf true) (fin s m e) t = (tt, tt)
under_add (inf false) (fin s m e) t = absurd t
under_add (fin s m e) nan t = absurd t
under_add (fin s m e) (inf true) t = (tt, tt)
under_add (fin s m e) (inf false) t = absurd t
under_add (fin s m e) (fin r n d) t = (tt, tt)

over_neg : (y : Float) → T (over (neg y)) → T (under y)
unfolding neg
over_neg nan t = t
over_neg (inf true) t = tt
over_neg (inf false) t = t
over_neg (fin s m e) t = tt

under_neg : (y : Float) → T (under (neg y)) → T (over y)
unfolding neg
under_neg nan t = t
under_neg (inf true) t = t
under_neg (inf false) t = tt
under_neg (fin s m e) t = tt

-- ---- sum and difference
module _ (g : Bool) (xl xu yl yu : Float) (hx : T (not (lt xu xl))) (hy : T (not (lt yu yl))) where
  pub sum_two : T (over (add binary64 xl yl)) → T (under (add binary64 xu yu)) → Two g (around g (add binary64 xl yl) (add binary64 xl yu) (add binary64 xu yl) (add binary64 xu yu)) (add binary64 xl yl) (add binary64 xu yu)
  sum_two o u =
      let fx = ordered_finite xl xu (over_add xl yl o).0 (under_add xu yu u).0 hx in
      let fy = ordered_finite yl yu (over_add xl yl o).1 (under_add xu yu u).1 hy in
      let X = val_f xl in let X' = val_f xu in let Y = val_f yl in let Y' = val_f yu in
      let kx : le_f X X' = lt_no xu xl fx.1 fx.0 hx in
      let ky : le_f Y Y' = lt_no yu yl fy.1 fy.0 hy in
      let r : (p q : Float) → T (finite p) → T (finite q) → Rounded (add binary64 p q) (add_f (val_f p) (val_f q)) =
      λ p q s t. record { rounds = add_rounds binary64 p q s t; den = add_f_pos (val_f p) (val_f q) (val_f_pos p) (val_f_pos q) } in
      let A = add_f X Y in let B = add_f X' Y' in
      let ra = r xl yl fx.0 fy.0 in
      let rb = r xu yu fx.1 fy.1 in
      two g (add binary64 xl yl) (add binary64 xu yu) A B ra rb o u (add binary64 xl yl) (add binary64 xl yu) (add binary64 xu yl) (add binary64 xu yu)
      (corner g _ _ A B ra rb o u _ A ra (le_refl_f A) (add_mono_f X X' Y Y' kx ky))
      (corner g _ _ A B ra rb o u _ (add_f X Y') (r xl yu fx.0 fy.1) (add_mono_f X X Y Y' (le_refl_f X) ky) (add_mono_f X X' Y' Y' kx (le_refl_f Y')))
      (corner g _ _ A B ra rb o u _ (add_f X' Y) (r xu yl fx.1 fy.0) (add_mono_f X X' Y Y kx (le_refl_f Y)) (add_mono_f X' X' Y Y' (le_refl_f X') ky))
      (corner g _ _ A B ra rb o u _ B rb (add_mono_f X X' Y Y' kx ky) (le_refl_f B))
      (λ z p q s t. p) (λ z p q s t. t)

  pub difference_two : T (over (sub binary64 xl yu)) → T (under (sub binary64 xu yl)) → Two g (around g (sub binary64 xl yl) (sub binary64 xl yu) (sub binary64 xu yl) (sub binary64 xu yu)) (sub binary64 xl yu) (sub binary64 xu yl)
  unfolding sub
  difference_two o u =
      let ox = over_add xl (neg yu) o in
      let ux = under_add xu (neg yl) u in
      let fx = ordered_finite xl xu ox.0 ux.0 hx in
      let fy = ordered_finite yl yu (under_neg yl ux.1) (over_neg yu ox.1) hy in
      let X = val_f xl in let X' = val_f xu in let Y = val_f yl in let Y' = val_f yu in
      let kx : le_f X X' = lt_no xu xl fx.1 fx.0 hx in
      let ky : le_f (neg_f Y') (neg_f Y) = neg_anti_f Y Y' (lt_no yu yl fy.1 fy.0 hy) in
      let r : (p q : Float) → T (finite p) → T (finite q) → Rounded (sub binary64 p q) (sub_f (val_f p) (val_f q)) =
      λ p q s t. record { rounds = sub_rounds binary64 p q s t; den = add_f_pos (val_f p) (neg_f (val_f q)) (val_f_pos p) (neg_f_pos (val_f q) (val_f_pos q)) } in
      let A = sub_f X Y' in let B = sub_f X' Y in
      let ra = r xl yu fx.0 fy.1 in
      let rb = r xu yl fx.1 fy.0 in
      two g (sub binary64 xl yu) (sub binary64 xu yl) A B ra rb o u (sub binary64 xl yl) (sub binary64 xl yu) (sub binary64 xu yl) (sub binary64 xu yu)
      (corner g _ _ A B ra rb o u _ (sub_f X Y) (r xl yl fx.0 fy.0) (add_mono_f X X (neg_f Y') (neg_f Y) (le_refl_f X) ky) (add_mono_f X X' (neg_f Y) (neg_f Y) kx (le_refl_f (neg_f Y))))
      (corner g _ _ A B ra rb o u _ A ra (le_refl_f A) (add_mono_f X X' (neg_f Y') (neg_f Y) kx ky))
      (corner g _ _ A B ra rb o u _ B rb (add_mono_f X X' (neg_f Y') (neg_f Y) kx ky) (le_refl_f B))
      (corner g _ _ A B ra rb o u _ (sub_f X' Y') (r xu yu fx.1 fy.1) (add_mono_f X X' (neg_f Y') (neg_f Y') kx (le_refl_f (neg_f Y'))) (add_mono_f X' X' (neg_f Y') (neg_f Y) (le_refl_f X') ky))
      (λ z p q s t. q) (λ z p q s t. s)

-- ---- factors of one sign: q1 ≤ q2 of any, 0 ≤ p1 ≤ p2
module _ (q1 q2 p1 p2 : Frac) (Q1 : Pos q1) (Q2 : Pos q2) (P1 : Pos p1) (P2 : Pos p2) (hq : le_f q1 q2) (hz : le_f zero_f p1) (hp : le_f p1 p2) where
  keeps_1 : le_f (mul_f q1 p1) (mul_f q2 p1)
  keeps_1 = keeps_of p1 hz q1 q2 hq

  keeps_2 : le_f (mul_f q1 p2) (mul_f q2 p2)
  keeps_2 = keeps_of p2 (le_trans_f zero_f p1 p2 P1 hz hp) q1 q2 hq

  right_keeps : (q : Frac) → Pos q → le_f zero_f q → le_f (mul_f q p1) (mul_f q p2)
  right_keeps q Q h = le_trans_f (mul_f q p1) (mul_f p1 q) (mul_f q p2) (mul_f_pos p1 q P1 Q) (mul_comm_f q p1) (le_trans_f (mul_f p1 q) (mul_f p2 q) (mul_f q p2) (mul_f_pos p2 q P2 Q) (keeps_of q h p1 p2 hp) (mul_comm_f p2 q))

  right_turns : (q : Frac) → Pos q → le_f q zero_f → le_f (mul_f q p2) (mul_f q p1)
  right_turns q Q h = le_trans_f (mul_f q p2) (mul_f p2 q) (mul_f q p1) (mul_f_pos p2 q P2 Q) (mul_comm_f q p2) (le_trans_f (mul_f p2 q) (mul_f p1 q) (mul_f q p1) (mul_f_pos p1 q P1 Q) (turns_of q h p1 p2 hp) (mul_comm_f p1 q))

  record Below (A : Frac) : Type 0 where
    b11 : le_f A (mul_f q1 p1)
    b12 : le_f A (mul_f q1 p2)
    b21 : le_f A (mul_f q2 p1)
    b22 : le_f A (mul_f q2 p2)

  record Above (B : Frac) : Type 0 where
    a11 : le_f (mul_f q1 p1) B
    a12 : le_f (mul_f q1 p2) B
    a21 : le_f (mul_f q2 p1) B
    a22 : le_f (mul_f q2 p2) B

  low_minus : le_f q1 zero_f → Below (mul_f q1 p2)
  low_minus h = record {
    b11 = right_turns q1 Q1 h;
    b12 = le_refl_f (mul_f q1 p2);
    b21 = le_trans_f (mul_f q1 p2) (mul_f q1 p1) (mul_f q2 p1) (mul_f_pos q1 p1 Q1 P1) (right_turns q1 Q1 h) keeps_1;
    b22 = keeps_2;
  }

  low_plus : le_f zero_f q1 → Below (mul_f q1 p1)
  low_plus h = record {
    b11 = le_refl_f (mul_f q1 p1);
    b12 = right_keeps q1 Q1 h;
    b21 = keeps_1;
    b22 = le_trans_f (mul_f q1 p1) (mul_f q1 p2) (mul_f q2 p2) (mul_f_pos q1 p2 Q1 P2) (right_keeps q1 Q1 h) keeps_2;
  }

  high_minus : le_f q2 zero_f → Above (mul_f q2 p1)
  high_minus h = record {
    a11 = keeps_1;
    a12 = le_trans_f (mul_f q1 p2) (mul_f q2 p2) (mul_f q2 p1) (mul_f_pos q2 p2 Q2 P2) keeps_2 (right_turns q2 Q2 h);
    a21 = le_refl_f (mul_f q2 p1);
    a22 = right_turns q2 Q2 h;
  }

  high_plus : le_f zero_f q2 → Above (mul_f q2 p2)
  high_plus h = record {
    a11 = le_trans_f (mul_f q1 p1) (mul_f q2 p1) (mul_f q2 p2) (mul_f_pos q2 p1 Q2 P1) keeps_1 (right_keeps q2 Q2 h);
    a12 = keeps_2;
    a21 = right_keeps q2 Q2 h;
    a22 = le_refl_f (mul_f q2 p2);
  }

-- an operation whose rounded corner is that of a product q p, p = E y; x1 ≤ x2, 0 ≤ E y1 ≤ E y2
module _ (g : Bool) (op : Float → Float → Float) (E : Float → Frac) (x1 x2 y1 y2 : Float) (f1 : T (finite x1)) (f2 : T (finite x2)) (P1 : Pos (E y1)) (P2 : Pos (E y2))
    (r1 : (x : Float) → T (finite x) → Rounded (op x y1) (mul_f (val_f x) (E y1))) (r2 : (x : Float) → T (finite x) → Rounded (op x y2) (mul_f (val_f x) (E y2)))
    (hx : le_f (val_f x1) (val_f x2)) (hz : le_f zero_f (E y1)) (hp : le_f (E y1) (E y2)) where
  abbrev low : Bool → Float
  low s = op x1 (cond s y2 y1)

  abbrev high : Bool → Float
  high s = op x2 (cond s y1 y2)

  -- the two ends, what bounds them, and the four corners in a row that the caller chooses
  pub record Spread (a b : Float) (o : T (over a)) (u : T (under b)) : Type 1 where
    pub A : Frac
    pub B : Frac
    pub ra : Rounded a A
    pub rb : Rounded b B
    pub k11 : Corner g a b A B ra rb o u (op x1 y1)
    pub k12 : Corner g a b A B ra rb o u (op x1 y2)
    pub k21 : Corner g a b A B ra rb o u (op x2 y1)
    pub k22 : Corner g a b A B ra rb o u (op x2 y2)
    pub at_a : (z : Frac) → le_f z (val_f (op x1 y1)) → le_f z (val_f (op x1 y2)) → le_f z (val_f a)
    pub at_b : (z : Frac) → le_f (val_f (op x2 y1)) z → le_f (val_f (op x2 y2)) z → le_f (val_f b) z

  made : (a b : Float) (A B : Frac) (ra : Rounded a A) (rb : Rounded b B) (o : T (over a)) (u : T (under b))
      → Below (val_f x1) (val_f x2) (E y1) (E y2) (val_f_pos x1) (val_f_pos x2) P1 P2 hx hz hp A → Above (val_f x1) (val_f x2) (E y1) (E y2) (val_f_pos x1) (val_f_pos x2) P1 P2 hx hz hp B
      → ((z : Frac) → le_f z (val_f (op x1 y1)) → le_f z (val_f (op x1 y2)) → le_f z (val_f a)) → ((z : Frac) → le_f (val_f (op x2 y1)) z → le_f (val_f (op x2 y2)) z → le_f (val_f b) z) → Spread a b o u
  made a b A B ra rb o u l h at_a at_b = record {
    A = A;
    B = B;
    ra = ra;
    rb = rb;
    k11 = corner g a b A B ra rb o u (op x1 y1) (mul_f (val_f x1) (E y1)) (r1 x1 f1) l.b11 h.a11;
    k12 = corner g a b A B ra rb o u (op x1 y2) (mul_f (val_f x1) (E y2)) (r2 x1 f1) l.b12 h.a12;
    k21 = corner g a b A B ra rb o u (op x2 y1) (mul_f (val_f x2) (E y1)) (r1 x2 f2) l.b21 h.a21;
    k22 = corner g a b A B ra rb o u (op x2 y2) (mul_f (val_f x2) (E y2)) (r2 x2 f2) l.b22 h.a22;
    at_a = at_a;
    at_b = at_b;
  }

  pub spread : (s t : Bool) → (T s → le_f (val_f x1) zero_f) → (T (not s) → le_f zero_f (val_f x1)) → (T t → le_f (val_f x2) zero_f) → (T (not t) → le_f zero_f (val_f x2)) → (o : T (over (low s))) (u : T (under (high t))) → Spread (low s) (high t) o u
  spread true true m p m' p' o u =
      made (low true) (high true) _ _ (r2 x1 f1) (r1 x2 f2) o u (low_minus _ _ _ _ (val_f_pos x1) (val_f_pos x2) P1 P2 hx hz hp (m tt)) (high_minus _ _ _ _ (val_f_pos x1) (val_f_pos x2) P1 P2 hx hz hp (m' tt)) (λ z h k. k) (λ z h k. h)
  spread true false m p m' p' o u =
      made (low true) (high false) _ _ (r2 x1 f1) (r2 x2 f2) o u (low_minus _ _ _ _ (val_f_pos x1) (val_f_pos x2) P1 P2 hx hz hp (m tt)) (high_plus _ _ _ _ (val_f_pos x1) (val_f_pos x2) P1 P2 hx hz hp (p' tt)) (λ z h k. k) (λ z h k. k)
  spread false true m p m' p' o u =
      made (low false) (high true) _ _ (r1 x1 f1) (r1 x2 f2) o u (low_plus _ _ _ _ (val_f_pos x1) (val_f_pos x2) P1 P2 hx hz hp (p tt)) (high_minus _ _ _ _ (val_f_pos x1) (val_f_pos x2) P1 P2 hx hz hp (m' tt)) (λ z h k. h) (λ z h k. h)
  spread false false m p m' p' o u =
      made (low false) (high false) _ _ (r1 x1 f1) (r2 x2 f2) o u (low_plus _ _ _ _ (val_f_pos x1) (val_f_pos x2) P1 P2 hx hz hp (p tt)) (high_plus _ _ _ _ (val_f_pos x1) (val_f_pos x2) P1 P2 hx hz hp (p' tt)) (λ z h k. h) (λ z h k. k)

-- ---- the other factor is finite where the product or quotient is within the infinities
either : (P : Float → Type 0) (s : Bool) (x y : Float) → P x → P y → P (cond s x y)
either P true x y p q = p
either P false x y p q = q

not_over : (b : Bool) → T (over (cond b nan (inf true))) → ⊥
not_over true t = t
not_over false t = t

not_under : (b : Bool) → T (under (cond b nan (inf false))) → ⊥
not_under true t = t
not_under false t = t

record Positive (p : Float) : Type 0 where
  is_finite : T (finite p)
  above : T (lt zero64 p)

over_times : (q p : Float) → Positive p → T (over (mul binary64 q p)) → T (over q)
unfolding mul lt of_bits
over_times nan p h t = t
over_times (inf true) nan h t = absurd h.is_finite
over_times (inf true) (inf s) h t = absurd h.is_finite
over_times (inf true) (fin false n d) h t = absurd (not_over (eqb n 0) t)
over_times (inf true) (fin true n d) h t = absurd h.above
over_times (inf false) p h t = tt
over_times (fin s m e) p h t = tt

under_times : (q p : Float) → Positive p → T (under (mul binary64 q p)) → T (under q)
unfolding mul lt of_bits
under_times nan p h t = t
under_times (inf false) nan h t = absurd h.is_finite
under_times (inf false) (inf s) h t = absurd h.is_finite
under_times (inf false) (fin false n d) h t = absurd (not_under (eqb n 0) t)
under_times (inf false) (fin true n d) h t = absurd h.above
under_times (inf true) p h t = tt
under_times (fin s m e) p h t = tt

times_over : (q p : Float) → Positive p → T (over (mul binary64 p q)) → T (over q)
unfolding mul lt of_bits
times_over nan nan h t = t
times_over nan (inf s) h t = absurd h.is_finite
times_over nan (fin s n d) h t = t
times_over (inf true) nan h t = absurd h.is_finite
times_over (inf true) (inf s) h t = absurd h.is_finite
times_over (inf true) (fin false n d) h t = absurd (not_over (eqb n 0) t)
times_over (inf true) (fin true n d) h t = absurd h.above
times_over (inf false) p h t = tt
times_over (fin s m e) p h t = tt

times_under : (q p : Float) → Positive p → T (under (mul binary64 p q)) → T (under q)
unfolding mul lt of_bits
times_under nan nan h t = t
times_under nan (inf s) h t = absurd h.is_finite
times_under nan (fin s n d) h t = t
times_under (inf false) nan h t = absurd h.is_finite
times_under (inf false) (inf s) h t = absurd h.is_finite
times_under (inf false) (fin false n d) h t = absurd (not_under (eqb n 0) t)
times_under (inf false) (fin true n d) h t = absurd h.above
times_under (inf true) p h t = tt
times_under (fin s m e) p h t = tt

over_by : (q p : Float) → Positive p → T (over (div binary64 q p)) → T (over q)
unfolding div lt of_bits
over_by nan p h t = t
over_by (inf true) nan h t = absurd h.is_finite
over_by (inf true) (inf s) h t = absurd h.is_finite
over_by (inf true) (fin false n d) h t = absurd t
over_by (inf true) (fin true n d) h t = absurd h.above
over_by (inf false) p h t = tt
over_by (fin s m e) p h t = tt

under_by : (q p : Float) → Positive p → T (under (div binary64 q p)) → T (under q)
unfolding div lt of_bits
under_by nan p h t = t
under_by (inf false) nan h t = absurd h.is_finite
under_by (inf false) (inf s) h t = absurd h.is_finite
under_by (inf false) (fin false n d) h t = absurd t
under_by (inf false) (fin true n d) h t = absurd h.above
under_by (inf true) p h t = tt
under_by (fin s m e) p h t = tt

-- ---- a positive operand, as the code's tests tell it
module _ (pl pu : Float) (z : T (lt zero64 pl)) (o : T (not (lt pu pl))) (t : T (lt pu largest)) where
  ends_finite : T (finite pl) × T (finite pu)
  ends_finite = ordered_finite pl pu (lt_over pl zero64 z) (lt_under pu largest t) o

  ends_order : le_f (val_f pl) (val_f pu)
  ends_order = lt_no pu pl ends_finite.1 ends_finite.0 o

  above_l : lt_f zero_f (val_f pl)
  unfolding of_bits
  above_l = lt_yes zero64 pl tt ends_finite.0 z

  above_u : lt_f zero_f (val_f pu)
  above_u = lt_le_trans_f zero_f (val_f pl) (val_f pu) (val_f_pos pl) (val_f_pos pu) above_l ends_order

  positive_l : Positive pl
  positive_l = record { is_finite = ends_finite.0; above = z }

  positive_u : Positive pu
  unfolding of_bits
  positive_u = record { is_finite = ends_finite.1; above = lt_from zero64 pu tt ends_finite.1 above_u }

-- an operand's sign, as the code's test tells it
module _ (x : Float) (f : T (finite x)) where
  minus : T (lt x zero64) → le_f (val_f x) zero_f
  unfolding of_bits
  minus h = lt_le_f (val_f x) zero_f (lt_yes x zero64 f tt h)

  plus : T (not (lt x zero64)) → le_f zero_f (val_f x)
  unfolding of_bits
  plus h = lt_no x zero64 f tt h

rounded_turned : (r : Float) (x y : Frac) → Pos x → Pos y → Rounded r (mul_f x y) → Rounded r (mul_f y x)
rounded_turned r x y X Y k =
    let m = k.rounds in
    record {
      rounds = record {
        sign = m.sign;
        top = m.top;
        bottom = m.bottom;
        above = m.above;
        is = m.is;
        le = le_trans_f (sgn m.sign m.top m.bottom) (mul_f x y) (mul_f y x) (mul_f_pos x y X Y) m.le (mul_comm_f x y);
        ge = le_trans_f (mul_f y x) (mul_f x y) (sgn m.sign m.top m.bottom) (mul_f_pos x y X Y) (mul_comm_f y x) m.ge;
      };
      den = mul_f_pos y x Y X;
    }

-- ---- product by a positive right factor
module _ (g : Bool) (xl xu yl yu : Float) (hx : T (not (lt xu xl))) (z : T (lt zero64 yl)) (hy : T (not (lt yu yl))) (ty : T (lt yu largest)) where
  abbrev right_low : Float
  right_low = mul binary64 xl (cond (lt xl zero64) yu yl)

  abbrev right_high : Float
  right_high = mul binary64 xu (cond (lt xu zero64) yl yu)

  pub right_two : T (over right_low) → T (under right_high) → Two g (around g (mul binary64 xl yl) (mul binary64 xl yu) (mul binary64 xu yl) (mul binary64 xu yu)) right_low right_high
  right_two o u =
      let fy = ends_finite yl yu z hy ty in
      let pl = positive_l yl yu z hy ty in
      let pu = positive_u yl yu z hy ty in
      let fx = ordered_finite xl xu (over_times xl (cond (lt xl zero64) yu yl) (either Positive (lt xl zero64) yu yl pu pl) o) (under_times xu (cond (lt xu zero64) yl yu) (either Positive (lt xu zero64) yl yu pl pu) u) hx in
      let r : (p : Float) (fp : T (finite p)) (q : Float) (fq : T (finite q)) → Rounded (mul binary64 q p) (mul_f (val_f q) (val_f p)) =
      λ p fp q fq. record { rounds = mul_rounds binary64 q p fq fp; den = mul_f_pos (val_f q) (val_f p) (val_f_pos q) (val_f_pos p) } in
      let s = spread g (mul binary64) val_f xl xu yl yu fx.0 fx.1 (val_f_pos yl) (val_f_pos yu) (r yl fy.0) (r yu fy.1)
      (lt_no xu xl fx.1 fx.0 hx) (lt_le_f zero_f (val_f yl) (above_l yl yu z hy ty)) (ends_order yl yu z hy ty)
      (lt xl zero64) (lt xu zero64) (minus xl fx.0) (plus xl fx.0) (minus xu fx.1) (plus xu fx.1) o u in
      two g right_low right_high s.A s.B s.ra s.rb o u (mul binary64 xl yl) (mul binary64 xl yu) (mul binary64 xu yl) (mul binary64 xu yu) s.k11 s.k12 s.k21 s.k22
      (λ w a b c d. s.at_a w a b) (λ w a b c d. s.at_b w c d)

-- ---- product by a positive left factor
module _ (g : Bool) (xl xu yl yu : Float) (z : T (lt zero64 xl)) (hx : T (not (lt xu xl))) (tx : T (lt xu largest)) (hy : T (not (lt yu yl))) where
  abbrev left_low : Float
  left_low = mul binary64 (cond (lt yl zero64) xu xl) yl

  abbrev left_high : Float
  left_high = mul binary64 (cond (lt yu zero64) xl xu) yu

  pub left_two : T (over left_low) → T (under left_high) → Two g (around g (mul binary64 xl yl) (mul binary64 xl yu) (mul binary64 xu yl) (mul binary64 xu yu)) left_low left_high
  left_two o u =
      let fx = ends_finite xl xu z hx tx in
      let pl = positive_l xl xu z hx tx in
      let pu = positive_u xl xu z hx tx in
      let fy = ordered_finite yl yu (times_over yl (cond (lt yl zero64) xu xl) (either Positive (lt yl zero64) xu xl pu pl) o) (times_under yu (cond (lt yu zero64) xl xu) (either Positive (lt yu zero64) xl xu pl pu) u) hy in
      let r : (p : Float) (fp : T (finite p)) (q : Float) (fq : T (finite q)) → Rounded (mul binary64 p q) (mul_f (val_f q) (val_f p)) =
      λ p fp q fq. rounded_turned (mul binary64 p q) (val_f p) (val_f q) (val_f_pos p) (val_f_pos q) (record { rounds = mul_rounds binary64 p q fp fq; den = mul_f_pos (val_f p) (val_f q) (val_f_pos p) (val_f_pos q) }) in
      let s = spread g (λ q p. mul binary64 p q) val_f yl yu xl xu fy.0 fy.1 (val_f_pos xl) (val_f_pos xu) (r xl fx.0) (r xu fx.1)
      (lt_no yu yl fy.1 fy.0 hy) (lt_le_f zero_f (val_f xl) (above_l xl xu z hx tx)) (ends_order xl xu z hx tx)
      (lt yl zero64) (lt yu zero64) (minus yl fy.0) (plus yl fy.0) (minus yu fy.1) (plus yu fy.1) o u in
      two g left_low left_high s.A s.B s.ra s.rb o u (mul binary64 xl yl) (mul binary64 xl yu) (mul binary64 xu yl) (mul binary64 xu yu) s.k11 s.k21 s.k12 s.k22
      (λ w a b c d. s.at_a w a c) (λ w a b c d. s.at_b w b d)

-- ---- quotient by a positive divisor
inv_plus : (y : Frac) → lt_f zero_f y → le_f zero_f (inv_f y)
inv_plus (frac q m c) h = subst (le_f zero_f) (sym (inv_above q m c (above h))) (omega arith)
  where
    above : lt_f zero_f (frac q m c) → m < q
    above h = omega arith

module _ (g : Bool) (xl xu yl yu : Float) (hx : T (not (lt xu xl))) (z : T (lt zero64 yl)) (hy : T (not (lt yu yl))) (ty : T (lt yu largest)) where
  abbrev by_low : Float
  by_low = div binary64 xl (cond (lt xl zero64) yl yu)

  abbrev by_high : Float
  by_high = div binary64 xu (cond (lt xu zero64) yu yl)

  pub by_two : T (over by_low) → T (under by_high) → Two g (around g (div binary64 xl yl) (div binary64 xl yu) (div binary64 xu yl) (div binary64 xu yu)) by_low by_high
  by_two o u =
      let fy = ends_finite yl yu z hy ty in
      let pl = positive_l yl yu z hy ty in
      let pu = positive_u yl yu z hy ty in
      let zl = above_l yl yu z hy ty in
      let zu = above_u yl yu z hy ty in
      let fx = ordered_finite xl xu (over_by xl (cond (lt xl zero64) yl yu) (either Positive (lt xl zero64) yl yu pl pu) o) (under_by xu (cond (lt xu zero64) yu yl) (either Positive (lt xu zero64) yu yl pu pl) u) hx in
      let r : (p : Float) (n : NonZero p) (i : Pos (inv_f (val_f p))) (q : Float) (fq : T (finite q)) → Rounded (div binary64 q p) (mul_f (val_f q) (inv_f (val_f p))) =
      λ p n i q fq. record { rounds = div_rounds binary64 q p fq n; den = mul_f_pos (val_f q) (inv_f (val_f p)) (val_f_pos q) i } in
      let il = inv_f_pos_above (val_f yl) zl in
      let iu = inv_f_pos_above (val_f yu) zu in
      let s = spread g (div binary64) (λ y. inv_f (val_f y)) xl xu yu yl fx.0 fx.1 iu il (r yu (sign_nonzero yu fy.1 (inl zu)) iu) (r yl (sign_nonzero yl fy.0 (inl zl)) il)
      (lt_no xu xl fx.1 fx.0 hx) (inv_plus (val_f yu) zu) (inv_anti_above (val_f yl) (val_f yu) zl zu (ends_order yl yu z hy ty))
      (lt xl zero64) (lt xu zero64) (minus xl fx.0) (plus xl fx.0) (minus xu fx.1) (plus xu fx.1) o u in
      two g by_low by_high s.A s.B s.ra s.rb o u (div binary64 xl yl) (div binary64 xl yu) (div binary64 xu yl) (div binary64 xu yu) s.k12 s.k11 s.k22 s.k21
      (λ w a b c d. s.at_a w b a) (λ w a b c d. s.at_b w d c)

-- ---- the steps in the patterns, and what the functions of the usual way return
sound_is : (g s t : Bool) → T s → T t → g ≡ g && s && t
sound_is true true true p q = refl
sound_is false true true p q = refl
sound_is g true false p q = absurd q
sound_is g false t p q = absurd p

abbrev pub ends : Bool → Float → Float → Interval
ends g l u = record { lower = l; upper = u; sound = g }

made_of : (g s : Bool) (l u l' u' : Float) → l ≡ l' → u ≡ u' → g ≡ s → ends g l u ≡ ends s l' u'
made_of g s l u l' u' p q r = rw (p, q, r)

pub risen : (g : Bool) (a b : Float) → InsideAbove a → InsideAbove b → ends g (of_bits binary64 (to_bits binary64 a - 1)) (of_bits binary64 (to_bits binary64 b + 1)) ≡ outward g a b
unfolding outward
risen g a b i j = made_of _ _ _ _ _ _ (down_one a i) (up_one b j) (sound_is g (finite (next_down a)) (finite (next_up b)) (down_one_finite a i) (up_one_finite b j))

pub fallen : (g : Bool) (a b : Float) → InsideBelow a → InsideBelow b → ends g (of_bits binary64 (to_bits binary64 a + 1)) (of_bits binary64 (to_bits binary64 b - 1)) ≡ outward g a b
unfolding outward
fallen g a b i j = made_of _ _ _ _ _ _ (down_one_more a i) (up_one_less b j) (sound_is g (finite (next_down a)) (finite (next_up b)) (down_one_more_finite a i) (up_one_less_finite b j))

-- from the tests to what the steps ask
pub above_tests : (a b : Float) → (lt least_normal a && lt b largest) ≡ true → T (over a) × T (under b)
above_tests a b h =
    let t = subst T (sym h) tt in
    (lt_over a least_normal (and_l (lt least_normal a) (lt b largest) t), lt_under b largest (and_r (lt least_normal a) (lt b largest) t))

pub below_tests : (a b : Float) → (lt (neg largest) a && lt b (neg least_normal)) ≡ true → T (over a) × T (under b)
below_tests a b h =
    let t = subst T (sym h) tt in
    (lt_over a (neg largest) (and_l (lt (neg largest) a) (lt b (neg least_normal)) t), lt_under b (neg least_normal) (and_r (lt (neg largest) a) (lt b (neg least_normal)) t))

module _ (a b : Float) (k : InOrder a b) where
  pub goes_up : (lt least_normal a && lt b largest) ≡ true → InsideAbove a × InsideAbove b
  goes_up h =
      let t = subst T (sym h) tt in
      let o = k (above_tests a b h) in
      both_above a b o.0 o.1 o.2 o.3 o.4 (and_l (lt least_normal a) (lt b largest) t) (and_r (lt least_normal a) (lt b largest) t)

  pub goes_down : (lt (neg largest) a && lt b (neg least_normal)) ≡ true → InsideBelow a × InsideBelow b
  goes_down h =
      let t = subst T (sym h) tt in
      let o = k (below_tests a b h) in
      both_below a b o.0 o.1 o.2 o.3 o.4 (and_l (lt (neg largest) a) (lt b (neg least_normal)) t) (and_r (lt (neg largest) a) (lt b (neg least_normal)) t)

-- what an operation's usual way tells of its two ends is in order
pub in_order_of : (g : Bool) (x : Interval) (a b : Float) → (T (over a) × T (under b) → Two g x a b) → InOrder a b
in_order_of g x a b h t = let k = h t in (k.fits_a, k.finite_a, k.fits_b, k.finite_b, k.in_order)

-- ---- the same from the tests as the code joins them
pub truly : {b : Bool} → b ≡ true → T b
truly h = subst T (sym h) tt

module _ (g : Bool) (xl xu yl yu : Float) where
  pub sum_usual : (not (lt xu xl) && not (lt yu yl)) ≡ true → (t : T (over (add binary64 xl yl)) × T (under (add binary64 xu yu)))
      → Two g (around g (add binary64 xl yl) (add binary64 xl yu) (add binary64 xu yl) (add binary64 xu yu)) (add binary64 xl yl) (add binary64 xu yu)
  sum_usual h t = let k = truly h in sum_two g xl xu yl yu (and_l (not (lt xu xl)) (not (lt yu yl)) k) (and_r (not (lt xu xl)) (not (lt yu yl)) k) t.0 t.1

  pub difference_usual : (not (lt xu xl) && not (lt yu yl)) ≡ true → (t : T (over (sub binary64 xl yu)) × T (under (sub binary64 xu yl)))
      → Two g (around g (sub binary64 xl yl) (sub binary64 xl yu) (sub binary64 xu yl) (sub binary64 xu yu)) (sub binary64 xl yu) (sub binary64 xu yl)
  difference_usual h t = let k = truly h in difference_two g xl xu yl yu (and_l (not (lt xu xl)) (not (lt yu yl)) k) (and_r (not (lt xu xl)) (not (lt yu yl)) k) t.0 t.1

  abbrev right_test : Bool
  right_test = not (lt xu xl) && lt zero64 yl && not (lt yu yl) && lt yu largest

  module _ (h : right_test ≡ true) where
    r4 : T (lt yu largest)
    r4 = and_r (not (lt xu xl) && lt zero64 yl && not (lt yu yl)) (lt yu largest) (truly h)

    r3 : T (not (lt yu yl))
    r3 = and_r (not (lt xu xl) && lt zero64 yl) (not (lt yu yl)) (and_l (not (lt xu xl) && lt zero64 yl && not (lt yu yl)) (lt yu largest) (truly h))

    r12 : T (not (lt xu xl) && lt zero64 yl)
    r12 = and_l (not (lt xu xl) && lt zero64 yl) (not (lt yu yl)) (and_l (not (lt xu xl) && lt zero64 yl && not (lt yu yl)) (lt yu largest) (truly h))

    pub right_usual : T (over (mul binary64 xl (cond (lt xl zero64) yu yl))) × T (under (mul binary64 xu (cond (lt xu zero64) yl yu)))
        → Two g (around g (mul binary64 xl yl) (mul binary64 xl yu) (mul binary64 xu yl) (mul binary64 xu yu)) (mul binary64 xl (cond (lt xl zero64) yu yl)) (mul binary64 xu (cond (lt xu zero64) yl yu))
    right_usual t = right_two g xl xu yl yu (and_l (not (lt xu xl)) (lt zero64 yl) r12) (and_r (not (lt xu xl)) (lt zero64 yl) r12) r3 r4 t.0 t.1

    pub by_usual : T (over (div binary64 xl (cond (lt xl zero64) yl yu))) × T (under (div binary64 xu (cond (lt xu zero64) yu yl)))
        → Two g (around g (div binary64 xl yl) (div binary64 xl yu) (div binary64 xu yl) (div binary64 xu yu)) (div binary64 xl (cond (lt xl zero64) yl yu)) (div binary64 xu (cond (lt xu zero64) yu yl))
    by_usual t = by_two g xl xu yl yu (and_l (not (lt xu xl)) (lt zero64 yl) r12) (and_r (not (lt xu xl)) (lt zero64 yl) r12) r3 r4 t.0 t.1

    -- the divisor is of one sign
    pub one_sign_told : T (lt zero64 yl)
    one_sign_told = and_r (not (lt xu xl)) (lt zero64 yl) r12

  abbrev left_test : Bool
  left_test = lt zero64 xl && not (lt xu xl) && lt xu largest && not (lt yu yl)

  module _ (h : left_test ≡ true) where
    l123 : T (lt zero64 xl && not (lt xu xl) && lt xu largest)
    l123 = and_l (lt zero64 xl && not (lt xu xl) && lt xu largest) (not (lt yu yl)) (truly h)

    l12 : T (lt zero64 xl && not (lt xu xl))
    l12 = and_l (lt zero64 xl && not (lt xu xl)) (lt xu largest) l123

    pub left_usual : T (over (mul binary64 (cond (lt yl zero64) xu xl) yl)) × T (under (mul binary64 (cond (lt yu zero64) xl xu) yu))
        → Two g (around g (mul binary64 xl yl) (mul binary64 xl yu) (mul binary64 xu yl) (mul binary64 xu yu)) (mul binary64 (cond (lt yl zero64) xu xl) yl) (mul binary64 (cond (lt yu zero64) xl xu) yu)
    left_usual t = left_two g xl xu yl yu (and_l (lt zero64 xl) (not (lt xu xl)) l12) (and_r (lt zero64 xl) (not (lt xu xl)) l12) (and_r (lt zero64 xl && not (lt xu xl)) (lt xu largest) l123) (and_r (lt zero64 xl && not (lt xu xl) && lt xu largest) (not (lt yu yl)) (truly h)) t.0 t.1

-- ---- the same with the factor's or divisor's end that the code chose
moved_both : (P : Float → Float → Type 0) (v w c d : Float) → v ≡ c → w ≡ d → P c d → P v w
moved_both P v w c d p q h = subst (λ (z : Float). P z w) (sym p) (subst (λ (z : Float). P c z) (sym q) h)

module _ (g : Bool) (xl xu yl yu v w : Float) where
  pub right_chosen : right_test g xl xu yl yu ≡ true → v ≡ cond (lt xl zero64) yu yl → w ≡ cond (lt xu zero64) yl yu → T (over (mul binary64 xl v)) × T (under (mul binary64 xu w))
      → Two g (around g (mul binary64 xl yl) (mul binary64 xl yu) (mul binary64 xu yl) (mul binary64 xu yu)) (mul binary64 xl v) (mul binary64 xu w)
  right_chosen h p q =
      moved_both
      (λ v w. T (over (mul binary64 xl v)) × T (under (mul binary64 xu w)) → Two g (around g (mul binary64 xl yl) (mul binary64 xl yu) (mul binary64 xu yl) (mul binary64 xu yu)) (mul binary64 xl v) (mul binary64 xu w))
      v w (cond (lt xl zero64) yu yl) (cond (lt xu zero64) yl yu) p q (right_usual g xl xu yl yu h)

  pub by_chosen : right_test g xl xu yl yu ≡ true → v ≡ cond (lt xl zero64) yl yu → w ≡ cond (lt xu zero64) yu yl → T (over (div binary64 xl v)) × T (under (div binary64 xu w))
      → Two g (around g (div binary64 xl yl) (div binary64 xl yu) (div binary64 xu yl) (div binary64 xu yu)) (div binary64 xl v) (div binary64 xu w)
  by_chosen h p q =
      moved_both
      (λ v w. T (over (div binary64 xl v)) × T (under (div binary64 xu w)) → Two g (around g (div binary64 xl yl) (div binary64 xl yu) (div binary64 xu yl) (div binary64 xu yu)) (div binary64 xl v) (div binary64 xu w))
      v w (cond (lt xl zero64) yl yu) (cond (lt xu zero64) yu yl) p q (by_usual g xl xu yl yu h)

  pub left_chosen : left_test g xl xu yl yu ≡ true → v ≡ cond (lt yl zero64) xu xl → w ≡ cond (lt yu zero64) xl xu → T (over (mul binary64 v yl)) × T (under (mul binary64 w yu))
      → Two g (around g (mul binary64 xl yl) (mul binary64 xl yu) (mul binary64 xu yl) (mul binary64 xu yu)) (mul binary64 v yl) (mul binary64 w yu)
  left_chosen h p q =
      moved_both
      (λ v w. T (over (mul binary64 v yl)) × T (under (mul binary64 w yu)) → Two g (around g (mul binary64 xl yl) (mul binary64 xl yu) (mul binary64 xu yl) (mul binary64 xu yu)) (mul binary64 v yl) (mul binary64 w yu))
      v w (cond (lt yl zero64) xu xl) (cond (lt yu zero64) xl xu) p q (left_usual g xl xu yl yu h)

-- a positive divisor is of one sign
pub one_sound : (g s t : Bool) → T s → g ≡ g && (s || t)
one_sound true true t p = refl
one_sound false true t p = refl
one_sound g false t p = absurd p

-- ---- the whole powers 2 and 3
pub second_is : (x : Interval) → mul_i (point one64) (mul_i x x) ≡ pow_i x 2
unfolding pow_i pow_up pow_digits digits
second_is x = refl

pub third_is : (x : Interval) → mul_i (mul_i (point one64) x) (mul_i x x) ≡ pow_i x 3
unfolding pow_i pow_up pow_digits digits
third_is x = refl

pub outward_same : (g h : Bool) (a b : Float) → g ≡ h → outward g a b ≡ outward h a b
outward_same g h a b e = ap (λ (z : Bool). outward z a b) e

-- the four corners that a closure worked
pub by_corners : (op : Float → Float → Float) (g : Bool) (x y r : Interval) (a b c d : Float) → a ≡ op x.lower y.lower → b ≡ op x.lower y.upper → c ≡ op x.upper y.lower → d ≡ op x.upper y.upper → r ≡ around g a b c d → r ≡ corners op g x y
by_corners op g x y r a b c d p q s t e = rw (e, p, q, s, t)
