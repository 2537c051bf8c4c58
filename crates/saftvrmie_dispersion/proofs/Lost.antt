-- The slope of a tiny dividend's quotient by a plain number from 1 to 2 ^ 100, times a factor below 2 ^ 100, stays below 2 ^ -800, and a sum that stays as it is with that loses it. Assumes nothing.
use mathlib.Core.Path.{◌≡◌, refl, sym, ap, ◌∙◌, subst}
use mathlib.Core.Bool.{Bool, true, false, not, ◌&&◌, and-true}
use Prim.Native.Nat.{ℕ}
use lib.IntN.{pos, negsuc}
use lib.Dec.{T, lit≤, lit<}
use lib.Ieee as Ieee
use lib.Ieee.{Float, fin, binary64, of_bits, fits, lt, neg}
use lib.Ieee.Fits.{and_l, and_r}
use lib.Ieee.Bits.{is_true}
use lib.Ieee.Scale.{finite}
use Rattle.number.specs.Arith.{zero64, one64}
use Rattle.number.specs.Frac.{le_f, zero_f, neg_f, val_f}
use Rattle.number.proofs.Frac.{val_f_pos, le_trans_f, lt_le_f}
use Rattle.number.specs.Neighbour.{next_up, next_down}
use Rattle.number.proofs.Order.{lt_yes, lt_no, both}
use Rattle.number.proofs.Neighbour.{next_up_fits, next_down_fits}
use Rattle.number.proofs.Ops.{neg_finite}
use Rattle.interval.specs.declared.Interval.{Interval}
use Rattle.interval.specs.Interval as I
use Rattle.interval.specs.Interval.{outward, around, sub_i, mul_i, div_i, neg_i}
use Rattle.interval.proofs.Encloses.{mul_sound, div_sound}
use Rattle.interval.proofs.Near.{lt_over, lt_under, ordered_finite}
use Rattle.interval.proofs.Bounded.{Limit, Within, Bounded, AtLeast, both_true, widened, mul_bounded, sub_bounded, div_bounded, square_bounded}
use Rattle.interval.proofs.Absorbed.{Firm, absorbed}
use Rattle.enclosure.specs.declared.Enclosure.{Enclosure}
use Rattle.enclosure.specs.Enclosure.{point, add_e, sub_e, mul_e, div_e, neg_e}
use Rattle.enclosure_dual.specs.declared.EnclosureDual.{EnclosureDual}
use Rattle.enclosure_dual.specs.Value.{about_zero}
use Rattle.enclosure_dual.proofs.Zero.{right_is}
use Rattle.saftvrmie_dispersion.specs.Slope.{faint, big, quotient_slope, stays_of, moderate_of, tiny_of, tiny_slope, lost_in, lost_sum}

-- 2 ^ - (k + 1)
abbrev low : ℕ → Float
low k = fin false 1 (negsuc k)

abbrev high : ℕ → Float
high k = fin false 1 (pos k)

-- ---- the code's tests: every f64 fits
pub moderate_by : (l u : Float) → fits binary64 l ≡ true → fits binary64 u ≡ true → (lt zero64 l && not (lt u l) && lt u big) ≡ moderate_of l u
unfolding moderate_of
moderate_by l u f g = rw (f, g, and-true (lt zero64 l && not (lt u l) && lt u big && true), and-true (lt zero64 l && not (lt u l) && lt u big))

pub tiny_by : (x : Float) → fits binary64 x ≡ true → (lt (of_bits binary64 0x8000_0000_0000_0010) x && lt x (of_bits binary64 16)) ≡ tiny_of x
unfolding tiny_of
tiny_by x f = rw (f, and-true (lt (of_bits binary64 0x8000_0000_0000_0010) x && lt x (of_bits binary64 16)))

-- ---- what the tests tell
tiny_is : (x : Float) → T (tiny_of x) → Within (low 1069) x
unfolding tiny_of of_bits
tiny_is x t =
    let l = lt (of_bits binary64 0x8000_0000_0000_0010) x in
    let u = lt x (of_bits binary64 16) in
    let f = fits binary64 x in
    let p = and_l l u (and_l (l && u) f t) in
    let q = and_r l u (and_l (l && u) f t) in
    let k = both x (lt_over x (of_bits binary64 0x8000_0000_0000_0010) p) (lt_under x (of_bits binary64 16) q) in
    record {
      is_finite = k;
      is_fitting = and_r (l && u) f t;
      over = lt_le_f (neg_f (val_f (low 1069))) (val_f x) (lt_yes (of_bits binary64 0x8000_0000_0000_0010) x tt k p);
      under = lt_le_f (val_f x) (val_f (low 1069)) (lt_yes x (of_bits binary64 16) k tt q);
    }

record Moderate (l u : Float) : Type 0 where
  at_l : Within (high 100) l
  at_u : Within (high 100) u
  in_order : le_f (val_f l) (val_f u)

moderate_is : (l u : Float) → T (moderate_of l u) → Moderate l u
unfolding moderate_of of_bits
moderate_is l u t =
    let a = lt zero64 l in
    let b = not (lt u l) in
    let c = lt u big in
    let f = fits binary64 l in
    let g = fits binary64 u in
    let t3 = and_l (a && b && c && f) g t in
    let t2 = and_l (a && b && c) f t3 in
    let t1 = and_l (a && b) c t2 in
    let p = and_l a b t1 in
    let q = and_r a b t1 in
    let r = and_r (a && b) c t2 in
    let k = ordered_finite l u (lt_over l zero64 p) (lt_under u big r) q in
    let order = lt_no u l k.1 k.0 q in
    let from : le_f (neg_f (val_f (high 100))) (val_f l) = le_trans_f (neg_f (val_f (high 100))) zero_f (val_f l) (lit< tt) (lit≤ tt) (lt_le_f zero_f (val_f l) (lt_yes zero64 l tt k.0 p)) in
    let to : le_f (val_f u) (val_f (high 100)) = lt_le_f (val_f u) (val_f (high 100)) (lt_yes u big k.1 tt r) in
    record {
      at_l = record { is_finite = k.0; is_fitting = and_r (a && b && c) f t3; over = from; under = le_trans_f (val_f l) (val_f u) (val_f (high 100)) (val_f_pos u) order to };
      at_u = record { is_finite = k.1; is_fitting = and_r (a && b && c && f) g t; over = le_trans_f (neg_f (val_f (high 100))) (val_f l) (val_f u) (val_f_pos l) from order; under = to };
      in_order = order;
    }

from_one : (l : Float) → T (finite l) → T (lt one64 l) → le_f (val_f (high 0)) (val_f l)
unfolding of_bits
from_one l f t = lt_le_f (val_f (high 0)) (val_f l) (lt_yes one64 l tt f t)

-- ---- the bounds, one operation after another
limit_low : (k : ℕ) → T (fits binary64 (low k)) → Limit (low k)
limit_low k f = record { is_finite = tt; is_fitting = f }

limit_high : (k : ℕ) → T (fits binary64 (high k)) → Limit (high k)
limit_high k f = record { is_finite = tt; is_fitting = f }

about_zero_bounded : Bounded (low 1069) (about_zero true)
unfolding about_zero of_bits fits
about_zero_bounded =
    record {
      is_sound = tt;
      at_lower = record { is_finite = tt; is_fitting = tt; over = lit≤ tt; under = lit≤ tt };
      at_upper = record { is_finite = tt; is_fitting = tt; over = lit≤ tt; under = lit≤ tt };
    }

module _ (b t c e : Interval) (tb : Bounded (low 1069) t) (bb : Bounded (high 100) b) (be : Bounded (high 100) e) (le : AtLeast (high 0) e.lower) (ue : AtLeast (high 0) e.upper) (z : mul_i c (I.point zero64) ≡ about_zero true) where
  top : Bounded (low 966) (sub_i (mul_i t e) (mul_i c (I.point zero64)))
  unfolding fits
  top =
      let left = mul_bounded (low 1069) (high 100) (low 969) (low 968) (limit_low 969 tt) (limit_low 968 tt) (lit< tt)
      (record { under_mm = lit≤ tt; under_mp = lit≤ tt; under_pm = lit≤ tt; under_pp = lit≤ tt; over_mm = lit≤ tt; over_mp = lit≤ tt; over_pm = lit≤ tt; over_pp = lit≤ tt }) t e tb be in
      sub_bounded (low 968) (low 1069) (low 967) (low 966) (limit_low 967 tt) (limit_low 966 tt) (lit< tt) (lit≤ tt) (lit≤ tt) (mul_i t e) (mul_i c (I.point zero64)) left (subst (λ (y : Interval). Bounded (low 1069) y) (sym z) about_zero_bounded)

  pub slope_bounded : Bounded faint (mul_i b (div_i (sub_i (mul_i t e) (mul_i c (I.point zero64))) (mul_i e e)))
  unfolding fits of_bits
  slope_bounded =
      let square = square_bounded (high 0) (high 100) (high 0) (low 0) (high 200) (high 201) (limit_high 0 tt) (limit_low 0 tt) (limit_high 200 tt) (limit_high 201 tt) (lit< tt) (lit< tt)
      (record { under_mm = lit≤ tt; under_mp = lit≤ tt; under_pm = lit≤ tt; under_pp = lit≤ tt; over_mm = lit≤ tt; over_mp = lit≤ tt; over_pm = lit≤ tt; over_pp = lit≤ tt }) (lit≤ tt) (lit≤ tt) (lit≤ tt) (lit≤ tt) e be le ue in
      let quotient = div_bounded (low 966) (low 0) (low 965) (low 964) (limit_low 965 tt) (limit_low 964 tt) (lit< tt) (lit< tt)
      (record { under_mz = lit≤ tt; under_mi = lit≤ tt; under_pz = lit≤ tt; under_pi = lit≤ tt; over_mz = lit≤ tt; over_mi = lit≤ tt; over_pz = lit≤ tt; over_pi = lit≤ tt })
      (sub_i (mul_i t e) (mul_i c (I.point zero64))) (mul_i e e) top square.0.is_sound square.1 square.2 in
      let product = mul_bounded (high 100) (low 964) (low 864) (low 863) (limit_low 864 tt) (limit_low 863 tt) (lit< tt)
      (record { under_mm = lit≤ tt; under_mp = lit≤ tt; under_pm = lit≤ tt; under_pp = lit≤ tt; over_mm = lit≤ tt; over_mp = lit≤ tt; over_pm = lit≤ tt; over_pp = lit≤ tt }) b (div_i (sub_i (mul_i t e) (mul_i c (I.point zero64))) (mul_i e e)) bb quotient in
      widened (low 863) faint (lit≤ tt) (mul_i b (div_i (sub_i (mul_i t e) (mul_i c (I.point zero64))) (mul_i e e))) product

times_zero : (c : Enclosure) → (finite c.ends.lower && finite c.ends.upper) ≡ true → c.ends.sound ≡ true → mul_i c.ends (I.point zero64) ≡ about_zero true
unfolding mul_e point
times_zero c f s = sym (ap (λ (y : Enclosure). y.ends) (right_is c refl refl f refl)) ∙ ap about_zero s

-- ---- sound ends of an operation are finite values of the format
record Ended (x : Interval) : Type 0 where
  lower_finite : T (finite x.lower)
  lower_fits : T (fits binary64 x.lower)
  upper_finite : T (finite x.upper)
  upper_fits : T (fits binary64 x.upper)

outward_ended : (g : Bool) (a b : Float) → T (outward g a b).sound → Ended (outward g a b)
unfolding outward
outward_ended g a b t =
    let l = finite (next_down a) in
    let u = finite (next_up b) in
    record { lower_finite = and_r g l (and_l (g && l) u t); lower_fits = next_down_fits a; upper_finite = and_r (g && l) u t; upper_fits = next_up_fits b }

mul_ended : (x y : Interval) → T (mul_i x y).sound → Ended (mul_i x y)
unfolding mul_i around
mul_ended x y t = outward_ended _ _ _ t

sub_ended : (x y : Interval) → T (sub_i x y).sound → Ended (sub_i x y)
unfolding sub_i around
sub_ended x y t = outward_ended _ _ _ t

turned_ends : (x y : Interval) → T (neg_i (sub_i x y)).sound → (finite (neg_i (sub_i x y)).lower && finite (neg_i (sub_i x y)).upper) ≡ true
unfolding neg_i
turned_ends x y t =
    let s = sub_i x y in
    let k = sub_ended x y t in
    let l = finite (neg s.upper) in
    let u = finite (neg s.lower) in
    is_true (l && u) (both_true l u (neg_finite s.upper k.upper_finite) (neg_finite s.lower k.lower_finite))

-- ---- b times the quotient of c by e, c the negative of a difference: its slope where the code finds it lost
module _ (b : EnclosureDual) (u v t e : Enclosure) where
  abbrev c : Enclosure
  c = neg_e (sub_e u v)

  abbrev x : Enclosure
  x = mul_e b.eps (div_e c e)

  record Told : Type 0 where
    firm : Firm faint x.ends
    small : Bounded faint (mul_i b.re.ends (div_i (sub_i (mul_i t.ends e.ends) (mul_i c.ends (I.point zero64))) (mul_i e.ends e.ends)))

  stays_is : (y : Float) → T (stays_of y) → T (not (lt y (Ieee.add binary64 y faint))) × T (not (lt (Ieee.sub binary64 y faint) y))
  unfolding stays_of
  stays_is y k = (and_l (not (lt y (Ieee.add binary64 y faint))) (not (lt (Ieee.sub binary64 y faint) y)) k, and_r (not (lt y (Ieee.add binary64 y faint))) (not (lt (Ieee.sub binary64 y faint) y)) k)

  told : T (lost_in x.ends b.re.ends e.ends && tiny_slope t.ends) → Told
  unfolding lost_in tiny_slope mul_e div_e neg_e sub_e point
  told k =
      let xs = x.ends.sound in
      let l = stays_of x.ends.lower in
      let h = stays_of x.ends.upper in
      let bs = b.re.ends.sound in
      let bm = moderate_of b.re.ends.lower b.re.ends.upper in
      let em = moderate_of e.ends.lower e.ends.upper in
      let o = lt one64 e.ends.lower in
      let ts = t.ends.sound in
      let tl = tiny_of t.ends.lower in
      let th = tiny_of t.ends.upper in
      let lost = and_l ((xs && l && h) && (bs && bm) && em && o) (ts && tl && th) k in
      let tiny = and_r ((xs && l && h) && (bs && bm) && em && o) (ts && tl && th) k in
      let k3 = and_l ((xs && l && h) && (bs && bm) && em) o lost in
      let k2 = and_l ((xs && l && h) && (bs && bm)) em k3 in
      let k1 = and_l (xs && l && h) (bs && bm) k2 in
      let kb = and_r (xs && l && h) (bs && bm) k2 in
      let sx = and_l xs l (and_l (xs && l) h k1) in
      let low = stays_is x.ends.lower (and_r xs l (and_l (xs && l) h k1)) in
      let high' = stays_is x.ends.upper (and_r (xs && l) h k1) in
      let ends = mul_ended b.eps.ends (div_i c.ends e.ends) sx in
      let si = and_r b.eps.ends.sound (div_i c.ends e.ends).sound (mul_sound b.eps.ends (div_i c.ends e.ends) sx) in
      let sce = div_sound c.ends e.ends si in
      let sc = and_l c.ends.sound e.ends.sound sce in
      let se = and_r c.ends.sound e.ends.sound sce in
      let mb = moderate_is b.re.ends.lower b.re.ends.upper (and_r bs bm kb) in
      let me = moderate_is e.ends.lower e.ends.upper (and_r ((xs && l && h) && (bs && bm)) em k3) in
      let ol = from_one e.ends.lower me.at_l.is_finite (and_r ((xs && l && h) && (bs && bm) && em) o lost) in
      let kt = and_l (ts && tl) th tiny in
      record {
        firm = record { lower_finite = ends.lower_finite; lower_fits = ends.lower_fits; upper_finite = ends.upper_finite; upper_fits = ends.upper_fits; lower_up = low.0; lower_down = low.1; upper_up = high'.0; upper_down = high'.1 };
        small =
            slope_bounded b.re.ends t.ends c.ends e.ends
            (record { is_sound = and_l ts tl kt; at_lower = tiny_is t.ends.lower (and_r ts tl kt); at_upper = tiny_is t.ends.upper (and_r (ts && tl) th tiny) })
            (record { is_sound = and_l bs bm kb; at_lower = mb.at_l; at_upper = mb.at_u })
            (record { is_sound = se; at_lower = me.at_l; at_upper = me.at_u })
            (record { is_finite = me.at_l.is_finite; from = ol })
            (record { is_finite = me.at_u.is_finite; from = le_trans_f (val_f (high 0)) (val_f e.ends.lower) (val_f e.ends.upper) (val_f_pos e.ends.lower) ol me.in_order })
            (times_zero c (turned_ends u.ends v.ends sc) (is_true c.ends.sound sc));
      }

  nothing : Bounded faint (record { lower = zero64; upper = zero64; sound = true })
  unfolding of_bits fits
  nothing = record { is_sound = tt; at_lower = zero_within; at_upper = zero_within }
    where
      zero_within : Within faint zero64
      zero_within = record { is_finite = tt; is_fitting = tt; over = lit≤ tt; under = lit≤ tt }

  pub lost_is : (lost_in x.ends b.re.ends e.ends && tiny_slope t.ends) ≡ true → lost_sum x b.re.value t.value c.value e.value ≡ add_e x (mul_e b.re (quotient_slope t c e))
  unfolding lost_sum quotient_slope add_e mul_e div_e sub_e neg_e point of_bits
  lost_is k = let w = told (subst (λ (y : Bool). T y) (sym k) tt) in rw (absorbed faint tt x.ends w.firm (record { lower = zero64; upper = zero64; sound = true }) _ nothing w.small)

  -- the same of the code's numbers
  pub lost_eps : {c' i x' eps : Enclosure} {g h : Bool}
      → c' ≡ c
      → i ≡ div_e c' e
      → x' ≡ mul_e b.eps i
      → g ≡ lost_in x'.ends b.re.ends e.ends
      → h ≡ tiny_slope t.ends
      → (g && h) ≡ true
      → eps ≡ lost_sum x' b.re.value t.value c'.value e.value
      → eps ≡ add_e x' (mul_e b.re (quotient_slope t c' e))
  lost_eps pc pi px pg ph k pe = rw (pe, px, pi, pc) (lost_is (rw (pg, ph, px, pi, pc) at k))
