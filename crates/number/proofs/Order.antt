-- The order of floats is that of their fractions; the least and the greatest of floats. Assumes nothing.
use Rattle.std.proofs.Common.{ℕ, ◌+◌, ◌*◌, Bool, true, false, cond, not, T, arith, ltb→lt, nltb→le}
use lib.Ieee.{Float, nan, inf, fin, binary64, up, down, fits, lt, is_nan, below}
use lib.Ieee.Scale.{finite}
use Rattle.number.specs.Frac.{le_f, lt_f, sgn, val_f}
use Rattle.number.specs.Neighbour.{least, greatest}
use Rattle.number.proofs.Frac.{le_refl_f, lt_le_f, lt_irrefl_f}

-- ---- the float order is the fractions', between finite values
below_yes : (s t : Bool) (X d Y c : ℕ) → T (below s (X * c) t (Y * d)) → lt_f (sgn s X d) (sgn t Y c)
below_yes false false X d Y c h = let k = ltb→lt (X * c) (Y * d) h in omega arith
below_yes false true X d Y c h = absurd h
below_yes true false X d Y c h = let k = ltb→lt 0 (X * c + Y * d) h in omega arith
below_yes true true X d Y c h = let k = ltb→lt (Y * d) (X * c) h in omega arith

below_no : (s t : Bool) (X d Y c : ℕ) → T (not (below s (X * c) t (Y * d))) → le_f (sgn t Y c) (sgn s X d)
below_no false false X d Y c h = let k = nltb→le (X * c) (Y * d) h in omega arith
below_no false true X d Y c h = omega arith
below_no true false X d Y c h = let k = nltb→le 0 (X * c + Y * d) h in omega arith
below_no true true X d Y c h = let k = nltb→le (Y * d) (X * c) h in omega arith

pub lt_yes : (x y : Float) → T (finite x) → T (finite y) → T (lt x y) → lt_f (val_f x) (val_f y)
unfolding lt
lt_yes nan y p q h = absurd p
lt_yes (inf s) y p q h = absurd p
lt_yes (fin s m e) nan p q h = absurd q
lt_yes (fin s m e) (inf t) p q h = absurd q
lt_yes (fin s m e) (fin t n d) p q h = below_yes s t (m * up e) (down e) (n * up d) (down d) h

pub lt_no : (x y : Float) → T (finite x) → T (finite y) → T (not (lt x y)) → le_f (val_f y) (val_f x)
unfolding lt
lt_no nan y p q h = absurd p
lt_no (inf s) y p q h = absurd p
lt_no (fin s m e) nan p q h = absurd q
lt_no (fin s m e) (inf t) p q h = absurd q
lt_no (fin s m e) (fin t n d) p q h = below_no s t (m * up e) (down e) (n * up d) (down d) h

pub lt_from : (x y : Float) → T (finite x) → T (finite y) → lt_f (val_f x) (val_f y) → T (lt x y)
lt_from x y p q h = go (lt x y) (lt_no x y p q)
  where
    go : (b : Bool) → (T (not b) → le_f (val_f y) (val_f x)) → T b
    go true k = tt
    go false k = absurd (lt_irrefl_f (val_f y) (val_f x) (k tt) h)

-- ---- the least and the greatest of two
pub record Least (x y r : Float) : Type 0 where
  pub finite_r : T (finite r)
  pub fits_r : T (fits binary64 r)
  pub left : le_f (val_f r) (val_f x)
  pub right : le_f (val_f r) (val_f y)

pub record Greatest (x y r : Float) : Type 0 where
  pub finite_r : T (finite r)
  pub fits_r : T (fits binary64 r)
  pub left : le_f (val_f x) (val_f r)
  pub right : le_f (val_f y) (val_f r)

pub least_is : (x y : Float) → T (finite x) → T (finite y) → T (fits binary64 x) → T (fits binary64 y) → Least x y (least x y)
unfolding least
least_is x y p q f g = go (lt y x) (lt_yes y x q p) (lt_no y x q p)
  where
    go : (b : Bool) → (T b → lt_f (val_f y) (val_f x)) → (T (not b) → le_f (val_f x) (val_f y)) → Least x y (cond b y x)
    go true h k = record { finite_r = q; fits_r = g; left = lt_le_f (val_f y) (val_f x) (h tt); right = le_refl_f (val_f y) }
    go false h k = record { finite_r = p; fits_r = f; left = le_refl_f (val_f x); right = k tt }

pub greatest_is : (x y : Float) → T (finite x) → T (finite y) → T (fits binary64 x) → T (fits binary64 y) → Greatest x y (greatest x y)
unfolding greatest
greatest_is x y p q f g = go (lt x y) (lt_yes x y p q) (lt_no x y p q)
  where
    go : (b : Bool) → (T b → lt_f (val_f x) (val_f y)) → (T (not b) → le_f (val_f y) (val_f x)) → Greatest x y (cond b y x)
    go true h k = record { finite_r = q; fits_r = g; left = lt_le_f (val_f x) (val_f y) (h tt); right = le_refl_f (val_f y) }
    go false h k = record { finite_r = p; fits_r = f; left = le_refl_f (val_f x); right = k tt }

-- ---- where the least is above minus infinity, and the greatest below plus infinity, all are finite
abbrev pub over : Float → Bool
over nan = false
over (inf s) = not s
over (fin s m e) = true

abbrev pub under : Float → Bool
under nan = false
under (inf s) = s
under (fin s m e) = true

pub both : (x : Float) → T (over x) → T (under x) → T (finite x)
both nan p q = p
both (inf true) p q = p
both (inf false) p q = q
both (fin s m e) p q = tt

pub finite_over : (x : Float) → T (finite x) → T (over x)
finite_over nan t = t
finite_over (inf s) t = absurd t
finite_over (fin s m e) t = tt

pub finite_under : (x : Float) → T (finite x) → T (under x)
finite_under nan t = t
finite_under (inf s) t = absurd t
finite_under (fin s m e) t = tt

pub least_over : (x y : Float) → T (not (is_nan x)) → T (not (is_nan y)) → T (over (least x y)) → T (over x) × T (over y)
unfolding least lt is_nan
least_over nan y p q h = absurd p
least_over (inf s) nan p q h = absurd q
least_over (inf true) (inf true) p q h = absurd h
least_over (inf true) (inf false) p q h = absurd h
least_over (inf false) (inf true) p q h = absurd h
least_over (inf false) (inf false) p q h = (tt, tt)
least_over (inf true) (fin t n d) p q h = absurd h
least_over (inf false) (fin t n d) p q h = (tt, tt)
least_over (fin s m e) nan p q h = absurd q
least_over (fin s m e) (inf true) p q h = absurd h
least_over (fin s m e) (inf false) p q h = (tt, tt)
least_over (fin s m e) (fin t n d) p q h = (tt, tt)

pub greatest_under : (x y : Float) → T (not (is_nan x)) → T (not (is_nan y)) → T (under (greatest x y)) → T (under x) × T (under y)
unfolding greatest lt is_nan
greatest_under nan y p q h = absurd p
greatest_under (inf s) nan p q h = absurd q
greatest_under (inf true) (inf true) p q h = (tt, tt)
greatest_under (inf true) (inf false) p q h = absurd h
greatest_under (inf false) (inf true) p q h = absurd h
greatest_under (inf false) (inf false) p q h = absurd h
greatest_under (inf false) (fin t n d) p q h = absurd h
greatest_under (inf true) (fin t n d) p q h = (tt, tt)
greatest_under (fin s m e) nan p q h = absurd q
greatest_under (fin s m e) (inf false) p q h = absurd h
greatest_under (fin s m e) (inf true) p q h = (tt, tt)
greatest_under (fin s m e) (fin t n d) p q h = (tt, tt)

pick_nan : (b : Bool) (x y : Float) → T (not (is_nan x)) → T (not (is_nan y)) → T (not (is_nan (cond b x y)))
pick_nan true x y p q = p
pick_nan false x y p q = q

pub least_nan : (x y : Float) → T (not (is_nan x)) → T (not (is_nan y)) → T (not (is_nan (least x y)))
unfolding least
least_nan x y p q = pick_nan (lt y x) y x q p

pub greatest_nan : (x y : Float) → T (not (is_nan x)) → T (not (is_nan y)) → T (not (is_nan (greatest x y)))
unfolding greatest
greatest_nan x y p q = pick_nan (lt x y) y x q p
