-- The ends of a constant: the Rust's float lies between them, and so does the fraction that a decimal writes; so there are fair choices. Assumes nothing.
use Prim.Native.Nat.{ℕ, ◌+◌, ◌*◌, ◌^◌, ◌<◌}
use mathlib.Core.Path.{◌≡◌, refl, sym, subst}
use mathlib.Core.Bool.{Bool, true, false, not, cond}
use lib.Dec.{T, nltb→le, lit<}
use native.Mathlib.Nat.{one-le-pow}
use lib.Ieee.{Float, binary64, fits}
use lib.Ieee.Fits.{round-fits}
use lib.Ieee.Bits.{of_bits-fits}
use lib.Ieee.Scale.{finite}
use Rattle.number.specs.Frac.{Frac, frac, Pos, le_f, val_f}
use Rattle.number.specs.Neighbour.{next_up, next_down}
use Rattle.number.specs.Arith.{Constant, pi, frac_pi_6, tau, node, nearest, decimal}
use Rattle.number.proofs.Frac.{val_f_pos, sgn_pos, le_refl_f, lt_le_f}
use Rattle.number.proofs.Round.{Rounds, rounds_over, rounds_under}
use Rattle.number.proofs.Neighbour.{next_up_lt, next_down_lt, next_up_fits, next_down_fits, next_up_finite, next_down_finite}
use Rattle.enclosure.specs.Constants.{less, written, below, above}
use Rattle.enclosure.specs.Ends.{Between, Fair}

power_pos : (n : ℕ) → 0 < 10 ^ n
power_pos n = one-le-pow n 10 (lit< tt)

-- ---- a float, and one step of it where a test says so
module _ (x : Float) (p : T (fits binary64 x)) where
  down_finite : (b : Bool) → T (finite (cond b (next_down x) x)) → T (finite x)
  down_finite true t = next_down_finite x t
  down_finite false t = t

  down_le : (b : Bool) → T (finite (cond b (next_down x) x)) → le_f (val_f (cond b (next_down x) x)) (val_f x)
  down_le true t = lt_le_f (val_f (next_down x)) (val_f x) (next_down_lt x p (next_down_finite x t) t)
  down_le false t = le_refl_f (val_f x)

  up_le : (b : Bool) → T (finite (cond b (next_up x) x)) → le_f (val_f x) (val_f (cond b (next_up x) x))
  up_le true t = lt_le_f (val_f x) (val_f (next_up x)) (next_up_lt x p (next_up_finite x t) t)
  up_le false t = le_refl_f (val_f x)

-- ---- the Rust's float lies between the ends
nearest_fits : (c : Constant) → T (fits binary64 (nearest c))
unfolding decimal
nearest_fits pi = of_bits-fits binary64 _
nearest_fits frac_pi_6 = of_bits-fits binary64 _
nearest_fits tau = of_bits-fits binary64 _
nearest_fits (node s digits places) = round-fits binary64 s digits (10 ^ places)

pub nearest_finite : (c : Constant) → T (finite (below c)) → T (finite (nearest c))
unfolding below
nearest_finite pi t = t
nearest_finite frac_pi_6 t = next_down_finite (nearest frac_pi_6) t
nearest_finite tau t = t
nearest_finite (node s digits places) t = down_finite (decimal s digits places) (nearest_fits (node s digits places)) (less (written s digits places) (val_f (decimal s digits places))) t

from_below : (c : Constant) → T (finite (below c)) → le_f (val_f (below c)) (val_f (nearest c))
unfolding below
from_below pi t = le_refl_f (val_f (nearest pi))
from_below frac_pi_6 t = down_le (nearest frac_pi_6) (nearest_fits frac_pi_6) true t
from_below tau t = le_refl_f (val_f (nearest tau))
from_below (node s digits places) t = down_le (decimal s digits places) (nearest_fits (node s digits places)) (less (written s digits places) (val_f (decimal s digits places))) t

to_above : (c : Constant) → T (finite (above c)) → le_f (val_f (nearest c)) (val_f (above c))
unfolding above
to_above pi t = up_le (nearest pi) (nearest_fits pi) true t
to_above frac_pi_6 t = le_refl_f (val_f (nearest frac_pi_6))
to_above tau t = up_le (nearest tau) (nearest_fits tau) true t
to_above (node s digits places) t = up_le (decimal s digits places) (nearest_fits (node s digits places)) (less (val_f (decimal s digits places)) (written s digits places)) t

pub nearest_between : (c : Constant) → T (finite (below c)) → T (finite (above c)) → Between (below c) (val_f (nearest c)) (above c)
nearest_between c t u = record { lower_finite = t; upper_finite = u; den = val_f_pos (nearest c); from = from_below c t; to = to_above c u }

-- a fair choice: the Rust's floats, as document 01 had it
pub floats_fair : Fair (λ c. val_f (nearest c))
floats_fair = record { between = nearest_between }

-- ---- so does the fraction that a decimal writes
no_less : (x y : Frac) → less x y ≡ false → le_f y x
no_less (frac p n d) (frac q m c) e = nltb→le (p * c + m * d) (q * d + n * c) (subst (λ (b : Bool). T (not b)) (sym e) tt)

module _ (s : Bool) (digits places : ℕ) where
  abbrev x : Float
  x = decimal s digits places

  abbrev W : Frac
  W = written s digits places

  W-pos : Pos W
  W-pos = sgn_pos s digits (10 ^ places) (power_pos places)

  x_rounds : Rounds binary64 x W
  unfolding decimal
  x_rounds = record { sign = s; top = digits; bottom = 10 ^ places; above = power_pos places; is = refl; le = le_refl_f W; ge = le_refl_f W }

  from_down : (b : Bool) → less W (val_f x) ≡ b → T (finite (cond b (next_down x) x)) → le_f (val_f (cond b (next_down x) x)) W
  from_down true e t =
      rounds_over binary64 x (next_down x) W x_rounds (next_down_finite x t) (next_down_fits x) t W-pos (next_down_lt x (nearest_fits (node s digits places)) (next_down_finite x t) t)
  from_down false e t = no_less W (val_f x) e

  to_up : (b : Bool) → less (val_f x) W ≡ b → T (finite (cond b (next_up x) x)) → le_f W (val_f (cond b (next_up x) x))
  to_up true e t =
      rounds_under binary64 x (next_up x) W x_rounds (next_up_finite x t) (next_up_fits x) t W-pos (next_up_lt x (nearest_fits (node s digits places)) (next_up_finite x t) t)
  to_up false e t = no_less (val_f x) W e

  pub written_between : T (finite (below (node s digits places))) → T (finite (above (node s digits places))) → Between (below (node s digits places)) W (above (node s digits places))
  unfolding below above
  written_between t u = record { lower_finite = t; upper_finite = u; den = W-pos; from = from_down (less W (val_f x)) refl t; to = to_up (less (val_f x) W) refl u }
