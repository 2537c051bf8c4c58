-- What lies strictly between two neighbours, and where a decimal lies by its nearest float: no float is nearer. Assumes nothing.
use Prim.Native.Nat.{ℕ, suc, ◌^◌, ◌≤◌, ◌<◌}
use native.Mathlib.Nat.{one-le-pow}
use native.Mathlib.Omega.{arith}
use mathlib.Core.Path.{◌≡◌, refl, sym, subst}
use mathlib.Core.Bool.{Bool, true, false, cond}
use lib.Dec.{T, ltb→lt, lit<}
use lib.Ieee.{Float, binary64, fits}
use lib.Ieee.Fits.{round-fits}
use lib.Ieee.Scale.{finite}
use Rattle.number.specs.Frac.{Frac, frac, Pos, le_f, lt_f, val_f}
use Rattle.number.specs.Neighbour.{next_up, next_down}
use Rattle.number.specs.Arith.{node, decimal}
use Rattle.number.proofs.Frac.{val_f_pos, sgn_pos, le_refl_f, lt_le_f, le_lt_trans_f, lt_le_trans_f}
use Rattle.number.proofs.Rank.{rank, rank_lt, le_rank}
use Rattle.number.proofs.Round.{Rounds, rounds_above, rounds_below}
use Rattle.number.proofs.Neighbour.{next_up_rank, next_down_rank, next_up_fits, next_down_fits, next_up_finite, next_down_finite}
use Rattle.enclosure.specs.Constants.{less, written, below, above}
use Rattle.enclosure.proofs.Constants.{written_between}
use Rattle.pi_as_pi.specs.Statement.{Tight}

-- a float below q is at most the float before one above q
module _ (a b : Float) (fa : T (fits binary64 a)) (ta : T (finite a)) (fb : T (fits binary64 b)) (tb : T (finite b)) (next : rank b ≡ suc (rank a)) (q : Frac) (Q : Pos q) where
  at_most : lt_f q (val_f b) → (f : Float) → T (fits binary64 f) → T (finite f) → le_f (val_f f) q → le_f (val_f f) (val_f a)
  at_most h f p t k = let r = rank_lt f b p t fb tb (le_lt_trans_f (val_f f) q (val_f b) (val_f_pos f) Q k h) in le_rank f a p t fa ta (omega arith)

  at_least : lt_f (val_f a) q → (f : Float) → T (fits binary64 f) → T (finite f) → le_f q (val_f f) → le_f (val_f b) (val_f f)
  at_least h f p t k = let r = rank_lt a f fa ta p t (lt_le_trans_f (val_f a) q (val_f f) Q (val_f_pos f) h k) in le_rank b f fb tb p t (omega arith)

  pub strictly : lt_f (val_f a) q → lt_f q (val_f b) → Tight a q b
  strictly h k = record { from = lt_le_f (val_f a) q h; to = lt_le_f q (val_f b) k; greatest = at_most k; least = at_least h }

-- ---- decimals
less_yes : (x y : Frac) → less x y ≡ true → lt_f x y
less_yes (frac p n d) (frac q m c) e = ltb→lt _ _ (subst T (sym e) tt)

module _ (s : Bool) (digits places : ℕ) where
  abbrev x : Float
  x = decimal s digits places

  abbrev W : Frac
  W = written s digits places

  W-pos : Pos W
  W-pos = sgn_pos s digits (10 ^ places) (one-le-pow places 10 (lit< tt))

  x_rounds : Rounds binary64 x W
  unfolding decimal
  x_rounds = record { sign = s; top = digits; bottom = 10 ^ places; above = one-le-pow places 10 (lit< tt); is = refl; le = le_refl_f W; ge = le_refl_f W }

  x_fits : T (fits binary64 x)
  unfolding decimal
  x_fits = round-fits binary64 s digits (10 ^ places)

  greatest_of : (b : Bool) → less W (val_f x) ≡ b → T (finite (cond b (next_down x) x)) → (f : Float) → T (fits binary64 f) → T (finite f) → le_f (val_f f) W → le_f (val_f f) (val_f (cond b (next_down x) x))
  greatest_of true e t f p u k =
      let w = next_down_finite x t in
      at_most (next_down x) x (next_down_fits x) t x_fits w (sym (next_down_rank x x_fits w t)) W W-pos (less_yes W (val_f x) e) f p u k
  greatest_of false e t f p u k = rounds_above binary64 x f W x_rounds t p u W-pos k

  least_of : (b : Bool) → less (val_f x) W ≡ b → T (finite (cond b (next_up x) x)) → (f : Float) → T (fits binary64 f) → T (finite f) → le_f W (val_f f) → le_f (val_f (cond b (next_up x) x)) (val_f f)
  least_of true e t f p u k =
      let w = next_up_finite x t in
      at_least x (next_up x) x_fits w (next_up_fits x) t (next_up_rank x x_fits w t) W W-pos (less_yes (val_f x) W e) f p u k
  least_of false e t f p u k = rounds_below binary64 x f W x_rounds t p u W-pos k

  pub decimal_tight : T (finite (below (node s digits places))) → T (finite (above (node s digits places))) → Tight (below (node s digits places)) W (above (node s digits places))
  unfolding below above
  decimal_tight t u =
      let k = written_between s digits places t u in
      record { from = k.from; to = k.to; greatest = greatest_of (less W (val_f x)) refl t; least = least_of (less (val_f x) W) refl u }
