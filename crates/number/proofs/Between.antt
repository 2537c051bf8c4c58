-- An exact sum, difference, product or quotient lies between the neighbours of its rounded value. Assumes nothing.
use Rattle.std.proofs.Common.{T}
use lib.Ieee.{Float, binary64, add, sub, mul, div}
use lib.Ieee.Scale.{finite}
use Rattle.number.specs.Frac.{Frac, Pos, le_f, add_f, sub_f, neg_f, mul_f, inv_f, div_f, val_f}
use Rattle.number.specs.Neighbour.{next_up, next_down}
use Rattle.number.proofs.Frac.{val_f_pos, add_f_pos, mul_f_pos, neg_f_pos}
use Rattle.number.proofs.Round.{Rounds, rounds_under, rounds_over, rounds_fits}
use Rattle.number.proofs.Ops.{NonZero, nonzero_inv, add_rounds, sub_rounds, mul_rounds, div_rounds}
use Rattle.number.proofs.Neighbour.{next_up_lt, next_down_lt, next_up_fits, next_down_fits}

-- q lies between the neighbours of r, as far as they are finite
abbrev pub Near : Float → Frac → Type 0
Near r q = T (finite r) → T (finite (next_down r)) → T (finite (next_up r)) → le_f (val_f (next_down r)) q × le_f q (val_f (next_up r))

pub rounds_near : (r : Float) (q : Frac) → Rounds binary64 r q → Pos q → Near r q
rounds_near r q k Q t d u = (
  rounds_over binary64 r (next_down r) q k t (next_down_fits r) d Q (next_down_lt r (rounds_fits binary64 r q k) t d),
  rounds_under binary64 r (next_up r) q k t (next_up_fits r) u Q (next_up_lt r (rounds_fits binary64 r q k) t u),
)

module _ (x y : Float) (p : T (finite x)) where
  pub add_near : T (finite y) → Near (add binary64 x y) (add_f (val_f x) (val_f y))
  add_near q = rounds_near _ _ (add_rounds binary64 x y p q) (add_f_pos (val_f x) (val_f y) (val_f_pos x) (val_f_pos y))

  pub sub_near : T (finite y) → Near (sub binary64 x y) (sub_f (val_f x) (val_f y))
  sub_near q = rounds_near _ _ (sub_rounds binary64 x y p q) (add_f_pos (val_f x) (neg_f (val_f y)) (val_f_pos x) (neg_f_pos (val_f y) (val_f_pos y)))

  pub mul_near : T (finite y) → Near (mul binary64 x y) (mul_f (val_f x) (val_f y))
  mul_near q = rounds_near _ _ (mul_rounds binary64 x y p q) (mul_f_pos (val_f x) (val_f y) (val_f_pos x) (val_f_pos y))

  pub div_near : NonZero y → Near (div binary64 x y) (div_f (val_f x) (val_f y))
  div_near q = rounds_near _ _ (div_rounds binary64 x y p q) (mul_f_pos (val_f x) (inv_f (val_f y)) (val_f_pos x) (nonzero_inv y q))
