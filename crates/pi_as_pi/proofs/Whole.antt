-- Slip 7's result: the computed places of pi's bracket, and the choices that are fair. Assumes nothing.
use Prim.Native.Nat.{ℕ, suc, ◌+◌, ◌-◌, ◌*◌, ◌≤◌}
use native.Mathlib.Omega.{arith}
use mathlib.Core.Path.{◌≡◌, refl, subst, sym}
use mathlib.Core.Bool.{Bool}
use lib.Dec.{T, lit<, lit≤}
use lib.Ieee.{Float, binary64, fits, to_bits, of_bits}
use lib.Ieee.Scale.{finite}
use Rattle.number.specs.Frac.{Frac, frac, Pos, le_f, lt_f, mul_f, val_f}
use Rattle.number.specs.Neighbour.{next_up, next_down, step_up, step_down}
use Rattle.number.specs.Arith.{Constant, pi, frac_pi_6, tau, node, nearest}
use Rattle.number.proofs.Frac.{ring, mul_f_pos, lt_le_trans_f, le_lt_trans_f, lt_le_f, keeps_of}
use Rattle.number.proofs.Neighbour.{next_up_rank, next_down_rank}
use Rattle.series.specs.Sums.{nat_f, over_f, sum_f}
use Rattle.enclosure.specs.Constants.{written, below, above}
use Rattle.enclosure.specs.Ends.{Between, Fair}
use Rattle.enclosure.proofs.Constants as Ends
use Rattle.pi_as_pi.specs.Machin.{arctan_low, arctan_high, pi_low, pi_high}
use Rattle.pi_as_pi.specs.Statement.{InBracket, Tight, sixth, twice, truly, PiAsPi}
use Rattle.pi_as_pi.proofs.Nested.{pi_low_pos, pi_high_pos, holds, narrows, within}
use Rattle.pi_as_pi.proofs.Tight.{strictly, decimal_tight}

-- ---- the bracket of 17 terms beside the floats, by computation
pi_over : lt_f (val_f (below pi)) (pi_low 8)
unfolding below pi_low arctan_low arctan_high sum_f of_bits
pi_over = lit< tt

pi_under : lt_f (pi_high 8) (val_f (above pi))
unfolding above pi_high arctan_low arctan_high sum_f of_bits to_bits next_up step_up
pi_under = lit< tt

sixth_over : lt_f (val_f (below frac_pi_6)) (sixth (pi_low 8))
unfolding below pi_low arctan_low arctan_high sum_f of_bits to_bits next_down step_down
sixth_over = lit< tt

sixth_under : lt_f (sixth (pi_high 8)) (val_f (above frac_pi_6))
unfolding above pi_high arctan_low arctan_high sum_f of_bits
sixth_under = lit< tt

twice_over : lt_f (val_f (below tau)) (twice (pi_low 8))
unfolding below pi_low arctan_low arctan_high sum_f of_bits
twice_over = lit< tt

twice_under : lt_f (twice (pi_high 8)) (val_f (above tau))
unfolding above pi_high arctan_low arctan_high sum_f of_bits to_bits next_up step_up
twice_under = lit< tt

-- ---- from the bracket's ends to what is in it
sixth_mono : (x y : Frac) → le_f x y → le_f (sixth x) (sixth y)
sixth_mono (frac p n d) (frac q m c) h = omega arith

sixth_pos : (x : Frac) → Pos x → Pos (sixth x)
sixth_pos (frac p n d) h = omega arith

twice_mono : (x y : Frac) → le_f x y → le_f (twice x) (twice y)
twice_mono = keeps_of (nat_f 2) (lit≤ tt)

twice_pos : (x : Frac) → Pos x → Pos (twice x)
twice_pos x h = mul_f_pos x (nat_f 2) h (lit< tt)

-- the ends are finite, of the format, and neighbours
module _ (n : ℕ) (N : 8 ≤ n) (p : Frac) (h : InBracket n p) where
  eight : InBracket 8 p
  eight = within (n - 8) 8 p (subst (λ (k : ℕ). InBracket k p) (omega arith) h)

  p_over : lt_f (val_f (below pi)) p
  p_over = lt_le_trans_f (val_f (below pi)) (pi_low 8) p (pi_low_pos 8) h.proper pi_over eight.low

  p_under : lt_f p (val_f (above pi))
  p_under = le_lt_trans_f p (pi_high 8) (val_f (above pi)) h.proper (pi_high_pos 8) eight.high pi_under

  six_over : lt_f (val_f (below frac_pi_6)) (sixth p)
  six_over = lt_le_trans_f (val_f (below frac_pi_6)) (sixth (pi_low 8)) (sixth p) (sixth_pos (pi_low 8) (pi_low_pos 8)) (sixth_pos p h.proper) sixth_over (sixth_mono (pi_low 8) p eight.low)

  six_under : lt_f (sixth p) (val_f (above frac_pi_6))
  six_under = le_lt_trans_f (sixth p) (sixth (pi_high 8)) (val_f (above frac_pi_6)) (sixth_pos p h.proper) (sixth_pos (pi_high 8) (pi_high_pos 8)) (sixth_mono p (pi_high 8) eight.high) sixth_under

  two_over : lt_f (val_f (below tau)) (twice p)
  two_over = lt_le_trans_f (val_f (below tau)) (twice (pi_low 8)) (twice p) (twice_pos (pi_low 8) (pi_low_pos 8)) (twice_pos p h.proper) twice_over (twice_mono (pi_low 8) p eight.low)

  two_under : lt_f (twice p) (val_f (above tau))
  two_under = le_lt_trans_f (twice p) (twice (pi_high 8)) (val_f (above tau)) (twice_pos p h.proper) (twice_pos (pi_high 8) (pi_high_pos 8)) (twice_mono p (pi_high 8) eight.high) twice_under

  pi_tight : Tight (below pi) p (above pi)
  unfolding below above next_up step_up to_bits of_bits fits
  pi_tight = strictly (below pi) (above pi) tt tt tt tt (next_up_rank (nearest pi) tt tt tt) p h.proper p_over p_under

  sixth_tight : Tight (below frac_pi_6) (sixth p) (above frac_pi_6)
  unfolding below above next_down step_down to_bits of_bits fits
  sixth_tight = strictly (below frac_pi_6) (above frac_pi_6) tt tt tt tt (sym (next_down_rank (nearest frac_pi_6) tt tt tt)) (sixth p) (sixth_pos p h.proper) six_over six_under

  tau_tight : Tight (below tau) (twice p) (above tau)
  unfolding below above next_up step_up to_bits of_bits fits
  tau_tight = strictly (below tau) (above tau) tt tt tt tt (next_up_rank (nearest tau) tt tt tt) (twice p) (twice_pos p h.proper) two_over two_under

  between : (c : Constant) → T (finite (below c)) → T (finite (above c)) → Between (below c) (truly p c) (above c)
  between pi t u = record { lower_finite = t; upper_finite = u; den = h.proper; from = pi_tight.from; to = pi_tight.to }
  between frac_pi_6 t u = record { lower_finite = t; upper_finite = u; den = sixth_pos p h.proper; from = sixth_tight.from; to = sixth_tight.to }
  between tau t u = record { lower_finite = t; upper_finite = u; den = twice_pos p h.proper; from = tau_tight.from; to = tau_tight.to }
  between (node s digits places) t u = Ends.written_between s digits places t u

pub pi_as_pi : PiAsPi
pi_as_pi =
    record {
      holds = holds;
      narrows = narrows;
      pi_ends = λ n N p h. (pi_tight n N p h, p_over n N p h, p_under n N p h);
      frac_pi_6_ends = λ n N p h. (sixth_tight n N p h, six_over n N p h, six_under n N p h);
      tau_ends = λ n N p h. (tau_tight n N p h, two_over n N p h, two_under n N p h);
      decimal_ends = λ s digits places t u. decimal_tight s digits places t u;
      true_fair = λ n N p h. record { between = between n N p h };
      floats_fair = Ends.floats_fair;
    }
