-- Slip 7 of document 02, 'Pi as pi', in one result: the ends that the constants have in the two-ended run are the neighbouring floats that enclose them, and what may stand for them in the exact run. Demand 3's statement (crate demand_three) takes any such choice.
use Rattle.std.specs.Prelude.{ℕ, suc, ◌≤◌, Bool, T, Float}
use Rattle.std.specs.Float.{binary64}
use Rattle.std.specs.Float.Ieee.{fits}
use Rattle.std.specs.Float.Ieee.Scale.{finite}
use Rattle.number.specs.Frac.{Frac, Pos, le_f, lt_f, mul_f, val_f}
use Rattle.number.specs.Arith.{Constant, pi, frac_pi_6, tau, node, nearest}
use Rattle.series.specs.Sums.{nat_f, over_f}
use Rattle.enclosure.specs.Constants.{Choice, written, below, above}
use Rattle.enclosure.specs.Ends.{Fair}
use Rattle.pi_as_pi.specs.Machin.{pi_low, pi_high}

-- p is in the bracket of pi from the first 2n + 1 terms
pub record InBracket (n : ℕ) (p : Frac) : Type 0 where
  pub proper : Pos p
  pub low : le_f (pi_low n) p
  pub high : le_f p (pi_high n)

-- a is the greatest f64 not above q, and b the least not below it
pub record Tight (a : Float) (q : Frac) (b : Float) : Type 0 where
  pub from : le_f (val_f a) q
  pub to : le_f q (val_f b)
  pub greatest : (f : Float) → T (fits binary64 f) → T (finite f) → le_f (val_f f) q → le_f (val_f f) (val_f a)
  pub least : (f : Float) → T (fits binary64 f) → T (finite f) → le_f q (val_f f) → le_f (val_f b) (val_f f)

-- pi / 6 and twice pi
abbrev pub sixth : Frac → Frac
sixth p = over_f p 6

abbrev pub twice : Frac → Frac
twice p = mul_f p (nat_f 2)

-- p for pi, its sixth and its double, and each decimal as it is written
abbrev pub truly : Frac → Choice
truly p pi = p
truly p frac_pi_6 = sixth p
truly p tau = twice p
truly p (node s digits places) = written s digits places

pub record PiAsPi : Type 0 where
  -- the brackets are never empty, and narrow term by term
  pub holds : (n : ℕ) → InBracket n (pi_low n) × InBracket n (pi_high n)
  pub narrows : (n : ℕ) (p : Frac) → InBracket (suc n) p → InBracket n p
  -- "the two neighbouring floats that enclose it": from 17 terms on no float is left between the ends, and pi lies on neither
  pub pi_ends : (n : ℕ) → 8 ≤ n → (p : Frac) → InBracket n p → Tight (below pi) p (above pi) × lt_f (val_f (below pi)) p × lt_f p (val_f (above pi))
  pub frac_pi_6_ends : (n : ℕ) → 8 ≤ n → (p : Frac) → InBracket n p → Tight (below frac_pi_6) (sixth p) (above frac_pi_6) × lt_f (val_f (below frac_pi_6)) (sixth p) × lt_f (sixth p) (val_f (above frac_pi_6))
  pub tau_ends : (n : ℕ) → 8 ≤ n → (p : Frac) → InBracket n p → Tight (below tau) (twice p) (above tau) × lt_f (val_f (below tau)) (twice p) × lt_f (twice p) (val_f (above tau))
  -- "The decimals of the 21-node and 10-node rules are treated the same way": of any decimal within the largest f64
  pub decimal_ends : (s : Bool) (digits places : ℕ) → let c = node s digits places in T (finite (below c)) → T (finite (above c)) → Tight (below c) (written s digits places) (above c)
  -- fair choices: what the bracket has for pi, its sixth, its double and the decimals as written; and the Rust's floats
  pub true_fair : (n : ℕ) → 8 ≤ n → (p : Frac) → InBracket n p → Fair (truly p)
  pub floats_fair : Fair (λ c. val_f (nearest c))
