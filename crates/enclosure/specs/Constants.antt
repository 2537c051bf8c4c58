-- Slip 7: the constants in the two-ended and in the exact run. "each of the Rust's constants pi, pi/6 and twice pi enters the two-ended run as the two neighbouring floats that enclose it, and in the exact run as any fraction between them". "The decimals of the 21-node and 10-node rules are treated the same way where they are no float."
use Rattle.std.specs.Prelude.{ℕ, ◌+◌, ◌*◌, ◌^◌, Bool, cond, ltb, Float}
use Rattle.number.specs.Frac.{Frac, frac, sgn, val_f}
use Rattle.number.specs.Neighbour.{next_up, next_down}
use Rattle.number.specs.Arith.{Constant, pi, frac_pi_6, tau, node, nearest, decimal}

-- less, as a test
abbrev pub less : Frac → Frac → Bool
less (frac p n d) (frac q m c) = ltb (p * c + m * d) (q * d + n * c)

-- the fraction that a decimal writes
abbrev pub written : Bool → ℕ → ℕ → Frac
written s digits places = sgn s digits (10 ^ places)

-- The greatest f64 not above a constant, and the least not below it. The Rust's floats for pi and for twice pi lie below these, that for pi / 6 above it (crate pi_as_pi has the proof, from a series). A decimal that is a float is both its ends.
unfoldable pub below : Constant → Float
below pi = nearest pi
below frac_pi_6 = next_down (nearest frac_pi_6)
below tau = nearest tau
below (node s digits places) = let x = decimal s digits places in cond (less (written s digits places) (val_f x)) (next_down x) x

unfoldable pub above : Constant → Float
above pi = next_up (nearest pi)
above frac_pi_6 = nearest frac_pi_6
above tau = next_up (nearest tau)
above (node s digits places) = let x = decimal s digits places in cond (less (val_f x) (written s digits places)) (next_up x) x

-- what the exact run takes for each constant
abbrev pub Choice : Type 0
Choice = Constant → Frac
