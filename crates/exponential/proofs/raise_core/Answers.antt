-- `exponential::raise_core` meets its contract. Assumes nothing.
use mathlib.Core.Path.{ap}
use Prim.Native.Nat.{ℕ, ◌+◌, ◌-◌, ◌*◌, ◌/◌, ◌^◌}
use lib.Ieee.{binary64, of_bits}
use Rattle.exponential.specs.Raise.{raise_of}
use Rattle.exponential.proofs.Digits.{raise_no_nan}
use Rattle.exponential.proofs.raise_core.Goals as goal

pub float_from_bits-result : goal.float_from_bits-result
float_from_bits-result c = raise_no_nan c.args.w c.significand-x.result c.significand-x.ensures c.requires.1

pub returns : goal.returns
unfolding raise_of
returns c = ap (λ (x : ℕ). of_bits binary64 ((c.args.w / 2 ^ 53 - 1) * 2 ^ 52 + (x / 1024 + 1) / 2)) c.significand-x.ensures
