-- A turn of a loop that begins at i, counted from 0. Assumes nothing.
use Rattle.std.proofs.Common.{◌≡◌, ℕ, ◌+◌, ◌-◌, ◌≤◌, arith}

pub of_none : (i : ℕ) → i - i ≡ 0
of_none i = omega arith

pub from_start : (i j : ℕ) → i ≤ j → j ≡ i + (j - i)
from_start i j p = omega (arith, p)

pub from_next : (i j : ℕ) → i ≤ j → j + 1 - i ≡ (j - i) + 1
from_next i j p = omega (arith, p)
