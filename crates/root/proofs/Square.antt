-- From squares to roots. Assumes nothing.
use Prim.Native.Nat.{ℕ, ◌+◌, ◌*◌, ◌≤◌, ◌<◌}
use mathlib.Core.Path.{◌≡◌}
use native.Mathlib.Nat.{lt_irrefl, lt_of_lt_of_le, lt_of_not-le, mul-le-mul}
use native.Mathlib.Omega.{arith}
use native.Mathlib.Decide.{dec_le}
use Rattle.number.proofs.Frac.{ring}

pub root_lt : (r c : ℕ) → r * r < c * c → r < c
root_lt r c h = go (dec_le c r)
  where
    go : Dec (c ≤ r) → r < c
    go (yes p) = absurd (lt_irrefl (r * r) (lt_of_lt_of_le h (mul-le-mul p p)))
    go (no n) = lt_of_not-le n

pub root_le : (r c : ℕ) → r * r ≤ c * c → r ≤ c
root_le r c h = lin r c (root_lt r (c + 1) (let e : (c + 1) * (c + 1) ≡ c * c + 2 * c + 1 = simp ring (omega arith) in omega arith))
  where
    lin : (r c : ℕ) → r < c + 1 → r ≤ c
    lin r c h = omega arith
