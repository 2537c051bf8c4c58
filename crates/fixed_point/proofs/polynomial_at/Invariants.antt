use mathlib.Core.Path.{◌≡◌}
use mathlib.Core.List.{List, ◌++◌}
use Prim.Native.Nat.{ℕ}
use Rattle.fixed_point.specs.Horner.{horner}
use Rattle.fixed_point.proofs.polynomial_at.Given as goal

-- the rule is worked for the coefficients that were read, which stand last
abbrev pub invariant-loop-c : goal.invariant-loop-c
invariant-loop-c l = (read : List ℕ) × (l.coefficients ≡ l.c-iterator.iter.rest.now ++ read) × (l.sum ≡ horner read l.q)
