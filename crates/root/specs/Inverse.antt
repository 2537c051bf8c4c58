-- How near the reciprocal is from which the root's digits come: the contract of `inverse` cites it. What `sqrt` promises can be read without it.
use Rattle.std.specs.Prelude.{ℕ, ◌+◌, ◌*◌, ◌^◌, ◌≤◌}

-- w is 2 ^ 62 / √a, or less by at most three parts in 2 ^ 29
pub record Inverse (a w : ℕ) : Type 0 where
  pub over : w * w * a ≤ 2 ^ 62 * 2 ^ 62
  pub near : 2 ^ 62 * 2 ^ 62 ≤ w * w * (a + 2 ^ 34) + 2 ^ 62 * (7 * 2 ^ 32)
