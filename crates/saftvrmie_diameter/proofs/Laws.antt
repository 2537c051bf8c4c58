-- Laws of Halley's loop, over plain values. Assumes nothing.
use Prim.Native.Nat.{ℕ, suc, ◌+◌, ◌-◌, ◌≤◌, ◌<◌}
use native.Mathlib.Omega.{arith}
use lib.Ieee.{Float, lt}
use mathlib.Core.Path.{◌≡◌}
use mathlib.Core.Bool.{true, false}
use Rattle.number.specs.Ans.{Ans, held, refused, ◌>>=◌}
use Rattle.number.specs.Arith.{floats, zero64}
use Rattle.number.specs.Functions.{calls}
use Rattle.elementary.specs.Port.{port}
use Rattle.saftvrmie_diameter.specs.Diameter.{Halley, halley_step, halley}

-- ---- the loop: what the steps that are left give from here is the whole
module _ (la lr c r : Float) (n : ℕ) (whole : Ans Float) (h : halley floats (calls floats port) la lr c n r ≡ whole) where
  pub ends : n ≤ 0 → held r ≡ whole
  unfolding halley
  ends p = let d : n ≡ 0 = omega arith in rw d at h

  module _ (p : 0 < n) where
    turn : halley floats (calls floats port) la lr c (suc (n - 1)) r ≡ whole
    turn = let d : n ≡ suc (n - 1) = omega arith in rw d at h

    pub outside : (k : ℕ) → halley_step floats (calls floats port) la lr c r ≡ refused k → refused k ≡ whole
    unfolding halley ◌>>=◌
    outside k e = rw e at turn

    module _ (s : Halley Float) (e : halley_step floats (calls floats port) la lr c r ≡ held s) where
      pub below : lt s.f zero64 ≡ true → held r ≡ whole
      unfolding halley ◌>>=◌
      below t = rw (e, t) at turn

      pub on : lt s.f zero64 ≡ false → halley floats (calls floats port) la lr c (n - 1) (floats.sub r s.dr) ≡ whole
      unfolding halley ◌>>=◌
      on t = rw (e, t) at turn

-- turns that are left of 4
pub left : (j : ℕ) → j < 4 → 0 < 4 - j
left j p = omega arith

pub none_left : (j : ℕ) → 4 ≤ j → 4 - j ≤ 0
none_left j p = omega arith

pub next_left : (j : ℕ) → 4 - (j + 1) ≡ 4 - j - 1
next_left j = omega arith
