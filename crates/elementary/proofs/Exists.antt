-- Every fraction has a value in document 01's brackets of exp_m1 and tanh. Assumes nothing.
use Prim.Native.Nat.{ℕ, ◌+◌, ◌*◌, ◌≤◌, ◌<◌}
use native.Mathlib.Omega.{arith}
use lib.Dec.{lit<}
use Rattle.number.specs.Frac.{Frac, frac, Pos, le_f, lt_f, zero_f, add_f, sub_f, mul_f, div_f, inv_f}
use Rattle.number.proofs.Frac.{le_refl_f, mul_f_pos}
use Rattle.number.proofs.Hull.{inv_f_pos_above}
use Rattle.series.specs.Sums.{nat_f}
use Rattle.series.specs.Exact.{ExpValue, ExpM1Value, TanhValue}
use Rattle.exponential.proofs.M1Near.{minus_one_pos}
use Rattle.power.proofs.Exists.{exp_has_value}

pub exp_m1_has_value : (v : Frac) → Pos v → (x : Frac) × ExpM1Value v x
exp_m1_has_value v h = go (exp_has_value v h)
  where
    go : (e : Frac) × ExpValue v e × le_f zero_f e → (x : Frac) × ExpM1Value v x
    go (e, u, z) = (sub_f e (nat_f 1), record { e = e; is_exp = u; proper = minus_one_pos e u.proper.0; same = (le_refl_f (sub_f e (nat_f 1)), le_refl_f (sub_f e (nat_f 1))) })

-- e + 1 is above 0
more_one : (e : Frac) → Pos e → le_f zero_f e → lt_f zero_f (add_f e (nat_f 1))
more_one (frac p n d) h z = go p n d h z
  where
    go : (p n d : ℕ) → 0 < d → 0 * d + n * 1 ≤ p * 1 + 0 * d → 0 * (d * 1) + (n * 1 + 0 * d) * 1 < (p * 1 + 1 * d) * 1 + 0 * (d * 1)
    go p n d h z = omega arith

pub tanh_has_value : (v : Frac) → Pos v → (x : Frac) × TanhValue v x
tanh_has_value v h = go (exp_has_value (mul_f (nat_f 2) v) (mul_f_pos (nat_f 2) v (lit< tt) h))
  where
    go : (e : Frac) × ExpValue (mul_f (nat_f 2) v) e × le_f zero_f e → (x : Frac) × TanhValue v x
    go (e, u, z) =
        let x = div_f (sub_f e (nat_f 1)) (add_f e (nat_f 1)) in
        (x, record { e = e; is_exp = u; proper = mul_f_pos (sub_f e (nat_f 1)) (inv_f (add_f e (nat_f 1))) (minus_one_pos e u.proper.0) (inv_f_pos_above (add_f e (nat_f 1)) (more_one e u.proper.0 z)); same = (le_refl_f x, le_refl_f x) })
