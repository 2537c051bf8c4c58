-- The order of quotients by a whole number and of sizes, and what keeps denominators positive. Assumes nothing.
use Prim.Native.Nat.{ℕ, ◌+◌, ◌*◌, ◌<◌}
use native.Mathlib.Nat.{mul-le-mul_right, mul-pos}
use native.Mathlib.Omega.{arith}
use Rattle.number.specs.Frac.{Frac, frac, Pos, le_f}
use Rattle.number.proofs.Frac.{ring, le_refl_f, le_trans_f}
use Rattle.series.specs.Sums.{over_f, abs_f, eq_f}

pub eq_refl_f : (x : Frac) → eq_f x x
eq_refl_f x = (le_refl_f x, le_refl_f x)

pub eq_sym_f : (x y : Frac) → eq_f x y → eq_f y x
eq_sym_f x y e = (e.1, e.0)

pub eq_trans_f : (x y z : Frac) → Pos y → eq_f x y → eq_f y z → eq_f x z
eq_trans_f x y z p e f = (le_trans_f x y z p e.0 f.0, le_trans_f z y x p f.1 e.1)

pub over_mono : (x y : Frac) (k : ℕ) → le_f x y → le_f (over_f x k) (over_f y k)
over_mono (frac p n d) (frac q m c) k h =
    let a = simp ring at (mul-le-mul_right k h) in
    simp ring (omega arith)

pub over_pos : (x : Frac) (k : ℕ) → Pos x → 0 < k → Pos (over_f x k)
over_pos (frac p n d) k h l = mul-pos h l

pub abs_pos : (x : Frac) → Pos x → Pos (abs_f x)
abs_pos (frac p n d) h = h
