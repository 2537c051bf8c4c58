-- Newton's step towards the reciprocal root: y (3 D - u) / (2 D) with u = y² c is never too large, and near where u is near D. Assumes nothing.
use mathlib.Core.Path.{◌≡◌, sym, subst}
use Prim.Native.Nat.{ℕ, ◌+◌, ◌-◌, ◌*◌, ◌≤◌, ◌<◌}
use native.Mathlib.Nat.{le_of_lt, lt_of_not-le, mul-pos, mul-le-mul, mul-le-mul_right, le_of_mul-le-mul_left}
use native.Mathlib.Omega.{arith}
use native.Mathlib.Decide.{dec_le}
use Rattle.number.proofs.Frac.{ring}

-- ---- (3 D - u)² u is at most 4 D³, and little less where u is near D
below : (u e : ℕ) → (2 * u + 3 * e) * (2 * u + 3 * e) * u + e * e * (4 * e + 3 * u) ≡ 4 * ((u + e) * (u + e) * (u + e))
below u e = simp ring (omega arith)

-- twice D is v + e
above : (v e : ℕ) → 8 * (v * v * (v + e)) + 16 * (v * v * e) + 8 * (e * e * (3 * v + e)) ≡ 8 * ((v + e) * (v + e) * (v + e))
above v e = simp ring (omega arith)

above_le : (D v e : ℕ) → v + e ≡ 2 * D → (v * v * (D + e) ≤ 4 * (D * D * D)) × (4 * (D * D * D) ≤ v * v * (D + e) + 3 * (e * e * D))
above_le D v e h =
    let a = simp ring at (subst (λ (z : ℕ). 8 * (v * v * z) + 16 * (v * v * e) + 8 * (e * e * (3 * v + e)) ≡ 8 * (z * z * z)) h (above v e)) in
    let b = simp ring at (subst (λ (z : ℕ). e * e * (3 * v + e) ≤ 3 * (e * e * z)) h (more v e)) in
    (simp ring (omega arith), simp ring (omega arith))
  where
    more : (v e : ℕ) → e * e * (3 * v + e) ≤ 3 * (e * e * (v + e))
    more v e = simp ring (omega arith)

-- u is D - e or D + e
data Beside (D u v : ℕ) : Type 0 where
  less : (e : ℕ) → D ≡ u + e → v ≡ 2 * u + 3 * e → Beside D u v
  more : (e : ℕ) → u ≡ D + e → v + e ≡ 2 * D → Beside D u v

beside : (D u v : ℕ) → u + v ≡ 3 * D → Beside D u v
beside D u v h = go (dec_le u D)
  where
    back : (u D : ℕ) → u ≤ D → D ≡ u + (D - u)
    back u D k = omega arith

    low : (D u v : ℕ) → u + v ≡ 3 * D → u ≤ D → v ≡ 2 * u + 3 * (D - u)
    low D u v h k = omega arith

    high : (D u v : ℕ) → u + v ≡ 3 * D → D ≤ u → v + (u - D) ≡ 2 * D
    high D u v h k = omega arith

    go : Dec (u ≤ D) → Beside D u v
    go (yes k) = less (D - u) (back u D k) (low D u v h k)
    go (no k) = more (u - D) (back D u (le_of_lt (lt_of_not-le k))) (high D u v h (le_of_lt (lt_of_not-le k)))

cube : (D u v : ℕ) → u + v ≡ 3 * D → v * v * u ≤ 4 * (D * D * D)
cube D u v h = go (beside D u v h)
  where
    drop : (x y z : ℕ) → x + y ≡ z → x ≤ z
    drop x y z h = omega arith

    go : Beside D u v → v * v * u ≤ 4 * (D * D * D)
    go (less e p q) = rw (p, q) (drop _ _ _ (below u e))
    go (more e p q) = rw p (above_le D v e q).0

-- 64 D³, so that 49/16 stands for a little more than 3
near : (D u v e : ℕ) → u + v ≡ 3 * D → D ≤ u + e → u ≤ D + e → 16 * e ≤ D → 64 * (D * D * D) ≤ 16 * (v * v * u) + 49 * (e * e * D)
near D u v e h k l m = go (beside D u v h)
  where
    less_le : (D u v f : ℕ) → D ≡ u + f → v ≡ 2 * u + 3 * f → D ≤ u + e → 16 * e ≤ D → 64 * (D * D * D) ≤ 16 * (v * v * u) + 49 * (e * e * D)
    less_le D u v f p q k m =
        let fe : f ≤ e = omega arith in
        let a : f * f * (16 * (4 * f + 3 * u)) ≤ e * e * (49 * D) = mul-le-mul (mul-le-mul fe fe) (omega arith) in
        let b : 4 * (D * D * D) ≡ v * v * u + f * f * (4 * f + 3 * u) = rw (p, q) (sym (below u f)) in
        end (D * D * D) (v * v * u) (f * f) (e * e) (4 * f + 3 * u) a b
      where
        end : (d x ff ee t : ℕ) → ff * (16 * t) ≤ ee * (49 * D) → 4 * d ≡ x + ff * t → 64 * d ≤ 16 * x + 49 * (ee * D)
        end d x ff ee t a b = let c = simp ring at a in simp ring (omega arith)

    more_le : (f : ℕ) → u ≡ D + f → v + f ≡ 2 * D → 64 * (D * D * D) ≤ 16 * (v * v * u) + 49 * (e * e * D)
    more_le f p q =
        let fe : f ≤ e = omega arith in
        let a : f * f * D ≤ e * e * D = mul-le-mul_right D (mul-le-mul fe fe) in
        let b : 4 * (D * D * D) ≤ v * v * u + 3 * (f * f * D) = rw p (above_le D v f q).1 in
        end (D * D * D) (v * v * u) (f * f * D) (e * e * D) a b
      where
        end : (d x y z : ℕ) → y ≤ z → 4 * d ≤ x + 3 * y → 64 * d ≤ 16 * x + 49 * z
        end d x y z a b = omega arith

    go : Beside D u v → 64 * (D * D * D) ≤ 16 * (v * v * u) + 49 * (e * e * D)
    go (less f p q) = less_le D u v f p q k m
    go (more f p q) = more_le f p q

-- ---- the step: y' is at most y v G / (2 D), or P at least
module _ (y c D v G : ℕ) (sum : y * y * c + v ≡ 3 * D) (pos : 0 < D) where
  pub step_over : (y' : ℕ) → y' * (2 * D) ≤ v * y * G → y' * y' * c ≤ D * (G * G)
  step_over y' h =
      le_of_mul-le-mul_left {k = 4 * (D * D)} (chain (mul-le-mul_right c (mul-le-mul h h)) (mul-le-mul_right (G * G) (cube D (y * y * c) v sum))) (mul-pos (omega arith) (mul-pos pos pos))
    where
      chain : y' * (2 * D) * (y' * (2 * D)) * c ≤ v * y * G * (v * y * G) * c → v * v * (y * y * c) * (G * G) ≤ 4 * (D * D * D) * (G * G) → 4 * (D * D) * (y' * y' * c) ≤ 4 * (D * D) * (D * (G * G))
      chain a b = let p = simp ring at a in let q = simp ring at b in simp ring (omega arith)

  pub step_near : (P e q : ℕ) → v * y * G ≤ P * (2 * D) → D ≤ y * y * c + e → y * y * c ≤ D + e → 16 * e ≤ D → 49 * (e * e) ≤ 64 * (D * q) → D * (G * G) ≤ P * P * c + q * (G * G)
  step_near P e q h k l m n =
      le_of_mul-le-mul_left {k = 64 * (D * D)} (chain (mul-le-mul_right c (mul-le-mul h h)) (mul-le-mul_right (G * G) (near D (y * y * c) v e sum k l m)) (mul-le-mul_right (D * (G * G)) n)) (mul-pos (omega arith) (mul-pos pos pos))
    where
      chain : v * y * G * (v * y * G) * c ≤ P * (2 * D) * (P * (2 * D)) * c → 64 * (D * D * D) * (G * G) ≤ (16 * (v * v * (y * y * c)) + 49 * (e * e * D)) * (G * G) → 49 * (e * e) * (D * (G * G)) ≤ 64 * (D * q) * (D * (G * G)) → 64 * (D * D) * (D * (G * G)) ≤ 64 * (D * D) * (P * P * c + q * (G * G))
      chain a b d = let p = simp ring at a in let q = simp ring at b in let r = simp ring at d in simp ring (omega arith)
