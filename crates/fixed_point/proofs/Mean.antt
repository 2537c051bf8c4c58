-- A polynomial with coefficients that are natural numbers rises with its argument, and its chord lies between its slopes at the two ends. Assumes nothing.
use mathlib.Core.Path.{◌≡◌, sym, ◌∙◌}
use mathlib.Core.List.{List, [], ◌∷◌}
use Prim.Native.Nat.{ℕ, ◌+◌, ◌*◌, ◌^◌, ◌≤◌}
use native.Mathlib.Nat.{le_refl, le_trans, le_of_eq, add-le-add, mul-add, add-mul, mul_left_comm, add_comm, mul-zero, add-zero, mul-le-mul, mul-le-mul_left}
use native.Mathlib.Omega.{arith}
use lib.ListN.{length}
use Rattle.fixed_point.proofs.Polynomial.{hom}
use Rattle.fixed_point.proofs.Horner.{ring}

-- the derivative by n
unfoldable pub slope : List ℕ → ℕ → ℕ → ℕ
slope [] n d = 0
slope (a ∷ ps) n d = hom ps n d + n * slope ps n d

pub rises : (ps : List ℕ) (n n' d : ℕ) → n ≤ n' → hom ps n d ≤ hom ps n' d
unfolding hom
rises [] n n' d h = le_refl 0
rises (a ∷ ps) n n' d h = add-le-add (le_refl (a * d ^ length ps)) (mul-le-mul h (rises ps n n' d h))

pub slope_rises : (ps : List ℕ) (n n' d : ℕ) → n ≤ n' → slope ps n d ≤ slope ps n' d
unfolding slope
slope_rises [] n n' d h = le_refl 0
slope_rises (a ∷ ps) n n' d h = add-le-add (rises ps n n' d h) (mul-le-mul h (slope_rises ps n n' d h))

up_step : (A n e H H' D' : ℕ) → H' ≤ H + e * D' → A + (n + e) * H' ≤ A + n * H + e * (H' + (n + e) * D')
up_step A n e H H' D' h = lin A (n * H') (e * H') (n * H) (n * (e * D')) (e * (n * D')) (e * (e * D')) ((n + e) * H') (e * (H' + (n + e) * D')) (add-mul n e H') (x e H' n D') (le_trans (mul-le-mul_left n h) (le_of_eq (mul-add n H (e * D')))) (mul_left_comm n e D')
  where
    x : (e H n D : ℕ) → e * (H + (n + e) * D) ≡ e * H + (e * (n * D) + e * (e * D))
    x e H n D = simp ring

    lin : (A nH' eH' nH neD enD eeD s t : ℕ) → s ≡ nH' + eH' → t ≡ eH' + (enD + eeD) → nH' ≤ nH + neD → neD ≡ enD → A + s ≤ A + nH + t
    lin A nH' eH' nH neD enD eeD s t p q h k = omega arith

pub chord_up : (ps : List ℕ) (n e d : ℕ) → hom ps (n + e) d ≤ hom ps n d + e * slope ps (n + e) d
unfolding hom slope
chord_up [] n e d = le_of_eq (sym (add-zero (e * 0) ∙ mul-zero e) ∙ add_comm (e * 0) 0)
chord_up (a ∷ ps) n e d = up_step (a * d ^ length ps) n e (hom ps n d) (hom ps (n + e) d) (slope ps (n + e) d) (chord_up ps n e d)

down_step : (A n e H H' D : ℕ) → H + e * D ≤ H' → A + n * H + e * (H + n * D) ≤ A + (n + e) * H'
down_step A n e H H' D h = lin A (n * H) (e * H) (n * (e * D)) (e * (n * D)) (n * H') (e * H') (e * (H + n * D)) ((n + e) * H') (mul-add e H (n * D)) (add-mul n e H') (le_trans (le_of_eq (sym (mul-add n H (e * D)))) (mul-le-mul_left n h)) (mul_left_comm n e D) (mul-le-mul_left e (less H (e * D) H' h))
  where
    less : (x y z : ℕ) → x + y ≤ z → x ≤ z
    less x y z h = omega arith

    lin : (A nH eH neD enD nH' eH' s t : ℕ) → s ≡ eH + enD → t ≡ nH' + eH' → nH + neD ≤ nH' → neD ≡ enD → eH ≤ eH' → A + nH + s ≤ A + t
    lin A nH eH neD enD nH' eH' s t p q h k l = omega arith

pub chord_down : (ps : List ℕ) (n e d : ℕ) → hom ps n d + e * slope ps n d ≤ hom ps (n + e) d
unfolding hom slope
chord_down [] n e d = le_of_eq (add_comm 0 (e * 0) ∙ add-zero (e * 0) ∙ mul-zero e)
chord_down (a ∷ ps) n e d = down_step (a * d ^ length ps) n e (hom ps n d) (hom ps (n + e) d) (slope ps n d) (chord_down ps n e d)
