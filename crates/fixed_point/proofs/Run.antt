-- Horner's rule along a list, from its last entry on. Assumes nothing.
use mathlib.Core.Path.{◌≡◌, ap, ◌∙◌, subst}
use mathlib.Core.List.{List, [], ◌∷◌, ◌++◌}
use Prim.Native.Nat.{ℕ, zero, suc, ◌+◌, ◌*◌, ◌/◌, ◌^◌, ◌<◌, ◌≤◌}
use native.Mathlib.Nat.{le_refl, le_trans, le_of_eq, le_of_lt, lt_of_le_of_lt, add-le-add, mul_comm, mul-le-mul_left, div-le_of_le-mul}
use native.Mathlib.Omega.{arith}
use lib.Dec.{T, leb, leb→le, lit<, lit≤}
use lib.ListN.{length, drop}
use lib.Ieee.Fits.{and_l, and_r}
use Rattle.std.proofs.Math.Seq.{drop-append_seam}
use Rattle.std.proofs.lemmas.List.{append_assoc}
use Rattle.fixed_point.specs.Horner.{horner}
use Rattle.fixed_point.proofs.Horner.{smallb, half_of}

pub next_read : (cs front rest read : List ℕ) (x : ℕ) → cs ≡ front ++ read → front ≡ rest ++ x ∷ [] → cs ≡ rest ++ (x ∷ read)
next_read cs front rest read x h e = h ∙ ap (λ (l : List ℕ). l ++ read) e ∙ append_assoc rest (x ∷ []) read

pub worked : (read : List ℕ) (x s p q : ℕ) → s ≡ horner read q → p ≡ s * q / 2 ^ 64 → x + p ≡ horner (x ∷ read) q
unfolding horner
worked read x s p q h e = ap (λ (y : ℕ). x + y) (e ∙ ap (λ (y : ℕ). y * q / 2 ^ 64) h)

pub last_fits : (cs rest read : List ℕ) (q : ℕ) → cs ≡ rest ++ read → ((i : ℕ) → horner (drop i cs) q < 2 ^ 64) → horner read q < 2 ^ 64
last_fits cs rest read q h f = subst (λ (l : List ℕ). horner l q < 2 ^ 64) (ap (drop (length rest)) h ∙ drop-append_seam rest read) (f (length rest))

-- ---- what is worked fits into 64 bits: for coefficients of at most 2 ^ 63 and a small q
pub small_fit : (cs : List ℕ) (q : ℕ) → q ≤ 2 ^ 61 → T (smallb cs) → (i : ℕ) → horner (drop i cs) q < 2 ^ 64
unfolding horner
small_fit [] q h t zero = lit< tt
small_fit [] q h t (suc i) = lit< tt
small_fit (c ∷ cs) q h t zero = sum c (horner cs q * q / 2 ^ 64) q (leb→le c (2 ^ 63) (and_l (leb c (2 ^ 63)) (smallb cs) t)) (half_of (horner cs q) q (le_of_lt (small_fit cs q h (and_r (leb c (2 ^ 63)) (smallb cs) t) zero))) h
  where
    sum : (c f q : ℕ) → c ≤ 2 ^ 63 → f ≤ q → q ≤ 2 ^ 61 → c + f < 2 ^ 64
    sum c f q a b d = omega arith
small_fit (c ∷ cs) q h t (suc i) = small_fit cs q h (and_r (leb c (2 ^ 63)) (smallb cs) t) i

-- ---- and for any q, where the coefficients' sum fits
abbrev pub total : List ℕ → ℕ
total [] = 0
total (c ∷ cs) = c + total cs

pub under_total : (cs : List ℕ) (q : ℕ) → q ≤ 2 ^ 64 → horner cs q ≤ total cs
unfolding horner
under_total [] q h = lit≤ tt
under_total (c ∷ cs) q h = add-le-add (le_refl c) (le_trans (down (horner cs q) q (2 ^ 64) (lit< tt) h) (under_total cs q h))
  where
    down : (x q W : ℕ) → 0 < W → q ≤ W → x * q / W ≤ x
    down x q W p k = div-le_of_le-mul W (le_trans (mul-le-mul_left x k) (le_of_eq (mul_comm x W)))

pub total_fit : (cs : List ℕ) (q m : ℕ) → q ≤ 2 ^ 64 → total cs ≤ m → m < 2 ^ 64 → (i : ℕ) → horner (drop i cs) q < 2 ^ 64
unfolding horner
total_fit [] q m h t u zero = lit< tt
total_fit [] q m h t u (suc i) = lit< tt
total_fit (c ∷ cs) q m h t u zero = lt_of_le_of_lt (le_trans (under_total (c ∷ cs) q h) t) u
total_fit (c ∷ cs) q m h t u (suc i) = total_fit cs q m h (le_trans (more c (total cs)) t) u i
  where
    more : (c t : ℕ) → t ≤ c + t
    more c t = omega arith
