-- The table of powers, tested by computation: at each of its places the core's polynomial is near document 01's thirty terms, coefficient by coefficient. Assumes nothing.
-- At the place j the exponent's fraction is f = (j s + (j + 1) t) / (128 (s + t)). exp's argument is f ln 2, and below zero (f - 1) ln 2 from a half on; both are tested at 63 and 64.
use mathlib.Core.Path.{◌≡◌, ◌∙◌, subst}
use mathlib.Core.Bool.{Bool, ◌&&◌}
use mathlib.Core.List.{List, [], ◌∷◌}
use Prim.Native.Nat.{ℕ, zero, suc, ◌+◌, ◌-◌, ◌*◌, ◌/◌, ◌%◌, ◌^◌, ◌<◌}
use native.Mathlib.Omega.{arith}
use lib.Dec.{T, ltb}
use lib.ListN.{length, get_or, take, drop, length-take, length-drop}
use lib.Seq.{get_or-take, get_or-drop}
use Rattle.series.specs.Sums.{factorial}
use Rattle.series.proofs.Constants.{mn, md}
use Rattle.number.proofs.Table.{every, at, unless}
use Rattle.fixed_point.proofs.Bernstein.{times, fma, front, again, once, under}
use Rattle.exponential.specs.Powers.{powers, terms}
use Rattle.exponential.proofs.Terms.{K, up, turn}

-- the denominator is 29! (128 md (s + t)) ^ 29
abbrev pub denominator : List ℕ → List ℕ
denominator l = once (128 * md) (128 * md) l

-- the thirty terms at f ln 2, and at (1 - f) ln 2: the odd ones and the even ones
abbrev pub up_l : ℕ → List ℕ
up_l j = up (once (mn * j) (mn * (j + 1))) denominator fma 29 1 (1 ∷ []) (K ∷ [])

abbrev pub turn_l : ℕ → List ℕ × List ℕ
turn_l j = turn (once (mn * (128 - j)) (mn * (127 - j))) denominator fma 29 1 (1 ∷ []) (K ∷ []) (0 ∷ [])

-- the core's polynomial in t / (s + t), of degree 29, and 650 units more of e times it
abbrev pub core_l : List ℕ
core_l = again 24 (once 1 1) (front (once 0 1) (once 1 1) terms (once 0 1 (1 ∷ [])) (2 ^ 71 ∷ []))

abbrev pub units_l : List ℕ
units_l = again 29 (once 1 1) (650 * 2 ^ 71 ∷ [])

abbrev pub scale : ℕ
scale = K * (128 * md) ^ 29

-- e core ≤ 2 ^ 63 exp ≤ e core + 650
abbrev pub near0 : ℕ → List ℕ → Bool
near0 e us = under 0 0 (e * scale) (2 ^ 134) 0 0 us us core_l && under (2 ^ 134) 0 0 0 0 scale us us (fma e core_l units_l)

-- the same for 2 exp, its odd terms having a minus
abbrev pub near1 : ℕ → List ℕ × List ℕ → Bool
near1 e (vs, us) = under 0 (2 ^ 135) (e * scale) (2 ^ 135) 0 0 us vs core_l && under (2 ^ 135) 0 0 0 (2 ^ 135) scale us vs (fma e core_l units_l)

abbrev pub place : ℕ → ℕ → Bool
place j e = unless (ltb 64 j) (near0 e (up_l j)) && unless (ltb j 63) (near1 e (turn_l j))

-- ---- the test, in eight parts of 16 places
abbrev part : ℕ → List ℕ
part c = take 16 (drop (c * 16) powers)

abbrev test : ℕ → Bool
test c = every (λ (k e : ℕ). place (c * 16 + k) e) 0 (part c)

test0 : T (test 0)
unfolding times fma front again under up turn factorial
test0 = tt

test1 : T (test 1)
unfolding times fma front again under up turn factorial
test1 = tt

test2 : T (test 2)
unfolding times fma front again under up turn factorial
test2 = tt

test3 : T (test 3)
unfolding times fma front again under up turn factorial
test3 = tt

test4 : T (test 4)
unfolding times fma front again under up turn factorial
test4 = tt

test5 : T (test 5)
unfolding times fma front again under up turn factorial
test5 = tt

test6 : T (test 6)
unfolding times fma front again under up turn factorial
test6 = tt

test7 : T (test 7)
unfolding times fma front again under up turn factorial
test7 = tt

tests : (c : ℕ) → c < 8 → T (test c)
tests zero h = test0
tests (suc zero) h = test1
tests (suc (suc zero)) h = test2
tests (suc (suc (suc zero))) h = test3
tests (suc (suc (suc (suc zero)))) h = test4
tests (suc (suc (suc (suc (suc zero))))) h = test5
tests (suc (suc (suc (suc (suc (suc zero)))))) h = test6
tests (suc (suc (suc (suc (suc (suc (suc zero))))))) h = test7
tests (suc (suc (suc (suc (suc (suc (suc (suc c)))))))) h = absurd (none c h)
  where
    none : (c : ℕ) → suc (suc (suc (suc (suc (suc (suc (suc c))))))) < 8 → ⊥
    none c h = omega arith

pub at_place : (j : ℕ) → j < 128 → T (place j (get_or powers j 0))
at_place j h =
    let c = j / 16 in
    let k = j % 16 in
    subst (λ (i : ℕ). T (place i (get_or powers i 0))) (whole j)
    (subst (λ (e : ℕ). T (place (c * 16 + k) e)) (get_or-take 16 (drop (c * 16) powers) k 0 (below j) ∙ get_or-drop (c * 16) powers k 0)
    (at (λ (k e : ℕ). place (c * 16 + k) e) (part c) (tests c (quarter j h)) k (inside j h)))
  where
    whole : (j : ℕ) → j / 16 * 16 + j % 16 ≡ j
    whole j = omega arith

    below : (j : ℕ) → j % 16 < 16
    below j = omega arith

    quarter : (j : ℕ) → j < 128 → j / 16 < 8
    quarter j h = omega arith

    inside : (j : ℕ) → j < 128 → j % 16 < length (part (j / 16))
    inside j h = simp (length-take, length-drop) (omega arith)
