-- The three numbers in closed form: lists counted by their first order, then order by order. Assumes nothing.
use Prim.Native.Nat.{ℕ, zero, suc, ◌+◌, ◌*◌, ◌-◌, ◌^◌, ◌≤◌, ◌<◌}
use native.Mathlib.Nat.{pow-succ', pow-le-pow_left, pow-le-pow_right, le_trans}
use lib.Dec.{lit<}
use native.Mathlib.Omega.{arith}
use mathlib.Core.Path.{◌≡◌, refl, sym, ap, ◌∙◌}
use mathlib.Core.Bool.{Bool, true, false, ◌||◌}
use mathlib.Core.List.{◌∷◌}
use Rattle.number.specs.Ans.{Ans, held, refused, ◌>>=◌, demand}
use Rattle.limits.specs.Limits.{count_within}
use Rattle.mie_parameters.proofs.Laws.{count_low}
use Rattle.saftvrqmie_parameters.specs.Parameters.{pair_orders, order_walk}
use Rattle.order_counts.specs.Counts.{ticked, how_many, passes, meets, falling, order_counts}
use Rattle.order_counts.proofs.Tally.{tally, tally_next, tally_same, tally_all, tally_none}
use Rattle.order_counts.proofs.Walked.{scan, fall, walk_0, walk_1, walk_2, walk_3}

-- a test of the walk, by the first order
split : (t : Ans Bool → Bool) (n : ℕ) → falling t (suc n) ≡ tally n (λ l. t (fall false false l)) + (tally n (λ l. t (scan 1 l true)) + (tally n (λ l. t (scan 2 l true)) + tally n (λ _. t (refused 4))))
unfolding falling tally
split t n =
    let e0 = tally_same n (λ l. t (order_walk (suc n) (0 ∷ l))) (λ l. t (fall false false l)) (λ l e. ap t (walk_0 n l e)) in
    let e1 = tally_same n (λ l. t (order_walk (suc n) (1 ∷ l))) (λ l. t (scan 1 l true)) (λ l e. ap t (walk_1 n l e)) in
    let e2 = tally_same n (λ l. t (order_walk (suc n) (2 ∷ l))) (λ l. t (scan 2 l true)) (λ l e. ap t (walk_2 n l e)) in
    let e3 = tally_same n (λ l. t (order_walk (suc n) (3 ∷ l))) (λ _. t (refused 4)) (λ l e. ap t (walk_3 n l e)) in
    tally_next n (λ l. t (order_walk (suc n) l)) ∙ rw (e0, e1, e2, e3)

-- one order more in a row, and after a 0
abbrev row : (Ans Bool → Bool) → ℕ → ℕ → ℕ
row t a n = tally n (λ l. t (scan a l true))

abbrev rest : (Ans Bool → Bool) → ℕ → ℕ → ℕ
rest t k n = tally n (λ _. t (refused k))

abbrev after : (Ans Bool → Bool) → Bool → Bool → ℕ → ℕ
after t a b n = tally n (λ l. t (fall a b l))

row_1 : (t : Ans Bool → Bool) (n : ℕ) → row t 1 (suc n) ≡ row t 1 n + (row t 1 n + (rest t 5 n + rest t 4 n))
unfolding scan pair_orders demand ◌>>=◌
row_1 t n = tally_next n (λ l. t (scan 1 l true))

row_2 : (t : Ans Bool → Bool) (n : ℕ) → row t 2 (suc n) ≡ row t 2 n + (rest t 5 n + (row t 2 n + rest t 4 n))
unfolding scan pair_orders demand ◌>>=◌
row_2 t n = tally_next n (λ l. t (scan 2 l true))

after_next : (t : Ans Bool → Bool) (a b : Bool) (n : ℕ) → after t a b (suc n) ≡ after t (a || false) (b || false) n + (after t (a || true) (b || false) n + (after t (a || false) (b || true) n + rest t 4 n))
unfolding fall demand ◌>>=◌
after_next t a b n = tally_next n (λ l. t (fall a b l))

-- ---- passing: 4·2^n − 1 of n + 1 orders

row_1_passing : (n : ℕ) → row passes 1 n ≡ 2 ^ n
unfolding tally ticked how_many scan passes
row_1_passing zero = refl
row_1_passing (suc n) = let h = row_1 passes n in omega (arith, h, row_1_passing n, tally_none n, tally_all n, pow-succ' 2 n, pow-succ' 4 n)

row_2_passing : (n : ℕ) → row passes 2 n ≡ 2 ^ n
unfolding tally ticked how_many scan passes
row_2_passing zero = refl
row_2_passing (suc n) = let h = row_2 passes n in omega (arith, h, row_2_passing n, tally_none n, tally_all n, pow-succ' 2 n, pow-succ' 4 n)

both_passing : (n : ℕ) → after passes true true n ≡ 0
unfolding tally ticked how_many fall demand ◌>>=◌ passes
both_passing zero = refl
both_passing (suc n) = let h = after_next passes true true n in omega (arith, h, both_passing n, tally_none n, tally_all n, pow-succ' 2 n, pow-succ' 3 n)

one_passing : (n : ℕ) → after passes true false n ≡ 2 ^ n
unfolding tally ticked how_many fall demand ◌>>=◌ passes
one_passing zero = refl
one_passing (suc n) = let h = after_next passes true false n in omega (arith, h, one_passing n, both_passing n, tally_none n, tally_all n, pow-succ' 2 n, pow-succ' 3 n)

two_passing : (n : ℕ) → after passes false true n ≡ 2 ^ n
unfolding tally ticked how_many fall demand ◌>>=◌ passes
two_passing zero = refl
two_passing (suc n) = let h = after_next passes false true n in omega (arith, h, two_passing n, both_passing n, tally_none n, tally_all n, pow-succ' 2 n, pow-succ' 3 n)

none_passing : (n : ℕ) → after passes false false n + 1 ≡ 2 * 2 ^ n
unfolding tally ticked how_many fall demand ◌>>=◌ passes
none_passing zero = refl
none_passing (suc n) = let h = after_next passes false false n in omega (arith, h, none_passing n, one_passing n, two_passing n, tally_none n, tally_all n, pow-succ' 2 n, pow-succ' 3 n)

pub passing : (n : ℕ) → falling passes (suc n) + 1 ≡ 4 * 2 ^ n
unfolding passes
passing n = let h = split passes n in omega (arith, h, none_passing n, row_1_passing n, row_2_passing n, tally_none n)

-- ---- meeting 4: 3·4^n − 3^n − 2^n of n + 1 orders

row_1_four : (n : ℕ) → 2 * row (meets 4) 1 n + 2 ^ n ≡ 4 ^ n
unfolding tally ticked how_many scan meets
row_1_four zero = refl
row_1_four (suc n) = let h = row_1 (meets 4) n in omega (arith, h, row_1_four n, tally_none n, tally_all n, pow-succ' 2 n, pow-succ' 4 n)

row_2_four : (n : ℕ) → 2 * row (meets 4) 2 n + 2 ^ n ≡ 4 ^ n
unfolding tally ticked how_many scan meets
row_2_four zero = refl
row_2_four (suc n) = let h = row_2 (meets 4) n in omega (arith, h, row_2_four n, tally_none n, tally_all n, pow-succ' 2 n, pow-succ' 4 n)

after_four : (n : ℕ) (a b : Bool) → after (meets 4) a b n + 3 ^ n ≡ 4 ^ n
unfolding tally ticked how_many fall demand ◌>>=◌ meets
after_four zero true true = refl
after_four zero true false = refl
after_four zero false b = refl
after_four (suc n) a b =
    let h = after_next (meets 4) a b n in
    omega (arith, h, after_four n (a || false) (b || false), after_four n (a || true) (b || false), after_four n (a || false) (b || true), tally_all n, pow-succ' 3 n, pow-succ' 4 n)

pub meeting_4_is : (n : ℕ) → falling (meets 4) (suc n) + 3 ^ n + 2 ^ n ≡ 3 * 4 ^ n
unfolding meets
meeting_4_is n = let h = split (meets 4) n in omega (arith, h, after_four n false false, row_1_four n, row_2_four n, tally_all n)

-- ---- meeting 5: 4^n + 3^n + 1 − 3·2^n of n + 1 orders

row_1_five : (n : ℕ) → 2 * row (meets 5) 1 n + 2 ^ n ≡ 4 ^ n
unfolding tally ticked how_many scan meets
row_1_five zero = refl
row_1_five (suc n) = let h = row_1 (meets 5) n in omega (arith, h, row_1_five n, tally_none n, tally_all n, pow-succ' 2 n, pow-succ' 4 n)

row_2_five : (n : ℕ) → 2 * row (meets 5) 2 n + 2 ^ n ≡ 4 ^ n
unfolding tally ticked how_many scan meets
row_2_five zero = refl
row_2_five (suc n) = let h = row_2 (meets 5) n in omega (arith, h, row_2_five n, tally_none n, tally_all n, pow-succ' 2 n, pow-succ' 4 n)

both_five : (n : ℕ) → after (meets 5) true true n ≡ 3 ^ n
unfolding tally ticked how_many fall demand ◌>>=◌ meets
both_five zero = refl
both_five (suc n) = let h = after_next (meets 5) true true n in omega (arith, h, both_five n, tally_none n, tally_all n, pow-succ' 2 n, pow-succ' 3 n)

one_five : (n : ℕ) → after (meets 5) true false n + 2 ^ n ≡ 3 ^ n
unfolding tally ticked how_many fall demand ◌>>=◌ meets
one_five zero = refl
one_five (suc n) = let h = after_next (meets 5) true false n in omega (arith, h, one_five n, both_five n, tally_none n, tally_all n, pow-succ' 2 n, pow-succ' 3 n)

two_five : (n : ℕ) → after (meets 5) false true n + 2 ^ n ≡ 3 ^ n
unfolding tally ticked how_many fall demand ◌>>=◌ meets
two_five zero = refl
two_five (suc n) = let h = after_next (meets 5) false true n in omega (arith, h, two_five n, both_five n, tally_none n, tally_all n, pow-succ' 2 n, pow-succ' 3 n)

none_five : (n : ℕ) → after (meets 5) false false n + 2 * 2 ^ n ≡ 3 ^ n + 1
unfolding tally ticked how_many fall demand ◌>>=◌ meets
none_five zero = refl
none_five (suc n) = let h = after_next (meets 5) false false n in omega (arith, h, none_five n, one_five n, two_five n, tally_none n, tally_all n, pow-succ' 2 n, pow-succ' 3 n)

pub meeting_5_is : (n : ℕ) → falling (meets 5) (suc n) + 3 * 2 ^ n ≡ 4 ^ n + 3 ^ n + 1
unfolding meets
meeting_5_is n = let h = split (meets 5) n in omega (arith, h, none_five n, row_1_five n, row_2_five n, tally_none n)

-- each list falls in one of the three ways
pub all_fall : (n : ℕ) → falling passes (suc n) + falling (meets 4) (suc n) + falling (meets 5) (suc n) ≡ 4 ^ suc n
all_fall n = let p = passing n in let q = meeting_4_is n in let r = meeting_5_is n in omega (arith, p, q, r, pow-succ' 4 n)

-- ---- a power that stays small: at most 4^12
small : (b n : ℕ) → b ≤ 4 → n ≤ 12 → b ^ n ≤ 16_777_216
small b n p q = le_trans (pow-le-pow_left p n) (pow-le-pow_right (lit< tt) q)

pub fits : (b n : ℕ) → b ≤ 4 → n ≤ 12 → b ^ n < 2 ^ 64
fits b n p q = let h = small b n p q in omega (arith, h)

-- ---- the operation

-- what `of_powers` asks
pub fit : (n two three four : ℕ) → n ≤ 12 → two ≡ 2 ^ n → three ≡ 3 ^ n → four ≡ 4 ^ n
    → (1 ≤ two) × (3 * two ≤ four + three + 1) × (three + two ≤ 3 * four) × (two ≤ 16_777_216) × (three ≤ 16_777_216) × (four ≤ 16_777_216)
fit n two three four h a b c =
    let p = passing n in
    let q = meeting_4_is n in
    let r = meeting_5_is n in
    let x = small 2 n (omega arith) h in
    let y = small 3 n (omega arith) h in
    let z = small 4 n (omega arith) h in
    (omega (arith, p), omega (arith, r), omega (arith, q), omega (arith, x), omega (arith, y), omega (arith, z))

pub refuses_1 : (n : ℕ) → count_within n ≡ false → refused 1 ≡ order_counts n
unfolding order_counts demand ◌>>=◌
refuses_1 n p = rw p

-- the three numbers in closed form
pub counts_are : (n : ℕ) → count_within (suc n) ≡ true
    → held (record { passing = 4 * 2 ^ n - 1; meeting_4 = 3 * 4 ^ n - 3 ^ n - 2 ^ n; meeting_5 = 4 ^ n + 3 ^ n + 1 - 3 * 2 ^ n }) ≡ order_counts (suc n)
unfolding order_counts demand ◌>>=◌
counts_are n w =
    let p = passing n in
    let q = meeting_4_is n in
    let r = meeting_5_is n in
    let x : 4 * 2 ^ n - 1 ≡ falling passes (suc n) = omega (arith, p) in
    let y : 3 * 4 ^ n - 3 ^ n - 2 ^ n ≡ falling (meets 4) (suc n) = omega (arith, q) in
    let z : 4 ^ n + 3 ^ n + 1 - 3 * 2 ^ n ≡ falling (meets 5) (suc n) = omega (arith, r) in
    rw (w, x, y, z)

pub counts_held : (n two three four : ℕ) → count_within n ≡ true → two ≡ 2 ^ (n - 1) → three ≡ 3 ^ (n - 1) → four ≡ 4 ^ (n - 1)
    → held (record { passing = 4 * two - 1; meeting_4 = 3 * four - three - two; meeting_5 = four + three + 1 - 3 * two }) ≡ order_counts n
counts_held n two three four w a b c =
    let low = count_low n w in
    let d : suc (n - 1) ≡ n = omega (arith, low) in
    rw (a, b, c) (rw d at (counts_are (n - 1) (rw (sym d) at w)))
