-- `logarithm::signed` meets its contract. Assumes nothing.
use mathlib.Core.Path.{◌≡◌, sym, ap, ◌∙◌, subst}
use Prim.Native.Nat.{ℕ, ◌+◌, ◌-◌, ◌*◌, ◌/◌, ◌%◌, ◌^◌, ◌≤◌, ◌<◌}
use native.Mathlib.Omega.{arith}
use lib.Count.{count_leading_zeros}
use Rattle.std.specs.Int.{from_bool}
use Rattle.logarithm.specs.Logarithm.{core, join, signed}
use Rattle.logarithm.proofs.Ranges.{three, moved_lt, shifted, moved_few, moved_five, part_small}
use Rattle.logarithm.proofs.signed.Goals as goal

-- the number moved up and the shift, as the program has them

move : (n l : ℕ) → n < 2 ^ 61 → l ≡ count_leading_zeros 64 n → (n * 2 ^ (l - 3)) % 2 ^ 64 ≡ n * 2 ^ (count_leading_zeros 64 n - 3)
move n l h e = ap (λ (x : ℕ). (n * 2 ^ (x - 3)) % 2 ^ 64) e ∙ shifted n h

-- what `core` asks, of any number m and shift that are these
asked : (n d l m : ℕ) → 5 * 2 ^ 62 ≤ 3 * d → 5 * d ≤ 14 * 2 ^ 62 → 5 * n ≤ d → n < 2 ^ 61 → l ≤ 64 → m ≡ n * 2 ^ (l - 3) → n * 2 ^ (l - 3) < 2 ^ 61
    → (5 * 2 ^ 62 ≤ 3 * d) × (5 * d ≤ 14 * 2 ^ 62) × (10 * m ≤ 3 * d) × (5 * m ≤ d * 2 ^ (l - 3)) × (l - 3 < 64)
asked n d l m a b f s e p q = (a, b, subst (λ (x : ℕ). 10 * x ≤ 3 * d) (sym p) (moved_few (n * 2 ^ (l - 3)) d q a), subst (λ (x : ℕ). 5 * x ≤ d * 2 ^ (l - 3)) (sym p) (moved_five n d (2 ^ (l - 3)) f), less l e)
  where
    less : (l : ℕ) → l ≤ 64 → l - 3 < 64
    less l h = omega arith

pub overflow_sub-sh : goal.overflow_sub-sh
overflow_sub-sh c = subst (λ (x : ℕ). 3 ≤ x) (sym c.leading_zeros-sh.ensures.value) (three c.args.n c.requires.4)

pub core-r-requires : goal.core-r-requires
core-r-requires c =
    let a = c.args in
    let p = c.requires in
    let l = c.leading_zeros-sh.result in
    let e = c.leading_zeros-sh.ensures.value in
    asked a.n a.d l ((a.n * 2 ^ (l - 3)) % 2 ^ 64) p.1 p.2 p.3 p.4 c.leading_zeros-sh.ensures.small
    (move a.n l p.4 e ∙ ap (λ (x : ℕ). a.n * 2 ^ (x - 3)) (sym e))
    (subst (λ (x : ℕ). a.n * 2 ^ (x - 3) < 2 ^ 61) (sym e) (moved_lt a.n p.4))

pub join-requires : goal.join-requires
join-requires c =
    let a = c.args in
    let p = c.requires in
    let l = c.leading_zeros-sh.result in
    let e = c.leading_zeros-sh.ensures.value in
    let k = asked a.n a.d l ((a.n * 2 ^ (l - 3)) % 2 ^ 64) p.1 p.2 p.3 p.4 c.leading_zeros-sh.ensures.small (move a.n l p.4 e ∙ ap (λ (x : ℕ). a.n * 2 ^ (x - 3)) (sym e)) (subst (λ (x : ℕ). a.n * 2 ^ (x - 3) < 2 ^ 61) (sym e) (moved_lt a.n p.4)) in
    (p.0, k.4, subst (λ (x : ℕ). x / 2 ^ (l - 3 + 8) ≤ 2 ^ 53) (sym c.core-r.ensures) (part_small ((a.n * 2 ^ (l - 3)) % 2 ^ 64) a.d (l - 3) k.0 k.1 k.2 k.3))

pub returns : goal.returns
unfolding signed
returns c =
    let a = c.args in
    let p = c.requires in
    let l = c.leading_zeros-sh.result in
    let e = c.leading_zeros-sh.ensures.value in
    c.join.ensures
    ∙ ap (λ (x : ℕ). join a.k (from_bool a.negative) x (l - 3)) (c.core-r.ensures ∙ ap (λ (x : ℕ). core x a.d (l - 3)) (move a.n l p.4 e))
    ∙ ap (λ (x : ℕ). join a.k (from_bool a.negative) (core (a.n * 2 ^ (count_leading_zeros 64 a.n - 3)) a.d (x - 3)) (x - 3)) e
