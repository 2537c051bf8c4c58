-- `logarithm::moved_1p` meets its contract. Assumes nothing.
use mathlib.Core.Path.{◌≡◌, sym, ap, ap₂, ◌∙◌, subst}
use Prim.Native.Nat.{ℕ, ◌+◌, ◌-◌, ◌*◌, ◌%◌, ◌^◌, ◌≤◌, ◌<◌}
use native.Mathlib.Nat.{lt_of_lt_of_le}
use native.Mathlib.Omega.{arith}
use lib.Dec.{lit<, lit≤}
use lib.Count.{count_leading_zeros}
use Rattle.fixed_point.proofs.Packed.{top_lo, shifted}
use Rattle.logarithm.specs.Logarithm.{reduced, moved1p}
use Rattle.logarithm.proofs.Ranges.{zeros_from, fours}
use Rattle.logarithm.proofs.moved_1p.Goals as goal

-- the number moved up, as the program has it

move : (y l : ℕ) → l ≡ count_leading_zeros 64 y → 0 < y → y < 2 ^ 55 → (y * 2 ^ l) % 2 ^ 64 ≡ y * 2 ^ count_leading_zeros 64 y
move y l e p h = ap (λ (x : ℕ). (y * 2 ^ x) % 2 ^ 64) e ∙ shifted y p (lt_of_lt_of_le h (lit≤ tt))

nine : (y : ℕ) → y < 2 ^ 55 → 2 ≤ count_leading_zeros 64 y
nine y h = go (count_leading_zeros 64 y) (zeros_from y 55 (lit< tt) h)
  where
    go : (l : ℕ) → 64 ≤ l + 55 → 2 ≤ l
    go l h = omega arith

pub reduced-requires : goal.reduced-requires
reduced-requires c =
    let a = c.args in
    let p = c.requires in
    let e = sym (move a.y c.leading_zeros-l.result c.leading_zeros-l.ensures.value p.2 p.3) in (
      omega arith,
      subst (λ (x : ℕ). 2 ^ 63 ≤ x) e (top_lo a.y p.2 (lt_of_lt_of_le p.3 (lit≤ tt))),
      subst (λ (x : ℕ). x % 4 ≡ 0) e (fours a.y (count_leading_zeros 64 a.y) (nine a.y p.3)),
    )

pub returns : goal.returns
unfolding moved1p
returns c =
    let a = c.args in
    let p = c.requires in
    let e = c.leading_zeros-l.ensures.value in
    c.reduced.ensures ∙ ap₂ (λ (l x : ℕ). reduced (a.f + 11 - l) x) e (move a.y c.leading_zeros-l.result e p.2 p.3)
