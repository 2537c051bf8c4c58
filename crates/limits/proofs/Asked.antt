-- What `pair_asked` held, or refused, tells of its two tests. Assumes nothing.
use Rattle.std.proofs.Common.{◌≡◌, ℕ, ◌<◌, ◌≤◌, Bool, true, false, ◌&&◌, ltb, leb, refl, sym, subst, ltb-true, leb-true, arith}
use Rattle.std.specs.Prelude.{Float, Result, Ok, Err}
use Rattle.number.specs.declared.refusal.Refusal.{Refusal}
use Rattle.number.specs.Ans.{Ans, held, refused, ◌>>=◌, demand}
use Rattle.number.specs.Answer.{answer_by, code}
use Rattle.number.proofs.Walk.{via}
use Rattle.sizes.specs.Sizes.{side}
use Rattle.limits.specs.Limits.{count_within, index_within, temperature_within, pair_asked}

no_refusal : {S : Type 0} {x : S} {k : ℕ} → held x ≡ refused k → ⊥
no_refusal p = let z : ◌≡◌ {A = ℕ} 0 1 = cc in omega arith

same_number : {S : Type 0} {m k : ℕ} → ◌≡◌ {A = Ans S} (refused m) (refused k) → m ≡ k
same_number p = cc

all_three : (a b c : Bool) → (a && b && c) ≡ true → (a ≡ true) × (b ≡ true) × (c ≡ true)
all_three true true true p = (refl, refl, refl)
all_three true true false p = (refl, refl, p)
all_three true false c p = (refl, p, cc)
all_three false b c p = (p, cc, cc)

both_held : (a b : Bool) → (demand 1 a >>= λ _. demand 2 b) ≡ held true → (a ≡ true) × (b ≡ true)
unfolding demand ◌>>=◌
both_held true true e = (refl, refl)
both_held true false e = absurd (no_refusal (sym e))
both_held false b e = absurd (no_refusal (sym e))

one_refused : (a b : Bool) (P : ℕ → Type 0) → (a ≡ false → P 1) → (a ≡ true → b ≡ false → P 2) → (k : ℕ) → (demand 1 a >>= λ _. demand 2 b) ≡ refused k → P k
unfolding demand ◌>>=◌
one_refused true true P f g k e = absurd (no_refusal e)
one_refused true false P f g k e = subst P (same_number e) (g refl refl)
one_refused false b P f g k e = subst P (same_number e) (f refl)

-- indices that were let pass lie on a sheet
pub on_sheet : (n i j : ℕ) → index_within n i j ≡ true → (i < side) × (j < side)
unfolding index_within count_within
on_sheet n i j p =
    let q = all_three (leb 1 n && leb n side) (ltb i n) (ltb j n) p in
    let h : n ≤ side = leb-true n side (second (leb 1 n) (leb n side) q.0) in
    let row : i < n = ltb-true i n q.1 in
    let column : j < n = ltb-true j n q.2 in
    (omega arith, omega arith)
  where
    second : (a b : Bool) → (a && b) ≡ true → b ≡ true
    second true b p = p
    second false b p = cc

module _ (n i j : ℕ) (t : Float) (a : Result (Unit {0}) Refusal) (h : answer_by (λ _. true) a ≡ pair_asked n i j t) where
  pub asked_held : a ≡ Ok tt → (index_within n i j ≡ true) × (temperature_within t ≡ true)
  unfolding pair_asked
  asked_held e = both_held _ _ (via (answer_by (λ _. true)) h e)

  pub asked_refused : (r : Refusal) → a ≡ Err r → (P : ℕ → Type 0) → (index_within n i j ≡ false → P 1) → (index_within n i j ≡ true → temperature_within t ≡ false → P 2) → P (code r)
  unfolding pair_asked
  asked_refused r e P f g = one_refused _ _ P f g (code r) (via (answer_by (λ _. true)) h e)
