-- Laws of answers that `?` takes apart, and of the count's limits. Assumes nothing.
use Rattle.std.proofs.lemmas.Bool.{and_parts}
use Rattle.std.proofs.Common.{◌≡◌, ℕ, ◌+◌, ◌*◌, ◌<◌, ◌≤◌, Bool, true, false, ◌&&◌, ltb, leb, refl, ap, ◌∙◌, mul-le-mul, ltb-true, leb-true}
use Rattle.std.specs.Prelude.{Err, Ok, Result, List, Float}
use Rattle.number.specs.declared.refusal.Refusal.{Refusal}
use Rattle.number.specs.Ans.{Ans, held, refused, ◌>>=◌}
use Rattle.sizes.specs.Sizes.{side, sheet, cell}
use Rattle.number.specs.Walk.{walk}
use Rattle.number.proofs.Walk.{via, walk_next, walk_stop}
use Rattle.limits.specs.Limits.{count_within, index_within}
use Rattle.number.specs.Answer.{answer, code}
use Rattle.mie_parameters.specs.Answer.{outcome}
use Rattle.mie_parameters.specs.Sheets.{store_row, sheets_turn}

-- a turn of a walk whose answer is taken apart by `?`
module _ {S : Type 0} (f : ℕ → S → Ans S) (s : S) where
  pub goes_on : (j : ℕ) (x y : S) (a : Result (Unit {0}) Refusal) → held x ≡ walk j f s → outcome a y ≡ f j x → a ≡ (Ok tt) → held y ≡ walk (j + 1) f s
  goes_on j x y a p q e = walk_next f s j x y p (via (λ b. outcome b y) q e)

  pub stops : (n j : ℕ) (x y z : S) (a : Result (Unit {0}) Refusal) (m : Refusal) → j < n → held x ≡ walk j f s → outcome a y ≡ f j x → a ≡ Err m → outcome a z ≡ walk n f s
  stops n j x y z a m h p q e = ap (λ b. outcome b z) e ∙ walk_stop f s n j (code m) x h p (via (λ b. outcome b y) q e)

-- a turn of the sheets
module _ {P : Type 0} (row : P → List Float) (n : ℕ) (pair : ℕ → ℕ → Ans P) (i j : ℕ) (x : List Float) (r : Result P Refusal) where
  pub pair_held : (p : P) (q y : List Float) → answer r ≡ pair i j → r ≡ Ok p → q ≡ row p → y ≡ store_row x (cell i j) q → sheets_turn row n pair i j x ≡ held y
  unfolding sheets_turn ◌>>=◌
  pair_held p q y e h g t = rw (via answer e h, t, g)

  pub pair_outside : (m : Refusal) → answer r ≡ pair i j → r ≡ Err m → sheets_turn row n pair i j x ≡ refused (code m)
  unfolding sheets_turn ◌>>=◌
  pair_outside m e h = rw (via answer e h)

pub count_low : (n : ℕ) → count_within n ≡ true → 1 ≤ n
unfolding count_within
count_low n p = leb-true _ _ (and_parts _ _ p).0

pub count_high : (n : ℕ) → count_within n ≡ true → n ≤ side
unfolding count_within
count_high n p = leb-true n side (and_parts (leb 1 n) (leb n side) p).1

pub count_square : (n : ℕ) → count_within n ≡ true → n * n ≤ sheet
count_square n p = mul-le-mul (count_high n p) (count_high n p)

-- what a call ensures of an answer and of the state beside it, at the case that it gave
pub held_at : {S : Type 0} (a : Result (Unit {0}) Refusal) (s : S) (w : Ans S) → outcome a s ≡ w → a ≡ (Ok tt) → w ≡ held s
held_at a s w p e = via (λ b. outcome b s) p e

pub refused_at : {S : Type 0} (a : Result (Unit {0}) Refusal) (s : S) (w : Ans S) (k : Refusal) → outcome a s ≡ w → a ≡ Err k → w ≡ refused (code k)
refused_at a s w k p e = via (λ b. outcome b s) p e

-- an index that the first test let pass lies on a sheet
pub record Inside (n i j : ℕ) : Type 0 where
  pub high : n ≤ side
  pub row : i < n
  pub column : j < n

pub inside : (n i j : ℕ) → index_within n i j ≡ true → Inside n i j
unfolding index_within
inside n i j p =
    let q = (and_parts (count_within n && ltb i n) (ltb j n) p).0 in
    record {
      high = count_high n (and_parts (count_within n) (ltb i n) q).0;
      row = ltb-true i n (and_parts (count_within n) (ltb i n) q).1;
      column = ltb-true j n (and_parts (count_within n && ltb i n) (ltb j n) p).1;
    }
