-- Sets taken apart at the boundary, test by test, over plain values. Assumes nothing.
use Prim.Native.Nat.{ℕ, ◌*◌, ◌≤◌}
use Rattle.std.proofs.lemmas.Bool.{and_parts}
use Rattle.std.specs.Prelude.{Err, Ok, Result}
use Rattle.number.specs.declared.refusal.Refusal.{Refusal}
use lib.Dec.{eqb, leb}
use lib.Ieee.{Float}
use lib.ListN.{length}
use mathlib.Core.List.{List}
use mathlib.Core.Path.{◌≡◌, refl, sym, ap, ◌∙◌}
use mathlib.Core.Bool.{Bool, true, false, ◌&&◌}
use borrow.Author.Tests.{eqb-true, leb-true}
use Rattle.number.specs.Ans.{Ans, held, refused, ◌>>=◌, demand}
use Rattle.sizes.specs.Sizes.{side, sheet}
use Rattle.limits.specs.Limits.{count_within}
use Rattle.mie_parameters.specs.Answer.{outcome, verdict}
use Rattle.number.specs.Answer.{code}
use Rattle.saftvrqmie_parameters.specs.declared.OrderRecord.{OrderRecord}
use Rattle.saftvrqmie_parameters.specs.declared.SaftVRQMiePars.{SaftVRQMiePars}
use Rattle.saftvrmie_parameters.specs.declared.SaftVRMiePars.{SaftVRMiePars}
use Rattle.set_lists.specs.Sets.{QuantumLists, MieLists, taken, orders_within, orders_read, quantum_lengths, quantum_read, quantum_set, mie_lengths, mie_read, mie_set}

-- what the tests of the lengths say
pub record Lengths (m sheets : List Float) (orders : List ℕ) : Type 0 where
  pub places : length m ≡ side
  pub flat : length sheets ≡ 6 * sheet
  pub records : length orders ≡ sheet

pub lengths : (m sheets : List Float) (orders : List ℕ) → quantum_lengths m sheets orders ≡ true → Lengths m sheets orders
unfolding quantum_lengths
lengths m sheets orders p =
    let a = eqb (length m) side in
    let b = eqb (length sheets) (6 * sheet) in
    let c = eqb (length orders) sheet in
    let q = (and_parts (a && b) c p).0 in
    record {
      places = eqb-true (length m) side (and_parts a b q).0;
      flat = eqb-true (length sheets) (6 * sheet) (and_parts a b q).1;
      records = eqb-true (length orders) sheet (and_parts (a && b) c p).1;
    }

pub count_small : (n : ℕ) → count_within n ≡ true → n ≤ side
unfolding count_within
count_small n p = leb-true n side (and_parts (leb 1 n) (leb n side) p).1

pub record MieLengths (lists sheets : List Float) : Type 0 where
  pub places : length lists ≡ 5 * side
  pub flat : length sheets ≡ 6 * sheet

pub mie_lengths_told : (lists sheets : List Float) → mie_lengths lists sheets ≡ true → MieLengths lists sheets
unfolding mie_lengths
mie_lengths_told lists sheets p =
    let a = eqb (length lists) (5 * side) in
    let b = eqb (length sheets) (6 * sheet) in
    record { places = eqb-true (length lists) (5 * side) (and_parts a b p).0; flat = eqb-true (length sheets) (6 * sheet) (and_parts a b p).1 }

-- the returns of `quantum_answer`
module _ (right : Bool) (l : QuantumLists) where
  pub count_1 : count_within l.count ≡ false → refused 1 ≡ verdict (quantum_set right l)
  unfolding quantum_set demand ◌>>=◌ verdict
  count_1 p = rw p

  module _ (p : count_within l.count ≡ true) where
    pub lengths_1 : quantum_lengths l.m l.sheets l.orders ≡ false → refused 1 ≡ verdict (quantum_set right l)
    unfolding quantum_set demand ◌>>=◌ verdict
    lengths_1 q = rw (p, q)

    module _ (q : quantum_lengths l.m l.sheets l.orders ≡ true) where
      pub right_1 : right ≡ false → refused 1 ≡ verdict (quantum_set right l)
      unfolding quantum_set demand ◌>>=◌ verdict
      right_1 e = rw (p, q, e)

      pub orders_4 : right ≡ true → orders_within l.count l.orders ≡ false → refused 4 ≡ verdict (quantum_set right l)
      unfolding quantum_set demand ◌>>=◌ verdict
      orders_4 e o = rw (p, q, e, o)

      pub holds : right ≡ true → orders_within l.count l.orders ≡ true → held true ≡ verdict (quantum_set right l)
      unfolding quantum_set demand ◌>>=◌ verdict
      holds e o = rw (p, q, e, o)

-- what the answer says to a caller
abbrev is_held : Ans Bool → Bool
is_held (held t) = true
is_held (refused n) = false

chain : Bool → Bool → Bool → Bool → SaftVRQMiePars → Ans SaftVRQMiePars
chain a b r o x = demand 1 (a && b && r) >>= λ _. demand 4 o >>= λ _. held x

record Passed (a b r o : Bool) (x : SaftVRQMiePars) : Type 0 where
  pub lengths : b ≡ true
  pub right : r ≡ true
  pub set : chain a b r o x ≡ held x

chain_passed : (a b r o : Bool) (x : SaftVRQMiePars) → verdict (chain a b r o x) ≡ held true → Passed a b r o x
unfolding chain demand ◌>>=◌ verdict
chain_passed false b r o x e = absurd (mathlib.Core.Bool.false≢true (ap is_held e))
chain_passed true false r o x e = absurd (mathlib.Core.Bool.false≢true (ap is_held e))
chain_passed true true false o x e = absurd (mathlib.Core.Bool.false≢true (ap is_held e))
chain_passed true true true false x e = absurd (mathlib.Core.Bool.false≢true (ap is_held e))
chain_passed true true true true x e = record { lengths = refl; right = refl; set = refl }

chain_refused : (a b r o : Bool) (x : SaftVRQMiePars) (n : ℕ) → verdict (chain a b r o x) ≡ refused n → chain a b r o x ≡ refused n
unfolding chain demand ◌>>=◌ verdict
chain_refused false b r o x n e = cc
chain_refused true false r o x n e = cc
chain_refused true true false o x n e = cc
chain_refused true true true false x n e = cc
chain_refused true true true true x n e = absurd (mathlib.Core.Bool.true≢false (ap is_held e))

chain_false : (a b o : Bool) (x : SaftVRQMiePars) → chain a b false o x ≡ refused 1
unfolding chain demand ◌>>=◌
chain_false false b o x = refl
chain_false true false o x = refl
chain_false true true o x = refl

-- what else of a call is 1: it comes before the 4, whatever the set
pub not_right : (l : QuantumLists) (right : Bool) → right ≡ false → quantum_set right l ≡ refused 1
unfolding quantum_set chain
not_right l right is = rw is (chain_false (count_within l.count) (quantum_lengths l.m l.sheets l.orders) (orders_within l.count l.orders) (quantum_read l))

module _ (l : QuantumLists) (b right : Bool) (is : b ≡ right) (r : Result (Unit {0}) Refusal) (p : outcome r true ≡ verdict (quantum_set b l)) where
  told : {u : Unit {0}} → r ≡ Ok u → Passed (count_within l.count) (quantum_lengths l.m l.sheets l.orders) b (orders_within l.count l.orders) (quantum_read l)
  unfolding quantum_set chain
  told e = chain_passed (count_within l.count) (quantum_lengths l.m l.sheets l.orders) b (orders_within l.count l.orders) (quantum_read l) (sym (rw e at p))

  pub passed_lengths : {u : Unit {0}} → r ≡ Ok u → quantum_lengths l.m l.sheets l.orders ≡ true
  passed_lengths e = (told e).lengths

  pub passed_right : {u : Unit {0}} → r ≡ Ok u → right ≡ true
  passed_right e = sym is ∙ (told e).right

  pub passed : {u : Unit {0}} → r ≡ Ok u → quantum_set right l ≡ held (quantum_read l)
  unfolding quantum_set chain
  passed e = rw (← is) (told e).set

  pub not_passed : {n : Refusal} → r ≡ Err n → quantum_set right l ≡ refused (code n)
  unfolding quantum_set chain
  not_passed e = rw (← is) (chain_refused (count_within l.count) (quantum_lengths l.m l.sheets l.orders) b (orders_within l.count l.orders) (quantum_read l) _ (sym (rw e at p)))

-- the set whole, and by its parts
pub set_is : {S : Type 0} (q : Ans S) (x y : S) → q ≡ held x → y ≡ x → q ≡ held y
set_is q x y p e = rw e p

pub set_by : (l : QuantumLists) (q : Ans SaftVRQMiePars) (x y : List Float) (o : List OrderRecord) → q ≡ held (quantum_read l) → x ≡ taken side l.m 0 → y ≡ taken (6 * sheet) l.sheets 0 → o ≡ orders_read l.orders
    → q ≡ held (record { count = l.count; m = x; sheets = y; orders = o })
unfolding quantum_read
set_by l q x y o p d e f = rw (d, e, f) p

-- 1 and the set of SAFT-VR Mie
module _ (l : MieLists) where
  pub mie_1 : mie_lengths l.lists l.sheets ≡ false → mie_set l ≡ refused 1
  unfolding mie_set demand ◌>>=◌
  mie_1 p = rw p

  pub mie_holds : mie_lengths l.lists l.sheets ≡ true → mie_set l ≡ held (mie_read l)
  unfolding mie_set demand ◌>>=◌
  mie_holds p = rw p

  pub mie_by : (q : Ans SaftVRMiePars) (m sigma epsilon_k lr la y : List Float) → q ≡ held (mie_read l) → m ≡ taken side l.lists 0 → sigma ≡ taken side l.lists (1 * side) → epsilon_k ≡ taken side l.lists (2 * side) → lr ≡ taken side l.lists (3 * side)
      → la ≡ taken side l.lists (4 * side) → y ≡ taken (6 * sheet) l.sheets 0 → q ≡ held (record { count = l.count; m = m; sigma = sigma; epsilon_k = epsilon_k; lr = lr; la = la; sheets = y })
  unfolding mie_read
  mie_by q m sigma epsilon_k lr la y p a b c d e f = rw (a, b, c, d, e, f) p
