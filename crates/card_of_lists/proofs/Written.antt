-- Laws of the operations, test by test. Assumes nothing.
use Prim.Native.Nat.{ℕ, ◌+◌, ◌*◌, ◌-◌, ◌≤◌, ◌<◌}
use Rattle.std.proofs.lemmas.Bool.{and_parts}
use Rattle.std.specs.Prelude.{Err, Ok, Result, Option, Some}
use Rattle.std.specs.Result.{result_err}
use Rattle.number.specs.Answer.{code, answer}
use Rattle.number.specs.declared.refusal.Refusal.{Refusal}
use Rattle.number.specs.declared.refusal.Refusal.TheVariants.{Length, Limit, Segments, Order, MixedOrders, Domain, NotFinite, Unsound, Short, Heading, Filling, Room, Layers, StoredZero, Components, Occupied}
use native.Mathlib.Omega.{arith}
use lib.Dec.{eqb, leb}
use lib.ListN.{length, take, drop}
use mathlib.Core.Path.{◌≡◌, refl}
use mathlib.Core.Bool.{Bool, true, false, ◌&&◌}
use mathlib.Core.List.{List, ◌++◌}
use borrow.Author.Tests.{le-leb, lt-leb, leb-true, eqb-true}
use Rattle.number.specs.Ans.{Ans, held, refused, ◌>>=◌, demand}
use Rattle.mie_parameters.specs.Answer.{outcome}
use Rattle.limits.specs.Limits.{count_within}
use Rattle.saftvrqmie_parameters.specs.Parameters as Quantum
use Rattle.saftvrmie_parameters.specs.Parameters as Mie
use Rattle.card.specs.Fields.{joined}
use Rattle.card.specs.Card.{Card, older, value_count}
use Rattle.card_writer.specs.Writing.{card_bytes, CardRoom, card_stored}
use Rattle.card_of_lists.specs.Cards.{quantum_component, mie_component, pair_rows, quantum_card, mie_card, passed, passed_by, vrq_card, vr_card}

-- what `stored` answers: 10, 12
abbrev pub older_card : Card → CardRoom → Ans CardRoom
older_card c l =
    demand 10 (leb c.count older.most) >>= λ _.
    card_stored (card_bytes older c) l

-- ---- the tests for 1 to 5
pub passed_other : (r : Refusal) → (r ≡ Domain → ⊥) → refused (code r) ≡ passed_by (Some r)
passed_other Domain z = absurd (z refl)
passed_other Length z = refl
passed_other Limit z = refl
passed_other Segments z = refl
passed_other Order z = refl
passed_other MixedOrders z = refl
passed_other NotFinite z = refl
passed_other Unsound z = refl
passed_other Short z = refl
passed_other Heading z = refl
passed_other Filling z = refl
passed_other Room z = refl
passed_other Layers z = refl
passed_other StoredZero z = refl
passed_other Components z = refl
passed_other Occupied z = refl

pub passed_on : {S : Type 0} (q : Ans S) (g : Result S Refusal) (o : Option Refusal) (a : Ans Bool) → answer g ≡ q → o ≡ result_err g → a ≡ passed_by o → a ≡ passed q
unfolding passed
passed_on q (Ok s) o a e f p = rw (← e) (rw f at p)
passed_on q (Err r) o a e f p = rw (← e) (rw f at p)

-- a test that is none of the parameters' 6
pub record Goes {S : Type 0} (t : Bool) (f : Bool → Ans S) (b : Bool) : Type 0 where
  pub test : t ≡ true
  pub rest : passed (f true) ≡ held b

pub passes : {S : Type 0} (n : ℕ) (t : Bool) (f : Bool → Ans S) (b : Bool) → eqb n 6 ≡ false → passed (demand n t >>= f) ≡ held b → Goes t f b
unfolding passed demand ◌>>=◌
passes n true f b z p = record { test = refl; rest = p }
passes n false f b z p = let q = rw z at p in let y : ◌≡◌ {A = ℕ} 0 1 = cc in absurd (omega arith)

-- ---- the lengths
pub record QuantumLengths (x : Quantum.Lists) : Type 0 where
  pub some : 1 ≤ x.count
  pub most : x.count ≤ 12
  pub m : length x.m ≡ x.count
  pub sigma : length x.sigma ≡ x.count
  pub epsilon_k : length x.epsilon_k ≡ x.count
  pub lr : length x.lr ≡ x.count
  pub la : length x.la ≡ x.count
  pub mass : length x.mass ≡ x.count
  pub fh : length x.fh ≡ x.count
  pub k_ij : length x.k_ij ≡ x.count * x.count
  pub l_ij : length x.l_ij ≡ x.count * x.count

-- a chain of tests, the last apart
record Both (a b : Bool) : Type 0 where
  first : a ≡ true
  second : b ≡ true

both : (a b : Bool) → (a && b) ≡ true → Both a b
both a b p = record { first = (and_parts a b p).0; second = (and_parts a b p).1 }

count_in : (n : ℕ) → count_within n ≡ true → (1 ≤ n) × (n ≤ 12)
unfolding count_within
count_in n p = let b = both (leb 1 n) (leb n 12) p in (leb-true 1 n b.first, leb-true n 12 b.second)

pub quantum_lengths : (x : Quantum.Lists) → Quantum.right_lengths x ≡ true → QuantumLengths x
unfolding Quantum.right_lengths
quantum_lengths x p =
    let n = x.count in
    let l = both _ (eqb (length x.l_ij) (n * n)) p in
    let k = both _ (eqb (length x.k_ij) (n * n)) l.first in
    let fh = both _ (eqb (length x.fh) n) k.first in
    let mass = both _ (eqb (length x.mass) n) fh.first in
    let la = both _ (eqb (length x.la) n) mass.first in
    let lr = both _ (eqb (length x.lr) n) la.first in
    let epsilon_k = both _ (eqb (length x.epsilon_k) n) lr.first in
    let sigma = both _ (eqb (length x.sigma) n) epsilon_k.first in
    let m = both (count_within n) (eqb (length x.m) n) sigma.first in
    let c = count_in n m.first in
    record {
      some = c.0;
      most = c.1;
      m = eqb-true (length x.m) n m.second;
      sigma = eqb-true (length x.sigma) n sigma.second;
      epsilon_k = eqb-true (length x.epsilon_k) n epsilon_k.second;
      lr = eqb-true (length x.lr) n lr.second;
      la = eqb-true (length x.la) n la.second;
      mass = eqb-true (length x.mass) n mass.second;
      fh = eqb-true (length x.fh) n fh.second;
      k_ij = eqb-true (length x.k_ij) (n * n) k.second;
      l_ij = eqb-true (length x.l_ij) (n * n) l.second;
    }

pub record MieLengths (x : Mie.Lists) : Type 0 where
  pub some : 1 ≤ x.count
  pub most : x.count ≤ 12
  pub m : length x.m ≡ x.count
  pub sigma : length x.sigma ≡ x.count
  pub epsilon_k : length x.epsilon_k ≡ x.count
  pub lr : length x.lr ≡ x.count
  pub la : length x.la ≡ x.count
  pub k_ij : length x.k_ij ≡ x.count * x.count
  pub gamma_ij : length x.gamma_ij ≡ x.count * x.count

pub mie_lengths_told : (x : Mie.Lists) → Mie.right_lengths x ≡ true → MieLengths x
unfolding Mie.right_lengths
mie_lengths_told x p =
    let n = x.count in
    let l = both _ (eqb (length x.gamma_ij) (n * n)) p in
    let k = both _ (eqb (length x.k_ij) (n * n)) l.first in
    let la = both _ (eqb (length x.la) n) k.first in
    let lr = both _ (eqb (length x.lr) n) la.first in
    let epsilon_k = both _ (eqb (length x.epsilon_k) n) lr.first in
    let sigma = both _ (eqb (length x.sigma) n) epsilon_k.first in
    let m = both (count_within n) (eqb (length x.m) n) sigma.first in
    let c = count_in n m.first in
    record {
      some = c.0;
      most = c.1;
      m = eqb-true (length x.m) n m.second;
      sigma = eqb-true (length x.sigma) n sigma.second;
      epsilon_k = eqb-true (length x.epsilon_k) n epsilon_k.second;
      lr = eqb-true (length x.lr) n lr.second;
      la = eqb-true (length x.la) n la.second;
      k_ij = eqb-true (length x.k_ij) (n * n) k.second;
      gamma_ij = eqb-true (length x.gamma_ij) (n * n) l.second;
    }

-- ---- the quantum card
module _ (x : Quantum.Lists) (l : CardRoom) (a : Result (Unit {0}) Refusal) (p : outcome a true ≡ passed (Quantum.saft_vrq_mie_pars x)) where
  pub vrq_stops : (r : Refusal) → a ≡ Err r → refused (code r) ≡ vrq_card x l
  unfolding vrq_card ◌>>=◌
  vrq_stops r e = rw (← p, e)

  module _ {u : Unit {0}} (e : a ≡ Ok u) where
    held_true : passed (Quantum.saft_vrq_mie_pars x) ≡ held true
    held_true = rw (← p, e)

    pub vrq_lengths : QuantumLengths x
    unfolding Quantum.saft_vrq_mie_pars
    vrq_lengths = quantum_lengths x (passes 1 (Quantum.right_lengths x) _ true refl held_true).test

    pub vrq_goes : (first : List ℕ) → take (x.count * 6) first ≡ joined x.count (quantum_component x.sigma x.epsilon_k x.lr x.la x.mass x.fh)
        → older_card (record { kind = 0; count = x.count; values = take (x.count * 6) first ++ pair_rows x.count x.k_ij x.l_ij }) l ≡ vrq_card x l
    unfolding vrq_card quantum_card ◌>>=◌
    vrq_goes first c = rw (held_true, c)

-- ---- the card of SAFT-VR Mie
module _ (x : Mie.Lists) (l : CardRoom) (a : Result (Unit {0}) Refusal) (p : outcome a true ≡ passed (Mie.saft_vr_mie_pars x)) where
  pub vr_stops : (r : Refusal) → a ≡ Err r → refused (code r) ≡ vr_card x l
  unfolding vr_card ◌>>=◌
  vr_stops r e = rw (← p, e)

  module _ {u : Unit {0}} (e : a ≡ Ok u) where
    mie_true : passed (Mie.saft_vr_mie_pars x) ≡ held true
    mie_true = rw (← p, e)

    pub vr_lengths : MieLengths x
    unfolding Mie.saft_vr_mie_pars
    vr_lengths = mie_lengths_told x (passes 1 (Mie.right_lengths x) _ true refl mie_true).test

    pub vr_goes : (first : List ℕ) → take (x.count * 5) first ≡ joined x.count (mie_component x.m x.sigma x.epsilon_k x.lr x.la)
        → older_card (record { kind = 1; count = x.count; values = take (x.count * 5) first ++ pair_rows x.count x.k_ij x.gamma_ij }) l ≡ vr_card x l
    unfolding vr_card mie_card ◌>>=◌
    vr_goes first c = rw (mie_true, c)

-- ---- a card whose components' numbers are in place
module _ (c : Card) (l : CardRoom) where
  pub many : 8 < c.count → refused 10 ≡ older_card c l
  unfolding demand ◌>>=◌
  many h = rw (lt-leb c.count 8 h)

  pub goes : (total start : ℕ) (last : List ℕ) → c.count ≤ 8 → total ≡ value_count c.kind c.count → start + c.count * (c.count - 1) ≡ total → take (start + c.count * (c.count - 1)) last ≡ c.values
      → older_card c l ≡ card_stored (card_bytes older (record { kind = c.kind; count = c.count; values = take (total - 0) (drop 0 last) })) l
  unfolding demand ◌>>=◌
  goes total start last h t s d =
      let z : total - 0 ≡ start + c.count * (c.count - 1) = omega (arith, s) in
      rw (le-leb c.count 8 h, z, d)
