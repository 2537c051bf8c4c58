-- What lists have that pass the tests for 1 to 5. Assumes nothing.
use Prim.Native.Nat.{ℕ, zero, suc, ◌*◌, ◌^◌, ◌≤◌, ◌<◌, max}
use native.Mathlib.Nat.{eq-or-lt_of_le}
use native.Mathlib.Omega.{arith}
use mathlib.Core.Logic.{⊎_elim}
use lib.Dec.{T, eqb, leb}
use lib.Ieee.{Float, nan, inf, fin, le, lt, eq, neg, round, up, down, is_nan, fits, of_bits, to_bits, binary64}
use lib.Ieee.Exact.{HasValue}
use lib.Ieee.Fits.{down_pos}
use lib.IntN.{ℤ, pos}
use lib.Ieee.Bits.{of_bits-to_bits, to_bits-of_bits, to_bits-lt}
use lib.Ieee.Back.{whole_unique}
use lib.ListN.{get_or}
use mathlib.Core.Path.{◌≡◌, refl, sym, ap, ◌∙◌, subst}
use mathlib.Core.Bool.{Bool, true, false, not, ◌&&◌, ◌||◌, beq, cond}
use mathlib.Core.List.{List}
use borrow.Author.Tests.{leb-true, eqb-true, eq-eqb, ne_eqb, not-true}
use Rattle.std.proofs.lemmas.Bool.{and_parts}
use Rattle.number.specs.Ans.{Ans, held, refused, ◌>>=◌, demand}
use Rattle.number.specs.Arith.{decimal}
use Rattle.number.specs.Lists.{at}
use Rattle.number.specs.Walk.{turns, every, walk}
use Rattle.number.proofs.Walk.{demanded, then_held}
use Rattle.limits.specs.declared.Component.{Component}
use Rattle.limits.specs.Limits.{square, components, in_limits, component_within, components_within, all_within, masses_within, segments_within, same_bits, pair_within, pairs_within, is_one, all_one}
use Rattle.saftvrqmie_parameters.specs.Parameters as Quantum
use Rattle.saftvrmie_parameters.specs.Parameters as Mie
use Rattle.card_of_lists.specs.Cards.{passed}
use Rattle.card_of_lists.proofs.Written.{QuantumLengths, quantum_lengths, MieLengths, mie_lengths_told, passes}

-- ---- floats and their patterns
pub number_back : (x : Float) → T (fits binary64 x) → of_bits binary64 (to_bits binary64 x) ≡ x
number_back x h = of_bits-to_bits binary64 x h

pub pattern_back : (n : ℕ) → n < 2 ^ 64 → is_nan (of_bits binary64 n) ≡ false → to_bits binary64 (of_bits binary64 n) ≡ n
pattern_back n h e = to_bits-of_bits binary64 n h (subst (λ (b : Bool). T (not b)) (sym e) tt)

pub pattern_small : (x : Float) → T (fits binary64 x) → to_bits binary64 x < 2 ^ 64
pattern_small x h = to_bits-lt binary64 x h

no : {A : Type 0} → true ≡ false → A
no p = let z : ◌≡◌ {A = ℕ} 0 1 = cc in absurd (omega arith)

pub le_number : (x y : Float) → le x y ≡ true → is_nan x ≡ false
unfolding le lt eq is_nan
le_number nan y p = no (sym p)
le_number (inf s) y p = refl
le_number (fin s m e) y p = refl

lt_number : (x y : Float) → lt x y ≡ true → is_nan x ≡ false
unfolding lt is_nan
lt_number nan y p = no (sym p)
lt_number (inf s) y p = refl
lt_number (fin s m e) y p = refl

limits_number : (low high x : Float) → in_limits low high x ≡ true → is_nan x ≡ false
unfolding in_limits
limits_number low high x p = le_number x high (and_parts (le low x) (le x high) p).1

pub same_float : (x y : Float) → T (fits binary64 x) → T (fits binary64 y) → same_bits x y ≡ true → x ≡ y
unfolding same_bits
same_float x y h g p =
    let e = eqb-true (to_bits binary64 x) (to_bits binary64 y) (and_parts (not (is_nan x) && not (is_nan y)) (eqb (to_bits binary64 x) (to_bits binary64 y)) p).1 in
    sym (number_back x h) ∙ ap (of_bits binary64) e ∙ number_back y g

pub same_number : (x y : Float) → same_bits x y ≡ true → is_nan x ≡ false
unfolding same_bits
same_number x y p = not-true (is_nan x) (and_parts (not (is_nan x)) (not (is_nan y)) (and_parts (not (is_nan x) && not (is_nan y)) (eqb (to_bits binary64 x) (to_bits binary64 y)) p).0).0

-- ---- each of them
pub every_at : (n : ℕ) (p : ℕ → Bool) (i : ℕ) → every n p ≡ true → i < n → p i ≡ true
unfolding every turns
every_at zero p i e h = absurd (omega arith)
every_at (suc n) p i e h =
    let i-le : i ≤ n = omega arith in
    ⊎_elim (λ r. rw r (and_parts (every n p) (p n) e).1) (λ r. every_at n p i (and_parts (every n p) (p n) e).0 r) (eq-or-lt_of_le i-le)

pub record Component-numbers (c : Component) : Type 0 where
  pub sigma : is_nan c.sigma ≡ false
  pub epsilon_k : is_nan c.epsilon_k ≡ false
  pub lr : is_nan c.lr ≡ false
  pub la : is_nan c.la ≡ false

component_numbers : (c : Component) → component_within c ≡ true → Component-numbers c
unfolding component_within
component_numbers c p =
    let a = in_limits (decimal false 5 1) (decimal false 16 0) c.sigma in
    let b = in_limits (decimal false 1 1) (decimal false 5000 0) c.epsilon_k in
    let d = lt (decimal false 3 0) c.la in
    let e = lt c.la c.lr in
    let f = le c.lr (decimal false 64 0) in
    let ab = (and_parts (a && b) (d && e && f) p).0 in
    let def = (and_parts (a && b) (d && e && f) p).1 in
    record {
      sigma = limits_number (decimal false 5 1) (decimal false 16 0) c.sigma (and_parts a b ab).0;
      epsilon_k = limits_number (decimal false 1 1) (decimal false 5000 0) c.epsilon_k (and_parts a b ab).1;
      lr = le_number c.lr (decimal false 64 0) (and_parts (d && e) f def).1;
      la = lt_number c.la c.lr (and_parts d e (and_parts (d && e) f def).0).1;
    }

components_at : (n : ℕ) (c : ℕ → Component) (i : ℕ) → components_within n c ≡ true → i < n → Component-numbers (c i)
unfolding components_within
components_at n c i p h = component_numbers (c i) (every_at n (λ i. component_within (c i)) i p h)

masses_at : (n : ℕ) (l : ℕ → Float) (i : ℕ) → masses_within n l ≡ true → i < n → is_nan (l i) ≡ false
unfolding masses_within all_within
masses_at n l i p h = limits_number (decimal false 1 27) (decimal false 1 23) (l i) (every_at n (λ i. in_limits (decimal false 1 27) (decimal false 1 23) (l i)) i p h)

segments_at : (n : ℕ) (l : ℕ → Float) (i : ℕ) → segments_within n l ≡ true → i < n → is_nan (l i) ≡ false
unfolding segments_within all_within
segments_at n l i p h = limits_number (decimal false 5 1) (decimal false 64 0) (l i) (every_at n (λ i. in_limits (decimal false 5 1) (decimal false 64 0) (l i)) i p h)

ones_at : (n : ℕ) (l : ℕ → Float) (i : ℕ) → all_one n l ≡ true → i < n → is_one (l i) ≡ true
unfolding all_one
ones_at n l i p h = every_at n (λ i. is_one (l i)) i p h

-- a square of pairs: +0 at (i, i), and the same at (i, j) and (j, i)
pub record Pairs (n : ℕ) (k : ℕ → ℕ → Float) : Type 0 where
  pub end : (i : ℕ) → i < n → same_bits (k i i) (decimal false 0 0) ≡ true
  pub swap : (i j : ℕ) → i < n → j < n → (i ≡ j → ⊥) → same_bits (k i j) (k j i) ≡ true

pub pairs_of : (n : ℕ) (k : ℕ → ℕ → Float) → pairs_within n k ≡ true → Pairs n k
unfolding pairs_within pair_within
pairs_of n k p =
    let within : (i j : ℕ) → i < n → j < n → pair_within k i j ≡ true = λ i j h g. every_at n (λ j. pair_within k i j) j (every_at n (λ i. every n (λ j. pair_within k i j)) i p h) g in
    record {
      end = λ i h. rw (eq-eqb i i refl) at (within i i h h);
      swap = λ i j h g z. (and_parts (in_limits (neg (decimal false 9 1)) (decimal false 9 1) (k i j)) (same_bits (k i j) (k j i)) (rw (ne_eqb i j z) at (within i j h g))).1;
    }

-- ---- an m of 1.0
one_is : decimal false 1 0 ≡ fin false 1 (pos 0)
unfolding decimal round
one_is = refl

one_value : (s : Bool) (m : ℕ) (e : ℤ) → (eqb (m * up e * 1) (1 * 1 * down e) && (beq s false || eqb (m * up e * 1) 0)) ≡ true → HasValue (fin s m e) false 1 1
one_value s m e p =
    let a = eqb-true (m * up e * 1) (1 * 1 * down e) (and_parts (eqb (m * up e * 1) (1 * 1 * down e)) (beq s false || eqb (m * up e * 1) 0) p).0 in
    let b = (and_parts (eqb (m * up e * 1) (1 * 1 * down e)) (beq s false || eqb (m * up e * 1) 0) p).1 in
    let d = down_pos e in
    let z = ne_eqb (m * up e * 1) 0 (λ q. omega (arith, a, d, q)) in
    (sign s (rw z at b), a)
  where
    sign : (s : Bool) → (beq s false || false) ≡ true → s ≡ false
    sign true p = sym p
    sign false p = refl

pub only_one : (x : Float) → T (fits binary64 x) → is_one x ≡ true → x ≡ decimal false 1 0
unfolding eq fits
only_one nan h p = no (sym p)
only_one (inf s) h p = no (sym (rw one_is at p))
only_one (fin s m e) h p =
    rw one_is (whole_unique binary64 (fin s m e) (fin false 1 (pos 0)) false 1 h tt (one_value s m e (rw one_is at p)) (refl, refl))

-- ---- orders
no_six : {S : Type 0} (n : ℕ) (f : ℕ → S → Ans S) (s : S) (m : ℕ) → ((i : ℕ) (x : S) (k : ℕ) → f i x ≡ refused k → eqb k 6 ≡ false) → walk n f s ≡ refused m → eqb m 6 ≡ false
unfolding walk ◌>>=◌
no_six zero f s m h p = let z : ◌≡◌ {A = ℕ} 0 1 = cc in absurd (omega arith)
no_six {S} (suc n) f s m h p = either (walk n f s) refl p (λ k. no_six n f s k h)
  where
    either : (a : Ans S) → walk n f s ≡ a → (a >>= f n) ≡ refused m → ((k : ℕ) → walk n f s ≡ refused k → eqb k 6 ≡ false) → eqb m 6 ≡ false
    either (held x) e q r = h n x m q
    either (refused k) e q r = let d : k ≡ m = cc in rw (sym d) (r k e)

pair_orders_6 : (a b k : ℕ) → Quantum.pair_orders a b ≡ refused k → eqb k 6 ≡ false
unfolding Quantum.pair_orders demand ◌>>=◌
pair_orders_6 a b k p = either (leb (max a b) 2) (not (eqb (a * b) 2)) p
  where
    either : (s t : Bool) → (cond s (held true) (refused 4) >>= λ _. cond t (held true) (refused 5)) ≡ refused k → eqb k 6 ≡ false
    either true true q = let z : ◌≡◌ {A = ℕ} 0 1 = cc in absurd (omega arith)
    either true false q = let d : 5 ≡ k = cc in rw (sym d)
    either false t q = let d : 4 ≡ k = cc in rw (sym d)

walk_6 : (n m : ℕ) (fh : List ℕ) → Quantum.order_walk n fh ≡ refused m → eqb m 6 ≡ false
unfolding Quantum.order_walk Quantum.order_row
walk_6 n m fh p = no_six n _ true m (λ i x k q. no_six n _ true k (λ j y l r. pair_orders_6 (get_or fh i 0) (get_or fh j 0) l r) q) p

walk_each : {S : Type 0} (n : ℕ) (f : ℕ → S → Ans S) (s y : S) → walk n f s ≡ held y → (i : ℕ) → i < n → (x : S) × (z : S) × (f i x ≡ held z)
unfolding walk
walk_each zero f s y p i h = absurd (omega arith)
walk_each {S} (suc n) f s y p i h =
    let a = then_held (walk n f s) (f n) y p in
    let i-le : i ≤ n = omega arith in
    ⊎_elim
    (λ r. subst (λ (k : ℕ). (x : S) × (z : S) × (f k x ≡ held z)) (sym r) (a.0, y, a.2))
    (λ r. walk_each n f s a.0 a.1 i r)
    (eq-or-lt_of_le i-le)

order_small : (n : ℕ) (fh : List ℕ) (y : Bool) → Quantum.order_walk n fh ≡ held y → (i : ℕ) → i < n → get_or fh i 0 ≤ 2
unfolding Quantum.order_walk Quantum.order_row Quantum.pair_orders
order_small n fh y p i h =
    let a = walk_each n _ true y p i h in
    let b = walk_each n _ true a.1 a.2 i h in
    let d = then_held (demand 4 (leb (max (get_or fh i 0) (get_or fh i 0)) 2)) _ b.1 b.2 in
    let e = leb-true (max (get_or fh i 0) (get_or fh i 0)) 2 (demanded 4 (leb (max (get_or fh i 0) (get_or fh i 0)) 2) d.0 d.1) in
    omega (arith, e)

-- ---- what the tests say
pub record QuantumTested (x : Quantum.Lists) : Type 0 where
  pub lengths : QuantumLengths x
  pub component : (i : ℕ) → i < x.count → Component-numbers (components x.sigma x.epsilon_k x.lr x.la i)
  pub mass : (i : ℕ) → i < x.count → is_nan (at x.mass i) ≡ false
  pub k_ij : Pairs x.count (square x.count x.k_ij)
  pub l_ij : Pairs x.count (square x.count x.l_ij)
  pub m : (i : ℕ) → i < x.count → is_one (at x.m i) ≡ true
  pub fh : (i : ℕ) → i < x.count → get_or x.fh i 0 ≤ 2

passed_walk : {S : Type 0} (a : Ans Bool) (f : Bool → Ans S) (b : Bool) → ((m : ℕ) → a ≡ refused m → eqb m 6 ≡ false) → passed (a >>= f) ≡ held b → (y : Bool) × (a ≡ held y)
unfolding passed ◌>>=◌
passed_walk (held y) f b h p = (y, refl)
passed_walk (refused m) f b h p = let q = rw (h m refl) at p in let z : ◌≡◌ {A = ℕ} 0 1 = cc in absurd (omega arith)

pub quantum_tested : (x : Quantum.Lists) (b : Bool) → passed (Quantum.saft_vrq_mie_pars x) ≡ held b → QuantumTested x
unfolding Quantum.saft_vrq_mie_pars Quantum.within_limits
quantum_tested x b p =
    let n = x.count in
    let c = components x.sigma x.epsilon_k x.lr x.la in
    let k = square n x.k_ij in
    let l = square n x.l_ij in
    let one = passes 1 (Quantum.right_lengths x) _ b refl p in
    let two = passes 2 (components_within n c && masses_within n (at x.mass) && pairs_within n k && pairs_within n l) _ b refl one.rest in
    let three = passes 3 (all_one n (at x.m)) _ b refl two.rest in
    let four = passed_walk (Quantum.order_walk n x.fh) _ b (λ m q. walk_6 n m x.fh q) three.rest in
    let cmk = (and_parts (components_within n c && masses_within n (at x.mass) && pairs_within n k) (pairs_within n l) two.test).0 in
    let cm = (and_parts (components_within n c && masses_within n (at x.mass)) (pairs_within n k) cmk).0 in
    record {
      lengths = quantum_lengths x one.test;
      component = λ i h. components_at n c i (and_parts (components_within n c) (masses_within n (at x.mass)) cm).0 h;
      mass = λ i h. masses_at n (at x.mass) i (and_parts (components_within n c) (masses_within n (at x.mass)) cm).1 h;
      k_ij = pairs_of n k (and_parts (components_within n c && masses_within n (at x.mass)) (pairs_within n k) cmk).1;
      l_ij = pairs_of n l (and_parts (components_within n c && masses_within n (at x.mass) && pairs_within n k) (pairs_within n l) two.test).1;
      m = λ i h. ones_at n (at x.m) i three.test h;
      fh = λ i h. order_small n x.fh four.0 four.1 i h;
    }

pub record MieTested (x : Mie.Lists) : Type 0 where
  pub lengths : MieLengths x
  pub component : (i : ℕ) → i < x.count → Component-numbers (components x.sigma x.epsilon_k x.lr x.la i)
  pub m : (i : ℕ) → i < x.count → is_nan (at x.m i) ≡ false
  pub k_ij : Pairs x.count (square x.count x.k_ij)
  pub gamma_ij : Pairs x.count (square x.count x.gamma_ij)

pub mie_tested : (x : Mie.Lists) (b : Bool) → passed (Mie.saft_vr_mie_pars x) ≡ held b → MieTested x
unfolding Mie.saft_vr_mie_pars Mie.within_limits
mie_tested x b p =
    let n = x.count in
    let c = components x.sigma x.epsilon_k x.lr x.la in
    let k = square n x.k_ij in
    let l = square n x.gamma_ij in
    let one = passes 1 (Mie.right_lengths x) _ b refl p in
    let two = passes 2 (components_within n c && segments_within n (at x.m) && pairs_within n k && pairs_within n l) _ b refl one.rest in
    let cmk = (and_parts (components_within n c && segments_within n (at x.m) && pairs_within n k) (pairs_within n l) two.test).0 in
    let cm = (and_parts (components_within n c && segments_within n (at x.m)) (pairs_within n k) cmk).0 in
    record {
      lengths = mie_lengths_told x one.test;
      component = λ i h. components_at n c i (and_parts (components_within n c) (segments_within n (at x.m)) cm).0 h;
      m = λ i h. segments_at n (at x.m) i (and_parts (components_within n c) (segments_within n (at x.m)) cm).1 h;
      k_ij = pairs_of n k (and_parts (components_within n c && segments_within n (at x.m)) (pairs_within n k) cmk).1;
      gamma_ij = pairs_of n l (and_parts (components_within n c && segments_within n (at x.m) && pairs_within n k) (pairs_within n l) two.test).1;
    }
