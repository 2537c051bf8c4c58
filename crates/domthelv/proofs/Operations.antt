-- The operations behind the boundary, test by test, over plain values. Assumes nothing.
use Prim.Native.Nat.{ℕ, ◌*◌}
use Rattle.std.proofs.lemmas.Bool.{and_parts}
use Rattle.std.specs.Prelude.{Err, Ok, Result}
use Rattle.std.specs.Result.{ForOk, IsOkAnd, MatchResult, is_ok}
use Rattle.number.specs.Answer.{answer, answer_by, code}
use Rattle.number.specs.declared.refusal.Refusal.{Refusal}
use native.Mathlib.Omega.{arith}
use lib.Dec.{eqb}
use lib.Ieee.{Float}
use lib.ListN.{length}
use borrow.Author.Tests.{eqb-true}
use mathlib.Core.List.{List}
use mathlib.Core.Path.{◌≡◌, refl, sym, ap, ◌∙◌, subst}
use mathlib.Core.Bool.{Bool, true, false}
use Rattle.number.specs.Ans.{Ans, held, refused, ◌>>=◌, demand}
use Rattle.sizes.specs.Sizes.{sheet}
use Rattle.mie_parameters.specs.Answer.{number_of, outcome, verdict, stored, status}
use Rattle.saftvrqmie_parameters.specs.Parameters as Quantum
use Rattle.saftvrqmie_parameters.specs.declared.OrderRecord.{OrderRecord}
use Rattle.saftvrqmie_parameters.specs.declared.SaftVRQMiePars.{SaftVRQMiePars}
use Rattle.saftvrmie_parameters.specs.Parameters as Mie
use Rattle.saftvrmie_parameters.specs.declared.SaftVRMiePars.{SaftVRMiePars}
use Rattle.limits.specs.Limits.{index_within}
use Rattle.saftvrqmie.specs.Table.{Lent, right_lists, temperature_table, pairs_of}
use Rattle.saftvrqmie.specs.Pairs as Pairs
use Rattle.saftvrqmie.specs.Pairs.{radii_ij}
use Rattle.order_counts.specs.Counts.{order_counts}
use Rattle.saftvrqmie_energies.specs.Energies.{state_lengths, energies}
use Rattle.elementary.specs.Port.{port}
use Rattle.saftvrqmie_energies_ends.specs.Operation.{energies_ends}
use Rattle.saftvrqmie_diameter_ends.specs.Operations.{diameter_ends}
use Rattle.stages.specs.Stages.{quantum_stage}
use Rattle.saftvrmie.specs.Diameters.{diameters}
use Rattle.saftvrmie.specs.Pairs.{radius_ij, diameter_ij}
use Rattle.saftvrmie_energies.specs.Energies.{energy}
use Rattle.saftvrmie_energies_ends.specs.Operation.{dispersion_ends}
use Rattle.saftvrmie_diameter_ends.specs.Operations as MieDiameter
use Rattle.set_lists.specs.Sets.{QuantumLists, taken, quantum_lengths, quantum_set, MieLists, mie_lengths, mie_read, mie_set}
use Rattle.set_lists.specs.Written.{QuantumLent, MieLent, set_written, mie_written}
use Rattle.domthelv.specs.Asked.{energies_asked, ends_asked, radii_asked, diameter_ends_asked, Worked}
use Rattle.domthelv.specs.Operations.{counts_written, order_counts_out, vrq_parameters, vrq_table, radii_lengths, radii_written, vrq_radii, energies_written, vrq_energies, ends_written, vrq_energies_ends, pair_written, vrq_diameter, vrq_diameter_ends, vrq_stage, vr_parameters, vr_diameters, vr_radius, vr_diameter, vr_dispersion, vr_dispersion_ends, vr_diameter_ends}

-- `outcome` of an operation that leaves nothing behind
pub outcome_status : (a : Result (Unit {0}) Refusal) (r : ℕ) (q : Ans Bool) → outcome a true ≡ q → r ≡ number_of a → r ≡ status q
unfolding status
outcome_status (Ok u) r q p e = rw (← p) e
outcome_status (Err n) r q p e = rw (← p) e

verdict_status : {S : Type 0} (p : Ans S) → status (verdict p) ≡ status p
unfolding status verdict
verdict_status (held x) = refl
verdict_status (refused n) = refl

-- an operation that gives a parameter answer and leaves its lists by `stored`
pub through_status : {S : Type 0} (q p : Ans S) (a : Result (Unit {0}) Refusal) (r : ℕ) → q ≡ p → outcome a true ≡ verdict p → r ≡ number_of a → r ≡ status q
through_status q p a r e f g = rw e (outcome_status a r (verdict p) f g ∙ verdict_status p)

pub through_stored : {S : Type 0} (l : S) (q p : Ans S) → q ≡ p → stored l p ≡ stored l q
through_stored l q p e = ap (stored l) (sym e)

pub refused_status : {S : Type 0} (q : Ans S) (n r : ℕ) → r ≡ n → q ≡ refused n → r ≡ status q
unfolding status verdict
refused_status q n r e p = rw p e

pub refused_stored : {S : Type 0} (l : S) (q : Ans S) (n : ℕ) → q ≡ refused n → l ≡ stored l q
unfolding stored
refused_stored l q n p = rw p

pub held_status : {S : Type 0} (q : Ans S) (x : S) → q ≡ held x → 0 ≡ status q
unfolding status verdict
held_status q x p = rw p

pub held_stored : {S : Type 0} (l x : S) (q : Ans S) → q ≡ held x → x ≡ stored l q
unfolding stored
held_stored l x q p = rw p

-- an answer that `deliver` has stored
pub delivered : {S : Type 0} (q a : Ans S) (r : ℕ) (before after : S) → (r ≡ status a) × (after ≡ stored before a) → a ≡ q → (r ≡ status q) × (after ≡ stored before q)
delivered q a r before after (s, t) e = (s ∙ ap status e, t ∙ ap (stored before) e)

-- one step after another
module _ {R S : Type 0} (a : Ans R) (f : R → Ans S) where
  pub bind_refused : (k : ℕ) → a ≡ refused k → (a >>= f) ≡ refused k
  unfolding ◌>>=◌
  bind_refused k p = rw p

  pub bind_held : (x : R) → a ≡ held x → (a >>= f) ≡ f x
  unfolding ◌>>=◌
  bind_held x p = rw p

pub bind_bind : {R S T : Type 0} (a : Ans R) (f : R → Ans S) (g : S → Ans T) → ((a >>= f) >>= g) ≡ (a >>= λ x. f x >>= g)
unfolding ◌>>=◌
bind_bind (held x) f g = refl
bind_bind (refused k) f g = refl

-- what is worked of a set, where it is what f gives of each
pub worked_is : {S T N : Type 0} (of : T → N) (a : Ans S) (W : S → Result T Refusal → Type 0) (f : S → Ans N) (r : Result T Refusal) → Worked a W r → ((s : S) → W s r → answer_by of r ≡ f s) → answer_by of r ≡ (a >>= f)
unfolding ◌>>=◌
worked_is of (held s) W f r p h = h s p
worked_is of (refused n) W f (Ok x) p h = let z : ◌≡◌ {A = ℕ} 0 1 = cc in absurd (omega arith)
worked_is of (refused n) W f (Err e) p h = let q : ◌≡◌ {A = ℕ} (code e) n = cc in ap (λ (k : ℕ). refused k) q

-- what `map_err` hands on
pub handed : {T E F : Type 0} (P : T → Type 0) (K Q : E → Type 0) (r : Result T E) (m : Result T F) {y : T} → is_ok m ≡ is_ok r → MatchResult r (λ x. m ≡ Ok x) K → MatchResult r P Q → m ≡ Ok y → P y
handed P K Q (Ok x) m {y} v a p e = let q : x ≡ y = cc in subst P q p
handed P K Q (Err k) m v a p e = absurd (mathlib.Core.Bool.false≢true (sym v ∙ ap is_ok e))

pub refused_verdict : {S : Type 0} (q : Ans S) (n : ℕ) → q ≡ refused n → refused n ≡ verdict q
unfolding verdict
refused_verdict q n p = rw p

-- a list of n places that `map` made of an answer: what the definition writes into any list of n places
abbrev pub Listed : {T A : Type 0} → ℕ → (T → List A → List A) → Result T Refusal → Result (List A) Refusal → Type 0
Listed {T} {A} n w a m = MatchResult a (λ x. IsOkAnd m (λ y. (length y ≡ n) × ((l : List A) → length l ≡ n → w x l ≡ y))) (λ e. m ≡ Err e)

-- it is as long as the list that it is copied into
pub fits : {T A : Type 0} (n : ℕ) (w : T → List A → List A) (l : List A) (a : Result T Refusal) (m : Result (List A) Refusal) → Listed n w a m → ForOk a (λ _. length l ≡ n) → (y : List A) → m ≡ Ok y → length l ≡ length y
fits n w l (Ok x) m h p y e = p x refl ∙ sym (rw e at h).0
fits n w l (Err r) m h p y e = absurd (mathlib.Core.Bool.false≢true (ap is_ok (sym h ∙ e)))

-- such a list that `deliver_list` has stored
module _ {T S A : Type 0} (of : T → S) (w : S → List A → List A) (n : ℕ) (l : List A) where
  list_is : (a : Result T Refusal) (m : Result (List A) Refusal) → Listed n (λ x. w (of x)) a m → ForOk a (λ _. length l ≡ n) → answer m ≡ (answer_by of a >>= λ e. held (w e l))
  unfolding ◌>>=◌
  list_is (Ok x) (Ok y) h p = ap held (sym (h.1 l (p x refl)))
  list_is (Ok x) (Err r) h p = absurd h
  list_is (Err r) m h p = rw h

  pub list_delivered : (a : Result T Refusal) (m : Result (List A) Refusal) (b : Ans S) (q : Ans (List A)) (r : ℕ) (y : List A) → Listed n (λ x. w (of x)) a m → ForOk a (λ _. length l ≡ n) → answer_by of a ≡ b → q ≡ (b >>= λ e. held (w e l))
      → (r ≡ status (answer m)) × (y ≡ stored l (answer m)) → (r ≡ status q) × (y ≡ stored l q)
  list_delivered a m b q r y h p e d g = delivered q (answer m) r l y g (list_is a m h p ∙ ap (λ (z : Ans S). z >>= λ e. held (w e l)) e ∙ sym d)

pub by_self : {T : Type 0} (a : Result T Refusal) → answer_by (λ x. x) a ≡ answer a
by_self (Ok x) = refl
by_self (Err r) = refl

pub radii_lengths_told : (l : Lent) → radii_lengths l ≡ true → (length l.values ≡ 6) × (length l.numbers ≡ 3)
unfolding radii_lengths
radii_lengths_told l p =
    let a = eqb (length l.values) 6 in
    let b = eqb (length l.numbers) 3 in
    (eqb-true (length l.values) 6 (and_parts a b p).0, eqb-true (length l.numbers) 3 (and_parts a b p).1)

module _ (n : ℕ) (l : List ℕ) where
  pub counts_1 : eqb (length l) 3 ≡ false → order_counts_out n l ≡ refused 1
  unfolding order_counts_out demand ◌>>=◌
  counts_1 p = rw p

  pub counts_is : eqb (length l) 3 ≡ true → order_counts_out n l ≡ (order_counts n >>= λ c. held (counts_written c l))
  unfolding order_counts_out demand ◌>>=◌
  counts_is p = rw p

module _ (x : Quantum.Lists) (l : QuantumLent) where
  pub parameters_1 : quantum_lengths l.m l.sheets l.orders ≡ false → vrq_parameters x l ≡ refused 1
  unfolding vrq_parameters demand ◌>>=◌
  parameters_1 p = rw p

  pub parameters_refused : (n : ℕ) → quantum_lengths l.m l.sheets l.orders ≡ true → Quantum.saft_vrq_mie_pars x ≡ refused n → vrq_parameters x l ≡ refused n
  unfolding vrq_parameters demand ◌>>=◌
  parameters_refused n p q = rw (p, q)

  pub parameters_held : (s : SaftVRQMiePars) → quantum_lengths l.m l.sheets l.orders ≡ true → Quantum.saft_vrq_mie_pars x ≡ held s → vrq_parameters x l ≡ held (set_written s l)
  unfolding vrq_parameters demand ◌>>=◌
  parameters_held s p q = rw (p, q)

module _ (s : QuantumLists) (t : Float) (l : Lent) where
  abbrev table_right : Bool
  table_right = right_lists s.count (length l.values) (length l.numbers)

  pub table_refused : (k : ℕ) → quantum_set table_right s ≡ refused k → vrq_table s t l ≡ refused k
  unfolding vrq_table ◌>>=◌
  table_refused k p = rw p

  table_is : (p : SaftVRQMiePars) → quantum_set table_right s ≡ held p → vrq_table s t l ≡ temperature_table p t l
  unfolding vrq_table ◌>>=◌
  table_is p q = rw q

  pub table_of : (x y : List Float) (o : List OrderRecord) → quantum_set table_right s ≡ held (record { count = s.count; m = x; sheets = y; orders = o }) → vrq_table s t l ≡ temperature_table (pairs_of s.count y o) t l
  unfolding temperature_table
  table_of x y o p = table_is (record { count = s.count; m = x; sheets = y; orders = o }) p

  module _ (i j : ℕ) where
    pub radii_1 : radii_lengths l ≡ false → vrq_radii s i j t l ≡ refused 1
    unfolding vrq_radii demand ◌>>=◌
    radii_1 p = rw p

    pub radii_is : radii_lengths l ≡ true → vrq_radii s i j t l ≡ (radii_asked s i j t >>= λ r. held (radii_written r l))
    unfolding vrq_radii demand ◌>>=◌
    radii_is p = rw p

module _ (s : QuantumLists) (t : Float) (x rho table : List Float) (wanted : Bool) (l : List Float) where
  pub energies_1 : eqb (length l) 3 ≡ false → vrq_energies s t x rho table wanted l ≡ refused 1
  unfolding vrq_energies demand ◌>>=◌
  energies_1 p = rw p

  pub energies_is : eqb (length l) 3 ≡ true → vrq_energies s t x rho table wanted l ≡ (energies_asked s t x rho table wanted >>= λ e. held (energies_written e l))
  unfolding vrq_energies demand ◌>>=◌
  energies_is p = rw p

module _ (s : QuantumLists) (t : Float) (x rho table : List Float) (wanted : Bool) (l : List Float) where
  pub energies_ends_1 : eqb (length l) 6 ≡ false → vrq_energies_ends s t x rho table wanted l ≡ refused 1
  unfolding vrq_energies_ends demand ◌>>=◌
  energies_ends_1 p = rw p

  pub energies_ends_is : eqb (length l) 6 ≡ true → vrq_energies_ends s t x rho table wanted l ≡ (ends_asked s t x rho table wanted >>= λ e. held (ends_written e l))
  unfolding vrq_energies_ends demand ◌>>=◌
  energies_ends_is p = rw p

module _ (s : QuantumLists) (i j : ℕ) (t sigma_eff r0 : Float) where
  pub diameter_set : (k : ℕ) → quantum_set (index_within s.count i j) s ≡ refused k → vrq_diameter s i j t sigma_eff r0 ≡ refused k
  unfolding vrq_diameter ◌>>=◌
  diameter_set k q = rw q

  pub diameter_is : (x : SaftVRQMiePars) → quantum_set (index_within s.count i j) s ≡ held x → vrq_diameter s i j t sigma_eff r0 ≡ Pairs.diameter_ij x i j t sigma_eff r0
  unfolding vrq_diameter ◌>>=◌
  diameter_is x q = rw q

  module _ (l : List Float) where
    pub diameter_ends_1 : eqb (length l) 2 ≡ false → vrq_diameter_ends s i j t sigma_eff r0 l ≡ refused 1
    unfolding vrq_diameter_ends demand ◌>>=◌
    diameter_ends_1 p = rw p

    pub diameter_ends_is : eqb (length l) 2 ≡ true → vrq_diameter_ends s i j t sigma_eff r0 l ≡ (diameter_ends_asked s i j t sigma_eff r0 >>= λ e. held (pair_written e l))
    unfolding vrq_diameter_ends demand ◌>>=◌
    diameter_ends_is p = rw p

module _ (x : Quantum.Lists) (t : Float) (fractions rho : List Float) (wanted : Bool) (l : List Float) where
  pub stage_1 : eqb (length l) 3 ≡ false → vrq_stage x t fractions rho wanted l ≡ refused 1
  unfolding vrq_stage demand ◌>>=◌
  stage_1 p = rw p

  pub stage_is : eqb (length l) 3 ≡ true → vrq_stage x t fractions rho wanted l ≡ (quantum_stage x t fractions rho wanted >>= λ e. held (energies_written e l))
  unfolding vrq_stage demand ◌>>=◌
  stage_is p = rw p

module _ (x : Mie.Lists) (l : MieLent) where
  pub mie_parameters_1 : mie_lengths l.lists l.sheets ≡ false → vr_parameters x l ≡ refused 1
  unfolding vr_parameters demand ◌>>=◌
  mie_parameters_1 p = rw p

  pub mie_parameters_refused : (n : ℕ) → mie_lengths l.lists l.sheets ≡ true → Mie.saft_vr_mie_pars x ≡ refused n → vr_parameters x l ≡ refused n
  unfolding vr_parameters demand ◌>>=◌
  mie_parameters_refused n p q = rw (p, q)

  pub mie_parameters_held : (s : SaftVRMiePars) → mie_lengths l.lists l.sheets ≡ true → Mie.saft_vr_mie_pars x ≡ held s → vr_parameters x l ≡ held (mie_written s l)
  unfolding vr_parameters demand ◌>>=◌
  mie_parameters_held s p q = rw (p, q)

module _ (s : MieLists) where
  pub diameters_refused : (t : Float) (l : List Float) (k : ℕ) → mie_set s ≡ refused k → vr_diameters s t l ≡ refused k
  unfolding vr_diameters ◌>>=◌
  diameters_refused t l k p = rw p

  -- the diameters read the sheets alone
  pub diameters_from : (t : Float) (l y : List Float) → mie_set s ≡ held (mie_read s) → y ≡ taken (6 * sheet) s.sheets 0 → vr_diameters s t l ≡ diameters s.count y t l
  unfolding vr_diameters ◌>>=◌ mie_read
  diameters_from t l y p e = rw (p, e)

  module _ (i j : ℕ) (t : Float) where
    pub radius_is : (r : Result Float Refusal) → answer_by (λ x. x) r ≡ (mie_set s >>= λ p. radius_ij p i j t) → answer r ≡ vr_radius s i j t
    unfolding vr_radius
    radius_is r e = sym (by_self r) ∙ e

    pub mie_diameter_is : (r0 : Float) (r : Result Float Refusal) → answer_by (λ x. x) r ≡ (mie_set s >>= λ p. diameter_ij p i j t r0) → answer r ≡ vr_diameter s i j t r0
    unfolding vr_diameter
    mie_diameter_is r0 r e = sym (by_self r) ∙ e

  module _ (t : Float) (x rho d : List Float) (chain : Bool) where
    pub dispersion_refused : (k : ℕ) → mie_set s ≡ refused k → vr_dispersion s t x rho d chain ≡ refused k
    unfolding vr_dispersion ◌>>=◌
    dispersion_refused k p = rw p

    pub dispersion_is : (y : SaftVRMiePars) → mie_set s ≡ held y → vr_dispersion s t x rho d chain ≡ energy y t x rho d chain
    unfolding vr_dispersion ◌>>=◌
    dispersion_is y p = rw p

    module _ (l : List Float) where
      pub mie_dispersion_ends_1 : eqb (length l) 2 ≡ false → vr_dispersion_ends s t x rho d chain l ≡ refused 1
      unfolding vr_dispersion_ends demand ◌>>=◌
      mie_dispersion_ends_1 p = rw p

      pub mie_dispersion_ends_is : eqb (length l) 2 ≡ true → vr_dispersion_ends s t x rho d chain l ≡ ((mie_set s >>= λ p. dispersion_ends port p t x rho d chain) >>= λ e. held (pair_written e l))
      unfolding vr_dispersion_ends demand ◌>>=◌
      mie_dispersion_ends_is p = rw p (sym (bind_bind (mie_set s) (λ p. dispersion_ends port p t x rho d chain) (λ e. held (pair_written e l))))

  module _ (i j : ℕ) (t r0 : Float) (l : List Float) where
    pub mie_diameter_ends_1 : eqb (length l) 2 ≡ false → vr_diameter_ends s i j t r0 l ≡ refused 1
    unfolding vr_diameter_ends demand ◌>>=◌
    mie_diameter_ends_1 p = rw p

    pub mie_diameter_ends_is : eqb (length l) 2 ≡ true → vr_diameter_ends s i j t r0 l ≡ ((mie_set s >>= λ p. MieDiameter.diameter_ends port p i j t r0) >>= λ e. held (pair_written e l))
    unfolding vr_diameter_ends demand ◌>>=◌
    mie_diameter_ends_is p = rw p (sym (bind_bind (mie_set s) (λ p. MieDiameter.diameter_ends port p i j t r0) (λ e. held (pair_written e l))))
