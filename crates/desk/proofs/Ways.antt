-- The calls of the desk, step by step over plain values. Assumes nothing.
use Prim.Native.Nat.{ℕ, zero, suc, ◌+◌, ◌-◌, ◌*◌, ◌≤◌, ◌<◌}
use Rattle.std.specs.Prelude.{Err, Ok, Result, None, Some}
use Rattle.std.specs.Prelude as Std
use Rattle.std.specs.Prelude.{ok_or}
use Rattle.number.specs.declared.refusal.Refusal.{Refusal}
use Rattle.number.specs.declared.refusal.Refusal.TheVariants.{Occupied}
use Rattle.number.specs.Answer.{code}
use native.Mathlib.Omega.{arith}
use mathlib.Core.Path.{◌≡◌, refl, sym, ap, ◌∙◌, subst}
use mathlib.Core.Bool.{Bool, true, false, not, ◌&&◌, cond}
use mathlib.Core.Option.{Option, none, some}
use mathlib.Core.List.{List, ◌++◌, append-nil}
use lib.Ieee.{Float}
use lib.ListN.{length, get_or, set, take, drop, replicate, length-replicate, drop_of_length-le}
use lib.Dec.{eqb}
use borrow.Author.Tests.{eq-eqb, ne_eqb, eqb-true, eqb-false}
use Rattle.number.specs.Ans.{Ans, held, refused, ◌>>=◌, demand}
use Rattle.limits.specs.Limits.{state_within}
use Rattle.mie_parameters.specs.Answer.{outcome, verdict, stored}
use Rattle.saftvrqmie_parameters.specs.declared.SaftVRQMiePars.{SaftVRQMiePars}
use Rattle.saftvrqmie_energies.specs.Energies.{EnergiesIn}
use Rattle.set_lists.specs.Sets.{QuantumLists, quantum_set}
use Rattle.round_robin.specs.Desk.{places, above, seek, Step, going, done, idle, worked, finished, leaves, serve, submit, next, lowest}
use Rattle.desk_place.specs.Layout.{over, Lists, place_floats, place_bytes, waits_in}
use Rattle.desk_place.specs.Place.{Query, enter, unit, place_left, step_told}
use Rattle.desk_place.proofs.Parts.{back, back_over}
use Rattle.desk.specs.Desk.{last_at, right_desk, occupied_in, place_of, placed, found, shelf, quantum, state_lengths, door, begun, submitted, served_once, told_of, desk_of, place_told, entered_of}
use Rattle.desk.proofs.Shelf.{lists_are, Right, Whole, whole_at}
use Rattle.desk.proofs.Held.{unit_whole}
use Rattle.desk.proofs.Entering.{g5, le}
use Rattle.round_robin.proofs.Bound.{left_in}
use Rattle.round_robin.proofs.Seek.{seek_most}
use Rattle.desk.proofs.Held.{Passed, door_passed}
use Rattle.desk_place.specs.Place.{floats_entered, bytes_entered}
use Rattle.desk_place.proofs.Parts.{part_length}
use Rattle.desk_place.proofs.Steps.{part_to}
use Rattle.sizes.specs.Sizes.{side}
use Rattle.set_lists.proofs.Sets.{Lengths}
use Rattle.set_lists.specs.Sets.{quantum_lengths}
use Rattle.limits.specs.Limits.{count_within}
use Rattle.number.proofs.Walk.{then_held}

-- ---- the search

-- its answer, at a place and at none
pub found_at : (k s : ℕ) → k < places → k ≡ s → Some k ≡ found s
unfolding found
found_at k s h e = rw (← e, ne_eqb k places (λ z. omega (arith, z, h)))

pub found_none : (s : ℕ) → places ≡ s → None ≡ found s
unfolding found
found_none s e = rw (eq-eqb s places (sym e))

pub is_found : (s k : ℕ) → ◌≡◌ {A = Std.Option ℕ} (Some k) (found s) → (k ≡ s) × (k ≡ places → ⊥)
unfolding found
is_found s k h = by (eqb s places) refl h
  where
    by : (t : Bool) → eqb s places ≡ t → ◌≡◌ {A = Std.Option ℕ} (Some k) (cond t None (Some s)) → (k ≡ s) × (k ≡ places → ⊥)
    by true e h = let z : ◌≡◌ {A = ℕ} 0 1 = cc in absurd (omega arith)
    by false e h = let p : k ≡ s = cc in (p, λ z. eqb-false s places e (sym p ∙ z))

pub is_none : (s : ℕ) → ◌≡◌ {A = Std.Option ℕ} None (found s) → s ≡ places
unfolding found
is_none s h = by (eqb s places) refl h
  where
    by : (t : Bool) → eqb s places ≡ t → ◌≡◌ {A = Std.Option ℕ} None (cond t None (Some s)) → s ≡ places
    by true e h = eqb-true s places e
    by false e h = let z : ◌≡◌ {A = ℕ} 0 1 = cc in absurd (omega arith)

-- what `ok_or` makes of it
pub none_told : (o : Std.Option ℕ) {e : Refusal} → ◌≡◌ {A = Result ℕ Refusal} (ok_or o Occupied) (Err e) → (o ≡ None) × (e ≡ Occupied)
none_told None h = (refl, cc)
none_told (Some k) h = let z : ◌≡◌ {A = ℕ} 0 1 = cc in absurd (omega arith)

pub some_told : (o : Std.Option ℕ) {k : ℕ} → ◌≡◌ {A = Result ℕ Refusal} (ok_or o Occupied) (Ok k) → o ≡ Some k
some_told None h = let z : ◌≡◌ {A = ℕ} 0 1 = cc in absurd (omega arith)
some_told (Some j) {k} h = let e : j ≡ k = cc in ap Some e

-- what the search ends at, where it ends at a place
pub seek_passes : (test : ℕ → Bool) (n p : ℕ) → (seek n test p ≡ places → ⊥) → test (seek n test p) ≡ true
unfolding seek
seek_passes test zero p h = absurd (h refl)
seek_passes test (suc n) p h = here (test p) refl (seek_passes test n (above p))
  where
    here : (b : Bool) → test p ≡ b → ((seek n test (above p) ≡ places → ⊥) → test (seek n test (above p)) ≡ true) → test (seek (suc n) test p) ≡ true
    here true q again = rw q q
    here false q again = rw q (again (λ e. h (rw q e)))

pub found_small : (test : ℕ → Bool) (p k : ℕ) → p < places → k ≡ seek places test p → (k ≡ places → ⊥) → k < places
found_small test p k h e n = let m = seek_most test places p h in omega (arith, m, e, n)

pub found_passes : (test : ℕ → Bool) (p k : ℕ) → k ≡ seek places test p → (k ≡ places → ⊥) → test k ≡ true
found_passes test p k e n = subst (λ (m : ℕ). test m ≡ true) (sym e) (seek_passes test places p (λ z. n (e ∙ z)))

-- ---- begin

pub begun_1 : (l : Lists) → right_desk (length l.floats) (length l.bytes) ≡ false → (refused 1 ≡ verdict (begun l)) × (l ≡ stored l (begun l))
unfolding begun verdict stored demand ◌>>=◌
begun_1 l h = rw h (refl, refl)

pub begun_is : (l : Lists) (f : List Float) (y : List ℕ) → right_desk (length l.floats) (length l.bytes) ≡ true → f ≡ l.floats → y ≡ replicate (last_at + 1) 0
    → (held true ≡ verdict (begun l)) × (record { floats = f; bytes = set y last_at 15 } ≡ stored l (begun l))
unfolding begun verdict stored demand ◌>>=◌
begun_is l f y h e g = rw h (refl, lists_are _ _ _ _ e (ap (λ (z : List ℕ). set z last_at 15) g))

-- ---- the door

two_refused : {t : Bool} → t ≡ false → verdict (demand 2 t) ≡ refused 2
unfolding verdict demand
two_refused f = rw f

two_held : {t : Bool} → t ≡ true → verdict (demand 2 t) ≡ held true
unfolding verdict demand
two_held f = rw f

module _ (q : Query) (b : Bool) (is : b ≡ state_lengths q.lists.count q.fractions q.densities) (r : Result (Unit {0}) Refusal) (p : outcome r true ≡ verdict (quantum_set b q.lists)) where
  asked : outcome r true ≡ verdict (quantum_set (state_lengths q.lists.count q.fractions q.densities) q.lists)
  asked = p ∙ ap (λ (z : Bool). verdict (quantum_set z q.lists)) is

  door_step : (a : Ans SaftVRQMiePars) (t : Bool) (n : ℕ) → refused n ≡ verdict a → refused n ≡ verdict (a >>= λ _. demand 2 t)
  unfolding verdict ◌>>=◌
  door_step (held x) t n e = absurd (never e)
    where
      never : ◌≡◌ {A = Ans Bool} (refused n) (held true) → ⊥
      never e = let z : ◌≡◌ {A = ℕ} 0 1 = cc in omega arith
  door_step (refused m) t n e = e

  pub door_refuses : {n : Refusal} → r ≡ Err n → refused (code n) ≡ verdict (door q)
  unfolding door
  door_refuses h = door_step (quantum_set (state_lengths q.lists.count q.fractions q.densities) q.lists) _ _ (rw h at asked)

  held_step : (a : Ans SaftVRQMiePars) (t : Bool) → held true ≡ verdict a → verdict (a >>= λ _. demand 2 t) ≡ verdict (demand 2 t)
  unfolding verdict ◌>>=◌
  held_step (held x) t e = refl
  held_step (refused m) t e = absurd (never e)
    where
      never : ◌≡◌ {A = Ans Bool} (held true) (refused m) → ⊥
      never e = let z : ◌≡◌ {A = ℕ} 0 1 = cc in omega arith

  door_goes : {u : Unit {0}} → r ≡ Ok u → verdict (door q) ≡ verdict (demand 2 (state_within q.lists.count q.temperature q.fractions q.densities))
  unfolding door
  door_goes h = held_step (quantum_set (state_lengths q.lists.count q.fractions q.densities) q.lists) _ (rw h at asked)

  pub door_2 : {u : Unit {0}} → r ≡ Ok u → state_within q.lists.count q.temperature q.fractions q.densities ≡ false → refused 2 ≡ verdict (door q)
  door_2 h f = sym (door_goes h ∙ two_refused f)

  pub door_holds : {u : Unit {0}} → r ≡ Ok u → state_within q.lists.count q.temperature q.fractions q.densities ≡ true → held true ≡ verdict (door q)
  door_holds h f = sym (door_goes h ∙ two_held f)

-- ---- submit

module _ (l : Lists) (q : Query) where
  pub submit_1 : right_desk (length l.floats) (length l.bytes) ≡ false → (refused 1 ≡ place_told (submitted l q)) × (l ≡ entered_of l (submitted l q))
  unfolding submitted place_told entered_of demand ◌>>=◌
  submit_1 h = rw h (refl, refl)

  module _ (right : right_desk (length l.floats) (length l.bytes) ≡ true) where
    by_door : (a : Ans Bool) (n : ℕ) → refused n ≡ verdict a → a ≡ refused n
    unfolding verdict
    by_door (held x) n h = absurd (never h)
      where
        never : ◌≡◌ {A = Ans Bool} (refused n) (held true) → ⊥
        never e = let z : ◌≡◌ {A = ℕ} 0 1 = cc in omega arith
    by_door (refused m) n h = cc

    door_opened : (a : Ans Bool) → held true ≡ verdict a → (x : Bool) × (a ≡ held x)
    unfolding verdict
    door_opened (held x) h = (x, refl)
    door_opened (refused m) h = absurd (never h)
      where
        never : ◌≡◌ {A = Ans Bool} (held true) (refused m) → ⊥
        never e = let z : ◌≡◌ {A = ℕ} 0 1 = cc in omega arith

    pub submit_door : (r : Result (Unit {0}) Refusal) {n : Refusal} → outcome r true ≡ verdict (door q) → r ≡ Err n → (refused (code n) ≡ place_told (submitted l q)) × (l ≡ entered_of l (submitted l q))
    unfolding submitted submit place_told entered_of demand ◌>>=◌
    submit_door r e h = rw (right, by_door (door q) _ (rw h at e)) (refl, refl)

    module _ (r : Result (Unit {0}) Refusal) {u : Unit {0}} (e : outcome r true ≡ verdict (door q)) (h : r ≡ Ok u) (k : ℕ) (found : k ≡ seek places (λ k. not (occupied_in l.bytes k)) 0) where
      pub submit_17 : k ≡ places → (refused 17 ≡ place_told (submitted l q)) × (l ≡ entered_of l (submitted l q))
      unfolding submitted submit lowest place_told entered_of demand ◌>>=◌
      submit_17 z = rw (right, (door_opened (door q) (rw h at e)).1, ← found, eq-eqb k places z) (refl, refl)

      pub submit_at : (s : Lists) → (k ≡ places → ⊥) → s ≡ placed l k (enter q (place_of l k)) → (held k ≡ place_told (submitted l q)) × (s ≡ entered_of l (submitted l q))
      unfolding submitted submit lowest place_told entered_of demand ◌>>=◌
      submit_at s z d = rw (right, (door_opened (door q) (rw h at e)).1, ← found, ne_eqb k places z) (refl, d)

-- ---- serve

module _ (l : Lists) where
  pub serve_1 : right_desk (length l.floats) (length l.bytes) ≡ false → (refused 1 ≡ told_of (served_once l)) × (l ≡ desk_of l (served_once l))
  unfolding served_once told_of desk_of demand ◌>>=◌
  serve_1 h = rw h (refl, refl)

  module _ (right : right_desk (length l.floats) (length l.bytes) ≡ true) (a f k : ℕ) (ea : a ≡ get_or l.bytes last_at 0) (ef : f ≡ above a) (found : k ≡ seek places (λ k. occupied_in l.bytes k) f) where
    is_next : k ≡ next shelf quantum l
    unfolding next
    is_next = found ∙ ap (λ (z : ℕ). seek places (λ k. occupied_in l.bytes k) z) (ef ∙ ap above ea)

    pub serve_idle : k ≡ places → (held idle ≡ told_of (served_once l)) × (l ≡ desk_of l (served_once l))
    unfolding served_once serve told_of desk_of demand ◌>>=◌
    serve_idle z = rw (right, ← is_next, eq-eqb k places z) (refl, refl)

    pub serve_on : (t : Rattle.round_robin.specs.Desk.Told (Ans (EnergiesIn Float))) (s : Lists) → (k ≡ places → ⊥) → t ≡ (leaves shelf quantum l k (unit (place_of l k))).told → s ≡ (leaves shelf quantum l k (unit (place_of l k))).desk
        → (held t ≡ told_of (served_once l)) × (s ≡ desk_of l (served_once l))
    unfolding served_once serve told_of desk_of demand ◌>>=◌
    serve_on t s z e d = rw (right, ← is_next, ne_eqb k places z) (ap held e, d)

-- a unit's place back in the desk
module _ (l : Lists) (k : ℕ) where
  abbrev after : List Float → List ℕ → Lists
  after y z = record { floats = over (place_floats * k) y l.floats; bytes = set (over (place_bytes * k) z l.bytes) last_at k }

  leave : (s : Step Lists (Ans (EnergiesIn Float))) (y : List Float) (z : List ℕ) → record { floats = y; bytes = z } ≡ place_left s → after y z ≡ (leaves shelf quantum l k s).desk
  unfolding leaves place_left
  leave (going p) y z e = ap (λ (p : Lists). after p.floats p.bytes) e
  leave (done p a) y z e = ap (λ (p : Lists). after p.floats p.bytes) e

  pub left_on : (s : Step Lists (Ans (EnergiesIn Float))) → none ≡ step_told s → worked ≡ (leaves shelf quantum l k s).told
  unfolding leaves step_told
  left_on (going p) e = refl
  left_on (done p a) e = absurd (never e)
    where
      never : ◌≡◌ {A = Option (Ans (EnergiesIn Float))} none (some a) → ⊥
      never e = let z : ◌≡◌ {A = ℕ} 0 1 = cc in omega arith

  pub left_done : (s : Step Lists (Ans (EnergiesIn Float))) (b : Ans (EnergiesIn Float)) → some b ≡ step_told s → finished k b ≡ (leaves shelf quantum l k s).told
  unfolding leaves step_told
  left_done (going p) b e = absurd (never (sym e))
    where
      never : ◌≡◌ {A = Option (Ans (EnergiesIn Float))} none (some b) → ⊥
      never e = let z : ◌≡◌ {A = ℕ} 0 1 = cc in omega arith
  left_done (done p a) b e = ap (λ (x : Option (Ans (EnergiesIn Float))). finished k (or x)) e
    where
      or : Option (Ans (EnergiesIn Float)) → Ans (EnergiesIn Float)
      or none = b
      or (some x) = x

  -- the parts as the code lends them: from a to a + n
  pub left_desk : (s : Step Lists (Ans (EnergiesIn Float))) (y : List Float) (z : List ℕ) → length y ≡ place_floats → length z ≡ place_bytes → record { floats = y; bytes = z } ≡ place_left s
      → record { floats = back (place_floats * k) place_floats l.floats y; bytes = set (back (place_bytes * k) place_bytes l.bytes z) last_at k } ≡ (leaves shelf quantum l k s).desk
  left_desk s y z hy hz e =
      lists_are _ _ _ _ (back_over (place_floats * k) place_floats l.floats y hy) (ap (λ (b : List ℕ). set b last_at k) (back_over (place_bytes * k) place_bytes l.bytes z hz)) ∙ leave s y z e

  pub put_desk : (p : Lists) (y : List Float) (z : List ℕ) → length y ≡ place_floats → length z ≡ place_bytes → record { floats = y; bytes = z } ≡ p
      → record { floats = back (place_floats * k) place_floats l.floats y; bytes = back (place_bytes * k) place_bytes l.bytes z } ≡ placed l k p
  put_desk p y z hy hz e =
      lists_are _ _ _ _ (back_over (place_floats * k) place_floats l.floats y hy) (back_over (place_bytes * k) place_bytes l.bytes z hz) ∙ ap (λ (p : Lists). placed l k p) e

-- ---- parts from a to a + n, as the code lends them

abbrev pub lent : {A : Type 0} → ℕ → ℕ → List A → List A
lent a n l = take (a + n - a) (drop a l)

abbrev pub given_back : {A : Type 0} → ℕ → ℕ → List A → List A → List A
given_back a n l y = take a l ++ (y ++ drop (a + n - a) (drop a l))

pub lent_length : {A : Type 0} (a n : ℕ) (l : List A) → a + n ≤ length l → length (lent a n l) ≡ n
lent_length a n l h = ap length (part_to a n l) ∙ part_length a n l h

given_back_is : {A : Type 0} (a n : ℕ) (l y : List A) → given_back a n l y ≡ back a n l y
given_back_is a n l y = let e : a + n - a ≡ n = omega arith in rw e

module _ (l : Lists) (k : ℕ) (r : Right l) (h : k < places) where
  abbrev pub lent_place : Lists
  lent_place = record { floats = lent (place_floats * k) place_floats l.floats; bytes = lent (place_bytes * k) place_bytes l.bytes }

  place_is : lent_place ≡ place_of l k
  place_is = lists_are _ _ _ _ (part_to (place_floats * k) place_floats l.floats) (part_to (place_bytes * k) place_bytes l.bytes)

  pub floats_long : length (lent (place_floats * k) place_floats l.floats) ≡ place_floats
  floats_long = lent_length (place_floats * k) place_floats l.floats (let a = r.floats in omega (arith, a, h))

  pub bytes_long : length (lent (place_bytes * k) place_bytes l.bytes) ≡ place_bytes
  bytes_long = lent_length (place_bytes * k) place_bytes l.bytes (let a = r.bytes in omega (arith, a, h))

  pub waits_lent : occupied_in l.bytes k ≡ true → waits_in (lent (place_bytes * k) place_bytes l.bytes) ≡ true
  waits_lent e = ap waits_in (part_to (place_bytes * k) place_bytes l.bytes) ∙ e

  back_desk : (y : List Float) (z : List ℕ)
      → ◌≡◌ {A = Lists} (record { floats = given_back (place_floats * k) place_floats l.floats y; bytes = set (given_back (place_bytes * k) place_bytes l.bytes z) last_at k })
      (record { floats = back (place_floats * k) place_floats l.floats y; bytes = set (back (place_bytes * k) place_bytes l.bytes z) last_at k })
  back_desk y z = lists_are _ _ _ _ (given_back_is (place_floats * k) place_floats l.floats y) (ap (λ (b : List ℕ). set b last_at k) (given_back_is (place_bytes * k) place_bytes l.bytes z))

  left_same : (s : Step Lists (Ans (EnergiesIn Float))) → left_in s ≡ place_left s
  unfolding place_left
  left_same (going p) = refl
  left_same (done p a) = refl

  pub serve_here : (y : List Float) (z : List ℕ) → record { floats = y; bytes = z } ≡ place_left (unit lent_place)
      → record { floats = given_back (place_floats * k) place_floats l.floats y; bytes = set (given_back (place_bytes * k) place_bytes l.bytes z) last_at k } ≡ (leaves shelf quantum l k (unit (place_of l k))).desk
  serve_here y z e =
      let f : record { floats = y; bytes = z } ≡ place_left (unit (place_of l k)) = e ∙ ap (λ (p : Lists). place_left (unit p)) place_is in
      let w = subst Whole (left_same (unit (place_of l k)) ∙ sym f) (unit_whole (place_of l k) (whole_at l k r h)) in
      back_desk y z ∙ left_desk l k (unit (place_of l k)) y z w.floats w.bytes f

  pub here_on : none ≡ step_told (unit lent_place) → worked ≡ (leaves shelf quantum l k (unit (place_of l k))).told
  here_on e = left_on l k (unit (place_of l k)) (e ∙ ap (λ (p : Lists). step_told (unit p)) place_is)

  pub here_done : (b : Ans (EnergiesIn Float)) → some b ≡ step_told (unit lent_place) → finished k b ≡ (leaves shelf quantum l k (unit (place_of l k))).told
  here_done b e = left_done l k (unit (place_of l k)) b (e ∙ ap (λ (p : Lists). step_told (unit p)) place_is)

  pub enter_here : (q : Query) (y : List Float) (z : List ℕ) → Lengths q.lists.m q.lists.sheets q.lists.orders → q.lists.count ≤ side → length q.fractions ≡ q.lists.count → length q.densities ≡ q.lists.count
      → y ≡ floats_entered q.lists.m q.lists.sheets q.temperature q.fractions q.densities (lent (place_floats * k) place_floats l.floats)
      → z ≡ bytes_entered q.lists.count q.lists.orders q.wanted (lent (place_bytes * k) place_bytes l.bytes)
      → record { floats = given_back (place_floats * k) place_floats l.floats y; bytes = given_back (place_bytes * k) place_bytes l.bytes z } ≡ placed l k (enter q (place_of l k))
  unfolding floats_entered bytes_entered
  enter_here q y z d c lx lr ey ez =
      let p = lent_place in
      let fy = ap length ey ∙ g5 p.floats q.lists.m q.lists.sheets q.fractions q.densities q.temperature floats_long d.places d.flat q.lists.count lx lr c in
      let fz = ap length ez ∙ le p.bytes q.lists.orders q.lists.count q.wanted bytes_long d.records in
      lists_are _ _ _ _ (given_back_is (place_floats * k) place_floats l.floats y) (given_back_is (place_bytes * k) place_bytes l.bytes z)
      ∙ put_desk l k (enter q (place_of l k)) y z fy fz (lists_are _ _ _ _ ey ez ∙ ap (λ (p : Lists). enter q p) place_is)

-- ---- what an answer that holds says of its test

pub opened : {X : Type 0} (a : Ans X) → held true ≡ verdict a → (x : X) × (a ≡ held x)
unfolding verdict
opened (held x) h = (x, refl)
opened (refused m) h = absurd (never h)
  where
    never : ◌≡◌ {A = Ans Bool} (held true) (refused m) → ⊥
    never e = let z : ◌≡◌ {A = ℕ} 0 1 = cc in omega arith

pub let_in : (q : Query) (r : Result (Unit {0}) Refusal) {u : Unit {0}} → outcome r true ≡ verdict (door q) → r ≡ Ok u → Passed q
let_in q r e h = let o = opened (door q) (rw h at e) in door_passed q o.0 o.1
