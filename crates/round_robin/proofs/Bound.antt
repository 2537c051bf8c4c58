-- How long a query waits, and with what it is finished: for any desk whose places keep apart, and any work whose units come to an end. Assumes nothing.
use Prim.Native.Nat.{ℕ, zero, suc, ◌+◌, ◌-◌, ◌*◌, ◌≤◌, ◌<◌}
use native.Mathlib.Omega.{arith}
use mathlib.Core.Path.{◌≡◌, refl, sym, ap, ◌∙◌, subst}
use mathlib.Core.Bool.{Bool, true, false, not, true≢false}
use mathlib.Core.List.{List, [], ◌∷◌}
use mathlib.Core.Option.{Option, some}
use lib.Dec.{eqb}
use borrow.Author.Tests.{eqb-true, eqb-false, eq-eqb, ne_eqb, not-true, not-false}
use Rattle.number.specs.Ans.{Ans, held, refused, ◌>>=◌, demand}
use Rattle.round_robin.specs.Desk.{places, above, seek, Step, going, done, Shelf, Work, Told, finished, Served, Entered, Call, submitting, serving, serves, occupied, free, next, lowest, leaves, serve, submit, kept, heard, outcome}
use Rattle.round_robin.proofs.Seek.{above_small, steps, all_round, near, seek_finds, seek_lowest}

-- what a unit leaves
abbrev pub left_in : {P A : Type 0} → Step P A → P
left_in (going p) = p
left_in (done p a) = p

-- a desk of the right size keeps its places apart
pub record Apart {S P : Type 0} (D : Shelf S P) : Type 1 where
  pub Right : S → Type 0
  pub Whole : P → Type 0
  pub whole : (s : S) (k : ℕ) → Right s → k < places → Whole (D.place s k)
  pub put_right : (s : S) (k : ℕ) (p : P) → Right s → k < places → Whole p → Right (D.put s k p)
  pub put_same : (s : S) (k : ℕ) (p : P) → Right s → k < places → Whole p → D.place (D.put s k p) k ≡ p
  pub put_other : (s : S) (k j : ℕ) (p : P) → Right s → k < places → j < places → Whole p → (j ≡ k → ⊥) → D.place (D.put s k p) j ≡ D.place s j
  pub put_last : (s : S) (k : ℕ) (p : P) → Right s → k < places → Whole p → D.last (D.put s k p) ≡ D.last s
  pub served_right : (s : S) (k : ℕ) → Right s → Right (D.served s k)
  pub served_place : (s : S) (k j : ℕ) → Right s → j < places → D.place (D.served s k) j ≡ D.place s j
  pub served_last : (s : S) (k : ℕ) → Right s → D.last (D.served s k) ≡ k

-- a unit of query q, of which u are left: one less is left, or the answer is q's own
pub data Goes {P A : Type 0} (Holds : P → ℕ → Type 0) (answer : A) : ℕ → Step P A → Type 0 where
  goes : {p : P} {u : ℕ} → Holds p u → Goes Holds answer (suc u) (going p)
  ends : {p : P} {u : ℕ} {a : A} → a ≡ answer → Goes Holds answer (suc u) (done p a)

-- work whose units keep to their place and come to an end: `Holds q p u`, place p holds query q with at most u units left
pub record Ends {S P Q A : Type 0} (D : Shelf S P) (W : Work P Q A) (K : Apart D) : Type 1 where
  pub Holds : Q → P → ℕ → Type 0
  pub units : Q → ℕ
  pub answer : Q → A
  pub unit_whole : (p : P) → K.Whole p → W.waits p ≡ true → K.Whole (left_in (W.unit p))
  pub enter_whole : (q : Q) (p : P) → K.Whole p → W.door q ≡ held true → K.Whole (W.enter q p)
  pub enter_holds : (q : Q) (p : P) → K.Whole p → W.door q ≡ held true → Holds q (W.enter q p) (units q)
  pub door_held : (q : Q) (b : Bool) → W.door q ≡ held b → W.door q ≡ held true
  pub waiting : (q : Q) (p : P) (u : ℕ) → Holds q p u → W.waits p ≡ true
  pub unit_goes : (q : Q) (p : P) (u : ℕ) → K.Whole p → Holds q p u → Goes (Holds q) (answer q) u (W.unit p)

module _ {S P Q A : Type 0} (D : Shelf S P) (W : Work P Q A) (K : Apart D) (E : Ends D W K) where
  open K use {Right, Whole, whole, put_right, put_same, put_other, put_last, served_right, served_place, served_last}
  open E use {Holds, units, answer, unit_whole, enter_whole, enter_holds, door_held, waiting, unit_goes}

  -- ---- a submission

  -- what an accepted query finds: a free place, which it takes
  pub record Accepted (s : S) (q : Q) (e : Entered S) : Type 0 where
    pub small : e.place < places
    pub was_free : W.waits (D.place s e.place) ≡ false
    pub below : (j : ℕ) → j < e.place → W.waits (D.place s j) ≡ true
    pub passed : W.door q ≡ held true
    pub is : e.desk ≡ D.put s e.place (W.enter q (D.place s e.place))

  then_held : {X Y : Type 0} (a : Ans X) (f : X → Ans Y) (y : Y) → (a >>= f) ≡ held y → (x : X) × (a ≡ held x) × (f x ≡ held y)
  then_held a f y p = Rattle.number.proofs.Walk.then_held a f y p

  demanded : (n : ℕ) (t b : Bool) → demand n t ≡ held b → t ≡ true
  unfolding demand
  demanded n true b p = refl
  demanded n false b p = absurd (never p)
    where
      never : refused n ≡ held b → ⊥
      never p = let z : ◌≡◌ {A = ℕ} 0 1 = cc in omega arith

  pub accepted : (s : S) (q : Q) (e : Entered S) → submit D W s q ≡ held e → Accepted s q e
  unfolding submit lowest
  accepted s q e p =
      let k = seek places (free D W s) 0 in
      let h = then_held (W.door q) _ e p in
      let g = then_held (demand 17 (not (eqb k places))) _ e h.2 in
      let i = Rattle.number.proofs.Walk.held_inj _ e g.2 in
      let l = seek_lowest (free D W s) places 0 (omega arith) in
      let f = eqb-false k places (not-true _ (demanded 17 (not (eqb k places)) g.0 g.1)) in
      let m = l.most in
      let small : k < places = omega (arith, m, f) in
      let c : k ≡ e.place = ap (λ (x : Entered S). x.place) i in
      record {
        small = subst (λ (n : ℕ). n < places) c small;
        was_free = subst (λ (n : ℕ). W.waits (D.place s n) ≡ false) c (not-true _ (l.passes small));
        below = λ j b. not-false _ (l.before j (omega arith) (subst (λ (n : ℕ). j < n) (sym c) b));
        passed = door_held q h.0 h.1;
        is = sym (ap (λ (x : Entered S). x.desk) i) ∙ ap (λ (n : ℕ). D.put s n (W.enter q (D.place s n))) c;
      }

  -- ---- a desk on which place k holds query q

  pub record Holding (q : Q) (k u d : ℕ) (s : S) : Type 0 where
    pub right : Right s
    pub holds : Holds q (D.place s k) u
    pub way : steps d (above (D.last s)) ≡ k

  -- a submission leaves it so
  kept_holding : (q q' : Q) (k u d : ℕ) (s : S) (a : Ans (Entered S)) → k < places → submit D W s q' ≡ a → Holding q k u d s → Holding q k u d (kept D W s a)
  unfolding kept
  kept_holding q q' k u d s (refused n) h p c = c
  kept_holding q q' k u d s (held e) h p c =
      let a = accepted s q' e p in
      let r = c.right in
      let w = enter_whole q' _ (whole s e.place r a.small) a.passed in
      let apart : k ≡ e.place → ⊥ = λ i. true≢false (sym (waiting q _ u c.holds) ∙ ap (λ (n : ℕ). W.waits (D.place s n)) i ∙ a.was_free) in
      rw a.is
      (record {
        right = put_right s e.place _ r a.small w;
        holds = subst (λ (p : P). Holds q p u) (sym (put_other s e.place k _ r a.small h w apart)) c.holds;
        way = subst (λ (n : ℕ). steps d (above n) ≡ k) (sym (put_last s e.place _ r a.small w)) c.way;
      })

  -- ---- a call of serve

  leaves_desk : (s : S) (j : ℕ) (t : Step P A) → (leaves D W s j t).desk ≡ D.served (D.put s j (left_in t)) j
  unfolding leaves
  leaves_desk s j (going p) = refl
  leaves_desk s j (done p a) = refl

  leaves_heard : (s : S) (j k : ℕ) (t : Step P A) (later : Option A) → (k ≡ j → ⊥) → heard D W k (leaves D W s j t).told later ≡ later
  unfolding leaves heard
  leaves_heard s j k (going p) later h = refl
  leaves_heard s j k (done p a) later h = rw (ne_eqb j k (λ e. h (sym e)))

  -- the desk after a unit in place j
  after_unit : (s : S) (j : ℕ) (p : P) → Right s → j < places → Whole p → (Right (D.served (D.put s j p) j)) × (D.place (D.served (D.put s j p) j) j ≡ p) × (D.last (D.served (D.put s j p) j) ≡ j)
  after_unit s j p r h w =
      let r' = put_right s j p r h w in
      (served_right _ j r', served_place _ j j r' h ∙ put_same s j p r h w, served_last _ j r')

  -- it finishes place k with its answer, or k holds on and is nearer
  pub data Serves (q : Q) (k u d : ℕ) (r : Served S A) : Type 0 where
    over : r.told ≡ finished k (answer q) → Serves q k u d r
    on : (v e : ℕ) → places * v + e < places * u + d → e < places → Holding q k v e r.desk → ((later : Option A) → heard D W k r.told later ≡ later) → Serves q k u d r

  own_unit : (q : Q) (k u d : ℕ) (s : S) (t : Step P A) → k < places → d < places → Right s → Whole (left_in t) → Goes (Holds q) (answer q) u t → Serves q k u d (leaves D W s k t)
  unfolding leaves heard
  own_unit q k zero d s t h b r w x5 = elim x5 [ ]
  own_unit q k (suc u) d s (going p) h b r w (goes x) =
      let f = after_unit s k p r h w in
      on u 15 (omega arith) (omega arith)
      (record {
        right = f.0;
        holds = subst (λ (p : P). Holds q p u) (sym f.1) x;
        way = subst (λ (n : ℕ). steps 15 (above n) ≡ k) (sym f.2) (all_round k h);
      })
      (λ later. refl)
  own_unit q k (suc u) d s (done p a) h b r w (ends x) = over (ap (finished k) x)

  other_unit : (q : Q) (j k u d e : ℕ) (s : S) (t : Step P A) → k < places → j < places → (k ≡ j → ⊥) → Right s → Whole (left_in t) → Holds q (D.place s k) u → steps e (above j) ≡ k → e < d → d < places → Serves q k u d (leaves D W s j t)
  other_unit q j k u d e s t h g x r w c y z b =
      let f = after_unit s j (left_in t) r g w in
      let l = leaves_desk s j t in
      let r' = put_right s j (left_in t) r g w in
      let o = served_place _ j k r' h ∙ put_other s j k (left_in t) r g h w x in
      on u e (omega arith) (omega arith)
      (rw l
      (record {
        right = f.0;
        holds = subst (λ (p : P). Holds q p u) (sym o) c;
        way = subst (λ (n : ℕ). steps e (above n) ≡ k) (sym f.2) y;
      }))
      (λ later. leaves_heard s j k t later x)

  nearer : (j k m : ℕ) → (k ≡ j → ⊥) → steps m j ≡ k → (e : ℕ) × (m ≡ suc e) × (steps e (above j) ≡ k)
  unfolding steps
  nearer j k zero x y = absurd (x (sym y))
  nearer j k (suc e) x y = (e, refl, y)

  pub serve_holding : (q : Q) (k u d : ℕ) (s : S) → k < places → d < places → Holding q k u d s → Serves q k u d (serve D W s)
  unfolding serve next
  serve_holding q k u d s h b c =
      let f = seek_finds (occupied D W s) places (above (D.last s)) k d (above_small (D.last s)) (waiting q _ u c.holds) b c.way in
      let j = seek places (occupied D W s) (above (D.last s)) in
      let g : j < places = f.small in
      let n : eqb j places ≡ false = ne_eqb j places (λ e. omega (arith, e, g)) in
      let w = unit_whole (D.place s j) (whole s j c.right g) f.passes in
      rw n (way j g w f.far f.within f.rest (eqb k j) refl)
    where
      way : (j : ℕ) → j < places → Whole (left_in (W.unit (D.place s j))) → (far : ℕ) → far ≤ d → steps (d - far) j ≡ k → (t : Bool) → eqb k j ≡ t → Serves q k u d (leaves D W s j (W.unit (D.place s j)))
      way j g w far i y true e =
          let z = eqb-true k j e in
          subst (λ (n : ℕ). Serves q k u d (leaves D W s n (W.unit (D.place s n)))) z
          (own_unit q k u d s (W.unit (D.place s k)) h b c.right (subst (λ (n : ℕ). Whole (left_in (W.unit (D.place s n)))) (sym z) w) (unit_goes q (D.place s k) u (whole s k c.right h) c.holds))
      way j g w far i y false e =
          let x = eqb-false k j e in
          let m = nearer j k (d - far) x y in
          let v = m.1 in
          other_unit q j k u d m.0 s (W.unit (D.place s j)) h g x c.right w c.holds m.2 (omega (arith, v)) b

  -- ---- the bound

  some_left : (q : Q) (u : ℕ) (t : Step P A) → Goes (Holds q) (answer q) u t → 1 ≤ u
  some_left q zero t x' = elim x' [ ]
  some_left q (suc u) t (goes x) = omega arith
  some_left q (suc u) t (ends x) = omega arith

  heard_own : (k : ℕ) (t : Told A) (a : A) (later : Option A) → t ≡ finished k a → heard D W k t later ≡ some a
  unfolding heard
  heard_own k t a later e = rw (e, eq-eqb k k refl)

  -- a query with u units left, d steps away, is finished by the next 16 (u - 1) + d + 1 calls of serve, whatever is submitted between them
  pub finished_by : (q : Q) (k u d : ℕ) (s : S) (cs : List (Call Q)) → k < places → d < places → Holding q k u d s → places * u + d < serves cs + places → outcome D W k cs s ≡ some (answer q)
  unfolding outcome serves
  finished_by q k u d s [] h b c n =
      let l = some_left q u _ (unit_goes q (D.place s k) u (whole s k c.right h) c.holds) in
      absurd (omega (arith, l, n))
  finished_by q k u d s (submitting q' ∷ cs) h b c n = finished_by q k u d (kept D W s (submit D W s q')) cs h b (kept_holding q q' k u d s (submit D W s q') h refl c) n
  finished_by q k u d s (serving ∷ cs) h b c n = then (serve_holding q k u d s h b c) (λ v e x y. finished_by q k v e (serve D W s).desk cs h x y)
    where
      then : Serves q k u d (serve D W s) → ((v e : ℕ) → e < places → Holding q k v e (serve D W s).desk → places * v + e < serves cs + places → outcome D W k cs (serve D W s).desk ≡ some (answer q))
          → heard D W k (serve D W s).told (outcome D W k cs (serve D W s).desk) ≡ some (answer q)
      then (over x) again = heard_own k (serve D W s).told (answer q) _ x
      then (on v e x y z hears) again = hears _ ∙ again v e y z (omega (arith, x, n))

  -- 'A query of n components that was accepted is finished within 16 times n squared calls': over any work, 16 times its units
  pub finished_within : (s : S) (q : Q) (e : Entered S) (cs : List (Call Q)) → Right s → submit D W s q ≡ held e → places * units q ≤ serves cs → outcome D W e.place cs e.desk ≡ some (answer q)
  finished_within s q e cs r p n =
      let a = accepted s q e p in
      let k = e.place in
      let w = enter_whole q _ (whole s k r a.small) a.passed in
      let desk = D.put s k (W.enter q (D.place s k)) in
      let f = near (above (D.last s)) k (above_small (D.last s)) a.small in
      let b = f.1 in
      let c : Holding q k (units q) f.0 desk =
      record {
        right = put_right s k _ r a.small w;
        holds = subst (λ (p : P). Holds q p (units q)) (sym (put_same s k _ r a.small w)) (enter_holds q _ (whole s k r a.small) a.passed);
        way = subst (λ (n : ℕ). steps f.0 (above n) ≡ k) (sym (put_last s k _ r a.small w)) f.2;
      } in
      rw a.is (finished_by q k (units q) f.0 desk cs a.small b c (omega (arith, n, b)))
