-- Slip 12's desk over any places and any work: who is served next, what a call does, and what a query in a place is finished with.
use Rattle.std.specs.Prelude.{ℕ, zero, suc, ◌+◌, eqb, ltb, Bool, not, cond, List, [], ◌∷◌}
use Rattle.std.proofs.Math.Option.{Option, none, some}
use Rattle.number.specs.Ans.{Ans, held, refused, ◌>>=◌, demand}

-- 'a desk above the core with 16 places'
abbrev pub places : ℕ
places = 16

-- the place above, 'after 15 again from 0'
unfoldable pub above : ℕ → ℕ
above k = cond (ltb k 15) (k + 1) 0

-- the first of n places, from k on and round the desk, that passes a test; `places` where none does
unfoldable pub seek : ℕ → (ℕ → Bool) → ℕ → ℕ
seek zero test k = places
seek (suc n) test k = let later = seek n test (above k) in cond (test k) k later

-- what a unit leaves in its place: a query that goes on, or one that is finished with its answer
pub data Step (P A : Type 0) : Type 0 where
  going : P → Step P A
  done : P → A → Step P A

-- how a desk S is kept: its places, and which was served last
pub record Shelf (S P : Type 0) : Type 0 where
  pub place : S → ℕ → P
  pub put : S → ℕ → P → S
  pub last : S → ℕ
  pub served : S → ℕ → S

-- what is worked at a desk: whether a place has a query waiting, one unit of it, and how a query comes in
pub record Work (P Q A : Type 0) : Type 0 where
  pub waits : P → Bool
  pub unit : P → Step P A
  pub door : Q → Ans Bool
  pub enter : Q → P → P

-- what a call tells: no query was waiting, a unit was done, or place k is finished with an answer
pub data Told (A : Type 0) : Type 0 where
  idle : Told A
  worked : Told A
  finished : ℕ → A → Told A

pub record Served (S A : Type 0) : Type 0 where
  pub desk : S
  pub told : Told A

pub record Entered (S : Type 0) : Type 0 where
  pub desk : S
  pub place : ℕ

-- the calls that handle a desk
pub data Call (Q : Type 0) : Type 0 where
  submitting : Q → Call Q
  serving : Call Q

-- how many of them serve
unfoldable pub serves : {Q : Type 0} → List (Call Q) → ℕ
serves [] = 0
serves (submitting q ∷ cs) = serves cs
serves (serving ∷ cs) = suc (serves cs)

module _ {S P Q A : Type 0} (D : Shelf S P) (W : Work P Q A) where
  -- a place with a query waiting, and one with none
  abbrev pub occupied : S → ℕ → Bool
  occupied s k = W.waits (D.place s k)

  abbrev pub free : S → ℕ → Bool
  free s k = not (occupied s k)

  -- 'the next occupied place above the one served last'
  unfoldable pub next : S → ℕ
  next s = seek places (occupied s) (above (D.last s))

  -- 'the lowest free place'
  unfoldable pub lowest : S → ℕ
  lowest s = seek places (free s) 0

  -- 'The call that finishes it hands out place and answer'
  unfoldable pub leaves : S → ℕ → Step P A → Served S A
  leaves s k (going p) = record { desk = D.served (D.put s k p) k; told = worked }
  leaves s k (done p a) = record { desk = D.served (D.put s k p) k; told = finished k a }

  -- 'A call does one unit for one waiting query'; 'With no query waiting a call says so and changes nothing'
  unfoldable pub serve : S → Served S A
  serve s =
      let k = next s in
      let at = leaves s k (W.unit (D.place s k)) in
      cond (eqb k places) (record { desk = s; told = idle }) at

  -- 'An accepted query takes the lowest free place and is told it'; 'A query that finds all places occupied gets 17, after those tests'
  unfoldable pub submit : S → Q → Ans (Entered S)
  submit s q =
      let k = lowest s in
      W.door q >>= λ _.
      demand 17 (not (eqb k places)) >>= λ _.
      held (record { desk = D.put s k (W.enter q (D.place s k)); place = k })

  -- the desk after a submission: a query that is turned down changes nothing
  unfoldable pub kept : S → Ans (Entered S) → S
  kept s (held e) = e.desk
  kept s (refused n) = s

  -- what a call tells of place k, or else what later ones do
  unfoldable pub heard : ℕ → Told A → Option A → Option A
  heard k idle later = later
  heard k worked later = later
  heard k (finished j a) later = cond (eqb j k) (some a) later

  -- the answer with which the first of these calls that finishes place k does so
  unfoldable pub outcome : ℕ → List (Call Q) → S → Option A
  outcome k [] s = none
  outcome k (submitting q ∷ cs) s = outcome k cs (kept s (submit s q))
  outcome k (serving ∷ cs) s =
      let later = outcome k cs (serve s).desk in
      heard k (serve s).told later
