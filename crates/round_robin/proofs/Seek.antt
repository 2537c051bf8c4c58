-- The search round the desk: where it ends, what it has passed over, and how near that brings a place. Assumes nothing.
use Prim.Native.Nat.{ℕ, zero, suc, ◌+◌, ◌-◌, ◌≤◌, ◌<◌}
use native.Mathlib.Omega.{arith}
use mathlib.Core.Path.{◌≡◌, refl, sym, ap, ◌∙◌, subst}
use mathlib.Core.Bool.{Bool, true, false, true≢false}
use lib.Dec.{ltb, eqb}
use borrow.Author.Tests.{ltb-true, ltb-false, lt-ltb, le-ltb, eqb-true, eqb-false}
use Rattle.round_robin.specs.Desk.{places, above, seek}

pub above_on : (k : ℕ) → k < 15 → (k + 1 ≡ above k) × (k + 1 < 16)
unfolding above
above_on k h = (rw (lt-ltb k 15 h), omega arith)

pub above_round : (k : ℕ) → 15 ≤ k → (0 ≡ above k) × (0 < 16)
unfolding above
above_round k h = (rw (le-ltb k 15 h), omega arith)

pub above_small : (k : ℕ) → above k < 16
unfolding above
above_small k = small (ltb k 15) refl
  where
    small : (t : Bool) → ltb k 15 ≡ t → above k < 16
    small true e = rw e (let h = ltb-true k 15 e in omega (arith, h))
    small false e = rw e (omega arith)

-- the place n steps above k
unfoldable pub steps : ℕ → ℕ → ℕ
steps zero k = k
steps (suc n) k = steps n (above k)

steps_later : (n k : ℕ) → steps (suc n) k ≡ above (steps n k)
unfolding steps
steps_later zero k = refl
steps_later (suc n) k = steps_later n (above k)

-- up from k without a round
steps_up : (n k : ℕ) → n + k < 16 → steps n k ≡ n + k
unfolding steps
steps_up zero k h = omega arith
steps_up (suc n) k h = let e = (above_on k (omega arith)).0 in rw (← e) (steps_up n (k + 1) (omega arith) ∙ omega arith)

steps_add : (m n k : ℕ) → steps (m + n) k ≡ steps n (steps m k)
unfolding steps
steps_add zero n k = let e : 0 + n ≡ n = omega arith in rw e
steps_add (suc m) n k = let e : suc m + n ≡ suc (m + n) = omega arith in rw e (steps_add m n (above k))

-- sixteen steps go round the desk; so a place is fifteen from the one above it
pub all_round : (k : ℕ) → k < 16 → steps 15 (above k) ≡ k
unfolding steps
all_round k h =
    let up : steps (15 - k) k ≡ 15 = steps_up (15 - k) k (omega arith) ∙ omega arith in
    let a : above 15 ≡ 0 = sym (above_round 15 (omega arith)).0 in
    let e : suc 15 ≡ (15 - k) + suc k = omega arith in
    let f : steps (suc k) 15 ≡ k = rw a (steps_up k 0 (omega arith) ∙ omega arith) in
    let g : steps ((15 - k) + suc k) k ≡ k = steps_add (15 - k) (suc k) k ∙ ap (steps (suc k)) up ∙ f in
    subst (λ (n : ℕ). steps n k ≡ k) (sym e) g

-- each place is fewer than sixteen steps from any other
pub near : (j k : ℕ) → j < 16 → k < 16 → (d : ℕ) × (d < 16) × (steps d j ≡ k)
unfolding steps
near j k p q = way (ltb k j) refl
  where
    way : (t : Bool) → ltb k j ≡ t → (d : ℕ) × (d < 16) × (steps d j ≡ k)
    way false e =
        let h = ltb-false k j e in
        (k - j, omega (arith, h), steps_up (k - j) j (omega (arith, h)) ∙ omega (arith, h))
    way true e =
        let h = ltb-true k j e in
        let up : steps (15 - j) j ≡ 15 = steps_up (15 - j) j (omega arith) ∙ omega arith in
        let a : above 15 ≡ 0 = sym (above_round 15 (omega arith)).0 in
        let f : steps (suc k) 15 ≡ k = rw a (steps_up k 0 (omega arith) ∙ omega arith) in
        ((15 - j) + suc k, omega (arith, h), steps_add (15 - j) (suc k) j ∙ ap (steps (suc k)) up ∙ f)

-- what a search gives when place k, d steps on, passes its test: a place on the way that passes, from which k is as much nearer
pub record Found (test : ℕ → Bool) (n p k d : ℕ) : Type 0 where
  pub far : ℕ
  pub within : far ≤ d
  pub small : seek n test p < places
  pub passes : test (seek n test p) ≡ true
  pub rest : steps (d - far) (seek n test p) ≡ k

pub seek_finds : (test : ℕ → Bool) (n p k d : ℕ) → p < places → test k ≡ true → d < n → steps d p ≡ k → Found test n p k d
unfolding seek steps
seek_finds test zero p k d b t h e = absurd (omega (arith, h))
seek_finds test (suc n) p k d b t h e = here (test p) refl (λ d x y. seek_finds test n (above p) k d (above_small p) t x y)
  where
    later : test p ≡ false → ((d : ℕ) → d < n → steps d (above p) ≡ k → Found test n (above p) k d) → (d : ℕ) → d < suc n → steps d p ≡ k → Found test (suc n) p k d
    later q again zero h e = absurd (true≢false (sym t ∙ ap test (sym e) ∙ q))
    later q again (suc d) h e =
        let f = again d (omega arith) e in
        let w = f.within in
        let z : suc d - suc f.far ≡ d - f.far = omega arith in
        record { far = suc f.far; within = omega (arith, w); small = rw q f.small; passes = rw q f.passes; rest = rw (q, z) f.rest }

    here : (x : Bool) → test p ≡ x → ((d : ℕ) → d < n → steps d (above p) ≡ k → Found test n (above p) k d) → Found test (suc n) p k d
    here true q again = record { far = 0; within = omega arith; small = rw q b; passes = rw q q; rest = rw q (let z : d - 0 ≡ d = omega arith in rw z e) }
    here false q again = later q again d h e

-- a search from k upward: where it ends, and that all it passed over fails the test
pub record Lowest (test : ℕ → Bool) (k found : ℕ) : Type 0 where
  pub most : found ≤ places
  pub passes : found < places → test found ≡ true
  pub before : (j : ℕ) → k ≤ j → j < found → test j ≡ false

lower : (test : ℕ → Bool) (k found : ℕ) → test k ≡ false → Lowest test (k + 1) found → Lowest test k found
lower test k found q l = record { most = l.most; passes = l.passes; before = λ j a b. way j a b (eqb j k) refl }
  where
    way : (j : ℕ) → k ≤ j → j < found → (b : Bool) → eqb j k ≡ b → test j ≡ false
    way j a b true e = rw (eqb-true j k e) q
    way j a b false e = l.before j (let h = eqb-false j k e in omega (arith, a, h)) b

above_is : (test : ℕ → Bool) (n k : ℕ) → suc n + k ≡ places → seek n test (above k) ≡ seek n test (k + 1)
unfolding seek
above_is test zero k e = refl
above_is test (suc n) k e = rw (← (above_on k (omega arith)).0)

pub seek_lowest : (test : ℕ → Bool) (n k : ℕ) → n + k ≡ places → Lowest test k (seek n test k)
unfolding seek
seek_lowest test zero k e = record { most = omega arith; passes = λ h. absurd (omega (arith, h)); before = λ j a b. absurd (omega (arith, a, b, e)) }
seek_lowest test (suc n) k e = here (test k) refl (seek_lowest test n (k + 1) (omega arith))
  where
    here : (b : Bool) → test k ≡ b → Lowest test (k + 1) (seek n test (k + 1)) → Lowest test k (seek (suc n) test k)
    here true q l = rw q (record { most = omega arith; passes = λ h. q; before = λ j a b. absurd (omega (arith, a, b)) })
    here false q l = rw (q, above_is test n k e) (lower test k _ q l)

-- the search ends at a place, or at none
pub seek_most : (test : ℕ → Bool) (n k : ℕ) → k < places → seek n test k ≤ places
unfolding seek
seek_most test zero k h = omega arith
seek_most test (suc n) k h = here (test k) refl (seek_most test n (above k) (above_small k))
  where
    here : (b : Bool) → test k ≡ b → seek n test (above k) ≤ places → seek (suc n) test k ≤ places
    here true q l = rw q (omega (arith, h))
    here false q l = rw q l
