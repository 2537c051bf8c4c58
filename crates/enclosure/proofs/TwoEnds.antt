-- The ends that a two-ended operation gives enclose the float run and the exact run, whatever the formula and the elementary answers (demand 3). Assumes nothing.
use Prim.Native.Nat.{ℕ}
use mathlib.Core.Path.{◌≡◌, refl, sym, ap, ◌∙◌, subst}
use mathlib.Core.Bool.{Bool, true, false, cond}
use mathlib.Core.Option.{some}
use lib.Dec.{T}
use lib.Ieee.{Float}
use lib.Ieee.Scale.{finite}
use Rattle.number.specs.Frac.{Frac, val_f}
use Rattle.number.specs.Ans.{Ans, held, refused, ◌>>=◌, demand}
use Rattle.number.proofs.Rel.{Both, both_held, both_refused}
use Rattle.interval.proofs.Encloses.{In}
use Rattle.enclosure.specs.declared.Enclosure.{Enclosure}
use Rattle.enclosure.specs.declared.Ends.{Ends}
use Rattle.enclosure.specs.Exact.{Exact}
use Rattle.enclosure.specs.Ends.{or_not_finite, or_unsound, ends_in, ends_of, ends_alone, Between, Encloses}
use Rattle.enclosure.proofs.Relations.{Value, Contains}

between : (b : Enclosure) (q : Frac) → In b.ends q → Between b.ends.lower q b.ends.upper
between b q i = record { lower_finite = i.lower_finite; upper_finite = i.upper_finite; den = i.den; from = i.from; to = i.to }

with_exact : (e : Exact) (v : Float) (q : Frac) → v ≡ e.value → e.exact ≡ some q → e ≡ record { value = v; exact = some q }
with_exact e v q p r = rw (p, ← r)

-- a sound enclosure of runs that keep both relations
sound_encloses : (b : Enclosure) (v : Float) (e : Exact) → Value b v → Contains b e → T b.ends.sound → Encloses (ends_in b) (held v) (held e)
sound_encloses b v e p c t =
    let h = c.holds t in
    record {
      value = b.value;
      fraction = h.exact;
      float_holds = ap held (sym p);
      exact_holds = ap held (with_exact e b.value h.exact c.same h.is);
      value_finite = h.run_finite;
      value_between = between b (val_f b.value) h.run_in;
      fraction_between = between b h.exact h.exact_in;
    }

-- where the two-ended run is held and sound; for one of several results
pub held_encloses : {float : Ans Float} {enclosure : Ans Enclosure} {exact : Ans Exact} → Both Value enclosure float → Both Contains enclosure exact
    → (b : Enclosure) → enclosure ≡ held b → T b.ends.sound → Encloses (ends_in b) float exact
held_encloses (both_held {x = b'} {y = v} p) (both_held {y = e} c) b h t =
    let z : b' ≡ b = cc in
    sound_encloses b v e (subst (λ (w : Enclosure). Value w v) z p) (subst (λ (w : Enclosure). Contains w e) z c) t
held_encloses (both_refused {n = n}) c b h t = let z : ◌≡◌ {A = Bool} true false = cc in absurd (subst T z tt)

pub no_refusal : {n : ℕ} {e : Ends} → ◌≡◌ {A = Ans Ends} (refused n) (held e) → ⊥
no_refusal {n = n} p = let z : ◌≡◌ {A = Bool} true false = cc in subst T z tt

module _ (e : Ends) where
  sound_held : (b : Enclosure) → or_unsound b ≡ held e → T b.ends.sound × (ends_in b ≡ e)
  unfolding or_unsound
  sound_held b p = go b.ends.sound p
    where
      go : (s : Bool) → cond s (held (ends_in b)) (refused 8) ≡ held e → T s × (ends_in b ≡ e)
      go true p = (tt, cc)
      go false p = absurd (no_refusal p)

  -- whatever the formula and whatever the elementary functions answer
  pub ends_enclose : {float : Ans Float} {enclosure : Ans Enclosure} {exact : Ans Exact} → Both Value enclosure float → Both Contains enclosure exact → ends_of float enclosure ≡ held e → Encloses e float exact
  unfolding ends_of ◌>>=◌
  ends_enclose (both_held {x = b} {y = v} p) (both_held {y = x} c) h =
      let u = sound_held b h in
      subst (λ (z : Ends). Encloses z (held v) (held x)) u.1 (sound_encloses b v x p c u.0)
  ends_enclose both_refused c h = absurd (no_refusal h)

-- ---- what the code asks: the two-ended run alone gives the float operation's refusals too
float_is : {float : Ans Float} {enclosure : Ans Enclosure} → Both Value enclosure float → (float >>= or_not_finite) ≡ (enclosure >>= λ b. or_not_finite b.value)
unfolding ◌>>=◌
float_is (both_held p) = ap or_not_finite (sym p)
float_is both_refused = refl

pub alone_is : {float : Ans Float} {enclosure : Ans Enclosure} → Both Value enclosure float → ends_alone enclosure ≡ ends_of (float >>= or_not_finite) enclosure
unfolding ends_alone
alone_is K = rw (float_is K)

module _ (b : Enclosure) where
  pub alone_7 : finite b.value ≡ false → refused 7 ≡ ends_alone (held b)
  unfolding ends_alone ends_of ◌>>=◌ or_not_finite
  alone_7 t = rw t

  pub alone_8 : finite b.value ≡ true → b.ends.sound ≡ false → refused 8 ≡ ends_alone (held b)
  unfolding ends_alone ends_of ◌>>=◌ or_not_finite or_unsound
  alone_8 t u = rw (t, u)

  pub alone_held : finite b.value ≡ true → b.ends.sound ≡ true → held (ends_in b) ≡ ends_alone (held b)
  unfolding ends_alone ends_of ◌>>=◌ or_not_finite or_unsound
  alone_held t u = rw (t, u)

-- ---- an operation that finds its float result finite by itself
abbrev pub found : Ans Float → Ans Float
found a = a >>= λ d. demand 7 (finite d) >>= λ _. held d

found_is : (a : Ans Float) → found a ≡ (a >>= or_not_finite)
unfolding demand or_not_finite ◌>>=◌
found_is (held d) = go (finite d)
  where
    go : (b : Bool) → (cond b (held true) (refused 7) >>= λ _. held d) ≡ cond b (held d) (refused 7)
    go true = refl
    go false = refl
found_is (refused n) = refl

-- where ends are reported, the test left the result as it is
pub untouched : (a : Ans Float) (b : Ans Enclosure) (e : Ends) → ends_of (found a) b ≡ held e → a ≡ found a
unfolding ends_of demand ◌>>=◌
untouched (held d) b e h = go (finite d) refl
  where
    go : (c : Bool) → finite d ≡ c → held d ≡ (demand 7 (finite d) >>= λ _. held d)
    go true p = rw p
    go false p = let z : refused 7 ≡ ends_of (demand 7 (finite d) >>= λ _. held d) b = rw p in absurd (no_refusal (z ∙ h))
untouched (refused n) b e h = refl

pub tested_encloses : {float : Ans Float} {enclosure : Ans Enclosure} {exact : Ans Exact} → Both Value enclosure float → Both Contains enclosure exact → (e : Ends) → ends_of (float >>= or_not_finite) enclosure ≡ held e → Encloses e float exact
tested_encloses {float = float} {enclosure = enclosure} K C e h =
    let g = ap (λ (a : Ans Float). ends_of a enclosure) (found_is float) ∙ h in
    ends_enclose e K C (ap (λ (a : Ans Float). ends_of a enclosure) (untouched float enclosure e g) ∙ g)

-- ---- an operation of one result: indexes or lengths (1), limits (2), then its run
abbrev pub operation : Bool → Bool → Ans Float → Ans Float
operation x y float = demand 1 x >>= λ _. demand 2 y >>= λ _. found float

module _ {float : Ans Float} {enclosure : Ans Enclosure} (K : Both Value enclosure float) (x y : Bool) where
  pub operation_1 : x ≡ false → refused 1 ≡ ends_of (operation x y float) enclosure
  unfolding ends_of demand ◌>>=◌
  operation_1 p = rw p

  pub operation_2 : x ≡ true → y ≡ false → refused 2 ≡ ends_of (operation x y float) enclosure
  unfolding ends_of demand ◌>>=◌
  operation_2 p q = rw (p, q)

  -- the two-ended run alone gives the float operation's 6 and 7 too: what the code works
  pub operation_alone : x ≡ true → y ≡ true → ends_alone enclosure ≡ ends_of (operation x y float) enclosure
  unfolding demand ◌>>=◌
  operation_alone p q = rw (p, q) (alone_is K ∙ ap (λ (a : Ans Float). ends_of a enclosure) (sym (found_is float)))

  -- where ends are reported both demands were met, and the float operation reports what its run gives
  pub operation_encloses : {exact : Ans Exact} → Both Contains enclosure exact → (e : Ends) → ends_of (operation x y float) enclosure ≡ held e → Encloses e (operation x y float) exact
  unfolding demand ◌>>=◌
  operation_encloses {exact = exact} C e h = go x y refl refl
    where
      go : (a b : Bool) → x ≡ a → y ≡ b → Encloses e (operation x y float) exact
      go true true p q =
          let w : operation x y float ≡ found float = rw (p, q) in
          let g : ends_of (found float) enclosure ≡ held e = ap (λ (a : Ans Float). ends_of a enclosure) (sym w) ∙ h in
          let u = untouched float enclosure e g in
          subst (λ (a : Ans Float). Encloses e a exact) (u ∙ sym w) (ends_enclose e K C (ap (λ (a : Ans Float). ends_of a enclosure) u ∙ g))
      go true false p q = absurd (no_refusal (operation_2 p q ∙ h))
      go false b p q = absurd (no_refusal (operation_1 p ∙ h))
