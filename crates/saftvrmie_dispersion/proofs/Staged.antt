-- Where x0 has all its powers the five sums are held, and elsewhere refused with 6: what the code tests first. Assumes nothing.
use mathlib.Core.Path.{◌≡◌, refl}
use mathlib.Core.Bool.{Bool, true, false, ◌&&◌, cond}
use Prim.Native.Nat.{ℕ}
use Rattle.number.specs.Ans.{Ans, held, refused, ◌>>=◌}
use Rattle.number.specs.Arith.{Arith, whole}
use Rattle.saftvrmie_dispersion.specs.Sutherland.{FluidIn, a1s_b_of, a1s_b}
use Rattle.saftvrmie_dispersion.specs.Terms.{five}
use Rattle.saftvrmie_dispersion.specs.Staged.{is_held, powers_held, five_held}

-- what holds x if t, and is refused with 6 otherwise
abbrev pub tested : {S : Type 0} → Bool → S → Ans S
tested t x = cond t (held x) (refused 6)

pub tested_is : {S : Type 0} (t : Bool) (x : S) → is_held (tested t x) ≡ t
tested_is true x = refl
tested_is false x = refl

-- the base tested once
pub of_each : (b n n3 n4 : Bool) → (b && (n && (n3 && n4))) ≡ ((b && n) && ((b && n3) && (b && n4)))
of_each true n n3 n4 = refl
of_each false n n3 n4 = refl

abbrev or_else : {S : Type 0} → Ans S → S → S
or_else (held u) x = u
or_else (refused n) x = x

all_five : {N S : Type 0} (a b c d e : Bool) (u v x y z : N) (f : N → N → N → N → N → S)
    → (tested a u >>= λ p. tested b v >>= λ q. tested c x >>= λ r. tested d y >>= λ s. tested e z >>= λ t. held (f p q r s t)) ≡ tested (a && (b && (c && (d && e)))) (f u v x y z)
unfolding ◌>>=◌
all_five true true true true true u v x y z f = refl
all_five true true true true false u v x y z f = refl
all_five true true true false e u v x y z f = refl
all_five true true false d e u v x y z f = refl
all_five true false c d e u v x y z f = refl
all_five false b c d e u v x y z f = refl

module _ (A D : Arith) (plain : A.Num → D.Num) (pow : A.Num → Ans A.Num) (six : (y : A.Num) (n : ℕ) → pow y ≡ refused n → n ≡ 6) (w : FluidIn D.Num) where
  -- of a number that is the sum's value where the sum has one
  by_powers : (y : A.Num) (p p3 p4 : Ans A.Num) → pow y ≡ p → pow (A.sub (whole A 3) y) ≡ p3 → pow (A.sub (whole A 4) y) ≡ p4
      → (r : D.Num) → ((u : D.Num) → a1s_b A D plain pow w y ≡ held u → r ≡ u) → a1s_b A D plain pow w y ≡ tested (powers_held A pow y) r
  unfolding a1s_b powers_held ◌>>=◌
  by_powers y (held a) (held b) (held c) e e3 e4 r f =
      let s : a1s_b A D plain pow w y ≡ held (a1s_b_of A D plain w y a b c) = rw (e, e3, e4) in
      rw (f _ s, e, e3, e4)
  by_powers y (held a) (held b) (refused n) e e3 e4 r f = rw (e, e3, e4, six _ n e4)
  by_powers y (held a) (refused n) p4 e e3 e4 r f = rw (e, e3, six _ n e3)
  by_powers y (refused n) p3 p4 e e3 e4 r f = rw (e, six _ n e)

  sum_is : (y : A.Num) (r : D.Num) → ((u : D.Num) → a1s_b A D plain pow w y ≡ held u → r ≡ u) → a1s_b A D plain pow w y ≡ tested (powers_held A pow y) r
  sum_is y r f = by_powers y (pow y) (pow (A.sub (whole A 3) y)) (pow (A.sub (whole A 4) y)) refl refl refl r f

  module _ (la lr : A.Num) where
    pub five_is : (r1 r2 r3 r4 r5 : D.Num)
        → ((u : D.Num) → a1s_b A D plain pow w la ≡ held u → r1 ≡ u)
        → ((u : D.Num) → a1s_b A D plain pow w lr ≡ held u → r2 ≡ u)
        → ((u : D.Num) → a1s_b A D plain pow w (A.mul (whole A 2) la) ≡ held u → r3 ≡ u)
        → ((u : D.Num) → a1s_b A D plain pow w (A.add la lr) ≡ held u → r4 ≡ u)
        → ((u : D.Num) → a1s_b A D plain pow w (A.mul (whole A 2) lr) ≡ held u → r5 ≡ u)
        → five A D plain pow w la lr ≡ tested (five_held A pow la lr) (record { at_la = r1; at_lr = r2; at_2la = r3; at_lalr = r4; at_2lr = r5 })
    unfolding five five_held
    five_is r1 r2 r3 r4 r5 f1 f2 f3 f4 f5 =
        rw (sum_is la r1 f1, sum_is lr r2 f2, sum_is (A.mul (whole A 2) la) r3 f3, sum_is (A.add la lr) r4 f4, sum_is (A.mul (whole A 2) lr) r5 f5)
        (all_five (powers_held A pow la) (powers_held A pow lr) (powers_held A pow (A.mul (whole A 2) la)) (powers_held A pow (A.add la lr)) (powers_held A pow (A.mul (whole A 2) lr)) r1 r2 r3 r4 r5 (λ p q r s t. record { at_la = p; at_lr = q; at_2la = r; at_lalr = s; at_2lr = t }))

    its_own : (y u : D.Num) (a : Ans D.Num) → a ≡ held u → or_else a y ≡ u
    its_own y u a p = rw p

    pub five_refused : five_held A pow la lr ≡ false → five A D plain pow w la lr ≡ refused 6
    five_refused h =
        let at : A.Num → Ans D.Num = a1s_b A D plain pow w in
        let of : A.Num → D.Num = λ y. or_else (at y) w.zeta_x in
        rw h at
        (five_is (of la) (of lr) (of (A.mul (whole A 2) la)) (of (A.add la lr)) (of (A.mul (whole A 2) lr)) (λ u p. its_own w.zeta_x u _ p) (λ u p. its_own w.zeta_x u _ p) (λ u p. its_own w.zeta_x u _ p) (λ u p. its_own w.zeta_x u _ p) (λ u p. its_own w.zeta_x u _ p))

-- the sum's value where it has one
module _ (A D : Arith) (plain : A.Num → D.Num) (pow : A.Num → Ans A.Num) (w : FluidIn D.Num) (y x x3 x4 : A.Num) where
  pub value_is : (t t3 t4 : Bool) → pow y ≡ tested t x → pow (A.sub (whole A 3) y) ≡ tested t3 x3 → pow (A.sub (whole A 4) y) ≡ tested t4 x4
      → (u : D.Num) → a1s_b A D plain pow w y ≡ held u → a1s_b_of A D plain w y x x3 x4 ≡ u
  unfolding a1s_b ◌>>=◌
  value_is true true true e e3 e4 u h = let k = rw (e, e3, e4) at h in cc
  value_is true true false e e3 e4 u h = let k = rw (e, e3, e4) at h in cc
  value_is true false t4 e e3 e4 u h = let k = rw (e, e3) at h in cc
  value_is false t3 t4 e e3 e4 u h = let k = rw e at h in cc

  -- and 6 elsewhere
  pub sum_tested : (b n n3 n4 : Bool) → pow y ≡ tested (b && n) x → pow (A.sub (whole A 3) y) ≡ tested (b && n3) x3 → pow (A.sub (whole A 4) y) ≡ tested (b && n4) x4
      → a1s_b A D plain pow w y ≡ tested (b && (n && (n3 && n4))) (a1s_b_of A D plain w y x x3 x4)
  unfolding a1s_b ◌>>=◌
  sum_tested true true true true e e3 e4 = rw (e, e3, e4)
  sum_tested true true true false e e3 e4 = rw (e, e3, e4)
  sum_tested true true false n4 e e3 e4 = rw (e, e3)
  sum_tested true false n3 n4 e e3 e4 = rw e
  sum_tested false n n3 n4 e e3 e4 = rw e
