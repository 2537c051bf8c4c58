-- The total of a call is exact: the last sum and all remainders are the contributions added. Assumes nothing.
use mathlib.Core.Path.{◌≡◌, refl, sym, ap, ◌∙◌, subst}
use mathlib.Core.List.{List}
use mathlib.Core.Bool.{Bool, true, false, cond}
use native.Mathlib.Nat.{zero-lt-suc}
use Prim.Native.Nat.{ℕ}
use native.Mathlib.Omega.{arith}
use lib.Dec.{T}
use lib.Ieee.{Float, binary64, fits}
use lib.Ieee.Bits.{of_bits-fits}
use lib.Ieee.Fits.{add-fits, mul-fits, div-fits}
use lib.Ieee.Scale.{finite}
use Rattle.number.specs.Ans.{Ans, held, refused, ◌>>=◌, demand}
use Rattle.number.specs.Arith.{floats, zero64}
use Rattle.number.specs.Functions.{Functions, calls}
use Rattle.number.specs.Frac.{Frac, frac, Pos, add_f, zero_f, val_f}
use Rattle.number.proofs.Frac.{ring, val_f_pos, add_f_pos}
use Rattle.number.proofs.Walk.{then_held, held_inj}
use Rattle.elementary.specs.Port.{port}
use Rattle.rounded_sum.specs.declared.RoundedSum.{RoundedSum}
use Rattle.rounded_sum.specs.RoundedSum.{Same, rounded_sum, SumsExactly}
use Rattle.rounded_sum.proofs.Same.{same_refl, same_sym, same_trans, same_add}
use Rattle.rounded_sum.proofs.Exact.{sum_exact, zero_is}
use Rattle.saftvrqmie_parameters.specs.declared.SaftVRQMiePars.{SaftVRQMiePars}
use Rattle.saftvrqmie_hard_sphere.specs.State.{points, diagonal}
use Rattle.saftvrqmie_dispersion_sums.specs.State.{SheetsIn, sheets_of_state}
use Rattle.saftvrqmie_hard_sphere.specs.HardSphere.{hard_sphere_of}
use Rattle.saftvrqmie_hard_sphere.specs.HardSphere.{hard_sphere}
use Rattle.saftvrqmie_hard_sphere.specs.NonAdditive.{non_additive}
use Rattle.saftvrqmie_dispersion_sums.specs.Dispersion.{dispersion, alphas}
use Rattle.saftvrqmie_energies.specs.Energies.{EnergiesIn, energies, energies_by, contributions, contributions_of}
use Rattle.saftvrqmie_total.specs.declared.QuantumTotal.{QuantumTotal}
use Rattle.saftvrqmie_total.specs.Total.{finite_sum, contributions_total, total, TotalsExactly, Totalled}

-- ---- a demand that was met
met : {S : Type 0} (n : ℕ) (b : Bool) (a : Ans S) (y : S) → (demand n b >>= λ _. a) ≡ held y → (b ≡ true) × (a ≡ held y)
unfolding demand ◌>>=◌
met n true a y p = (refl, p)
met n false a y p = absurd (refused_not_held p)
  where
    refused_not_held : refused n ≡ held y → ⊥
    refused_not_held p = let z : ◌≡◌ {A = ℕ} 0 1 = cc in omega arith

-- ---- the energies are floats of the format
record Fit (e : EnergiesIn Float) : Type 0 where
  pub hard_sphere_fits : T (fits binary64 e.hard_sphere)
  pub dispersion_fits : T (fits binary64 e.dispersion)
  pub non_additive_fits : T (fits binary64 e.non_additive)

module _ (F : Functions Float) where
  hard_sphere_fit : (n : ℕ) (x rho d m : ℕ → Float) (v : Float) → hard_sphere floats F n x rho d m ≡ held v → T (fits binary64 v)
  unfolding hard_sphere hard_sphere_of
  hard_sphere_fit n x rho d m v p = let a = then_held (F.ln1p _) _ v p in subst (λ (z : Float). T (fits binary64 z)) (held_inj _ v a.2) (div-fits binary64 _ _)

  dispersion_fit : (s : SheetsIn Float) (x rho m : ℕ → Float) (t v : Float) → dispersion floats F s x rho m t ≡ held v → T (fits binary64 v)
  unfolding dispersion
  dispersion_fit s x rho m t v p =
      let a = then_held (alphas floats F s) _ v p in
      let b = then_held _ _ v a.2 in
      let c = then_held _ _ v b.2 in
      let d = then_held _ _ v c.2 in
      subst (λ (z : Float). T (fits binary64 z)) (held_inj _ v d.2) (mul-fits binary64 _ _)

  non_additive_fit : (n : ℕ) (rho m d : ℕ → Float) (wanted : Bool) → T (fits binary64 (cond wanted (non_additive floats F n rho m d) zero64))
  unfolding non_additive
  non_additive_fit n rho m d true = mul-fits binary64 _ _
  non_additive_fit n rho m d false = of_bits-fits binary64 0

  contributions_fit : (s : SheetsIn Float) (x rho m : ℕ → Float) (t : Float) (wanted : Bool) (e : EnergiesIn Float) → contributions floats F s x rho m t wanted ≡ held e → Fit e
  unfolding contributions
  contributions_fit s x rho m t wanted e p =
      let a = then_held (hard_sphere floats F s.count x rho (diagonal s.hs_diameter) m) _ e p in
      let b = then_held (dispersion floats F s x rho m t) _ e a.2 in
      subst Fit (held_inj _ e b.2)
      (record {
        hard_sphere_fits = hard_sphere_fit s.count x rho (diagonal s.hs_diameter) m a.0 a.1;
        dispersion_fits = dispersion_fit s x rho m t b.0 b.1;
        non_additive_fits = non_additive_fit s.count rho m s.hs_diameter wanted;
      })

energies_fit : (s : SaftVRQMiePars) (t : Float) (x rho table : List Float) (wanted : Bool) (e : EnergiesIn Float) → energies s t x rho table wanted ≡ held e → Fit e
unfolding energies_by
energies_fit s t x rho table wanted e p =
    let a = met 1 _ _ e p in
    let b = met 2 _ _ e a.1 in
    let c = then_held (contributions_of floats (calls floats port) s t x rho table wanted) _ e b.1 in
    let d = met 7 _ _ e c.2 in
    subst Fit (held_inj c.0 e d.1) (contributions_fit (calls floats port) (sheets_of_state floats s.count s.sheets s.orders t table) (points floats x) (points floats rho) (points floats s.m) t wanted c.0 c.1)

-- ---- one sum after the other
together : (a b c : Frac) → Same (add_f a (add_f b c)) (add_f (add_f a b) c)
together (frac p n d) (frac q m c) (frac r l e) = (simp ring (omega arith), simp ring (omega arith))

last_first : (a b c : Frac) → Same (add_f a (add_f b c)) (add_f (add_f a c) b)
last_first (frac p n d) (frac q m c) (frac r l e) = (simp ring (omega arith), simp ring (omega arith))

sum_of : (x y : Float) → T (fits binary64 x) → T (fits binary64 y) → T (finite (rounded_sum x y).sum) → SumsExactly x y (rounded_sum x y)
unfolding rounded_sum
sum_of x y p q t = sum_exact x y p q t

sum_fits : (x y : Float) → T (fits binary64 (rounded_sum x y).sum)
unfolding rounded_sum
sum_fits x y = add-fits binary64 x y

no_value : val_f zero64 ≡ zero_f
no_value = ap val_f zero_is

finite_of : {b : Bool} → b ≡ true → T b
finite_of h = subst T (sym h) tt

module _ (e : EnergiesIn Float) (g : Fit e) where
  abbrev first : RoundedSum
  first = rounded_sum e.hard_sphere e.dispersion

  abbrev s : Frac
  s = val_f first.sum

  abbrev r : Frac
  r = val_f first.remainder

  abbrev two : Frac
  two = add_f (val_f e.hard_sphere) (val_f e.dispersion)

  module _ (t : T (finite first.sum)) where
    first_exact : SumsExactly e.hard_sphere e.dispersion first
    first_exact = sum_of e.hard_sphere e.dispersion g.hard_sphere_fits g.dispersion_fits t

    s_r_pos : Pos (add_f s r)
    s_r_pos = add_f_pos s r (val_f_pos first.sum) (val_f_pos first.remainder)

    alone_exact : TotalsExactly e false (record { first = first; last = record { sum = first.sum; remainder = zero64 } })
    alone_exact =
        record {
          first_finite = t;
          last_finite = t;
          first_left_finite = first_exact.remainder_finite;
          last_left_finite = subst (λ (z : Float). T (finite z)) (sym zero_is) tt;
          exact = subst (λ (z : Frac). Same (add_f s (add_f r z)) (add_f two zero_f)) (sym no_value)
              (same_trans (add_f s (add_f r zero_f)) (add_f (add_f s r) zero_f) (add_f two zero_f) (add_f_pos (add_f s r) zero_f s_r_pos (zero-lt-suc 0)) (together s r zero_f) (same_add (add_f s r) two zero_f zero_f first_exact.exact (same_refl zero_f)));
        }

    abbrev last : RoundedSum
    last = rounded_sum first.sum e.non_additive

    both_exact : T (finite last.sum) → TotalsExactly e true (record { first = first; last = last })
    both_exact u =
        let k = sum_of first.sum e.non_additive (sum_fits e.hard_sphere e.dispersion) g.non_additive_fits u in
        let v = val_f last.sum in
        let w = val_f last.remainder in
        let n = val_f e.non_additive in
        let vp = val_f_pos last.sum in
        let wp = val_f_pos last.remainder in
        let np = val_f_pos e.non_additive in
        let sp = val_f_pos first.sum in
        let rp = val_f_pos first.remainder in
        -- v + (r + w), (v + w) + r, (s + n) + r, s + (r + n), (s + r) + n
        let a : Same (add_f v (add_f r w)) (add_f (add_f v w) r) = last_first v r w in
        let b : Same (add_f (add_f v w) r) (add_f (add_f s n) r) = same_add (add_f v w) (add_f s n) r r k.exact (same_refl r) in
        let c : Same (add_f (add_f s n) r) (add_f s (add_f r n)) = same_sym (add_f s (add_f r n)) (add_f (add_f s n) r) (last_first s r n) in
        let d : Same (add_f s (add_f r n)) (add_f (add_f s r) n) = together s r n in
        let f : Same (add_f (add_f s r) n) (add_f two n) = same_add (add_f s r) two n n first_exact.exact (same_refl n) in
        record {
          first_finite = t;
          last_finite = u;
          first_left_finite = first_exact.remainder_finite;
          last_left_finite = k.remainder_finite;
          exact = same_trans (add_f v (add_f r w)) (add_f (add_f v w) r) (add_f two n) (add_f_pos (add_f v w) r (add_f_pos v w vp wp) rp) a
              (same_trans (add_f (add_f v w) r) (add_f (add_f s n) r) (add_f two n) (add_f_pos (add_f s n) r (add_f_pos s n sp np) rp) b
              (same_trans (add_f (add_f s n) r) (add_f s (add_f r n)) (add_f two n) (add_f_pos s (add_f r n) sp (add_f_pos r n rp np)) c
              (same_trans (add_f s (add_f r n)) (add_f (add_f s r) n) (add_f two n) (add_f_pos (add_f s r) n s_r_pos np) d f)));
        }

  contributions_exact : (wanted : Bool) (w : QuantumTotal) → contributions_total e wanted ≡ held w → TotalsExactly e wanted w
  unfolding contributions_total finite_sum
  contributions_exact false w p =
      let a = then_held (finite_sum e.hard_sphere e.dispersion) _ w p in
      let m = met 7 _ (held first) a.0 a.1 in
      let is = held_inj first a.0 m.1 in
      let b = then_held (held (record { sum = a.0.sum; remainder = zero64 })) _ w a.2 in
      let q = held_inj _ b.0 b.1 in
      subst (TotalsExactly e false)
      (ap (λ (z : RoundedSum). alone_of z) is ∙ ap (λ (z : RoundedSum). pair a.0 z) q ∙ held_inj _ w b.2) (alone_exact (finite_of m.0))
    where
      pair : RoundedSum → RoundedSum → QuantumTotal
      pair x y = record { first = x; last = y }

      alone_of : RoundedSum → QuantumTotal
      alone_of x = record { first = x; last = record { sum = x.sum; remainder = zero64 } }
  contributions_exact true w p =
      let a = then_held (finite_sum e.hard_sphere e.dispersion) _ w p in
      let m = met 7 _ (held first) a.0 a.1 in
      let is = held_inj first a.0 m.1 in
      let b = then_held (finite_sum a.0.sum e.non_additive) _ w a.2 in
      let k = met 7 _ (held (rounded_sum a.0.sum e.non_additive)) b.0 b.1 in
      let q = held_inj (rounded_sum a.0.sum e.non_additive) b.0 k.1 in
      subst (TotalsExactly e true)
      (ap (λ (z : RoundedSum). both_of z) is ∙ ap (λ (z : RoundedSum). pair a.0 z) q ∙ held_inj _ w b.2)
      (both_exact (finite_of m.0) (finite_of (subst (λ (z : RoundedSum). finite (rounded_sum z.sum e.non_additive).sum ≡ true) (sym is) k.0)))
    where
      pair : RoundedSum → RoundedSum → QuantumTotal
      pair x y = record { first = x; last = y }

      both_of : RoundedSum → QuantumTotal
      both_of x = record { first = x; last = rounded_sum x.sum e.non_additive }

-- ---- of a call
pub total_exact : (s : SaftVRQMiePars) (t : Float) (x rho table : List Float) (wanted : Bool) (w : QuantumTotal) → total s t x rho table wanted ≡ held w → Totalled s t x rho table wanted w
unfolding total
total_exact s t x rho table wanted w p =
    let a = then_held (energies s t x rho table wanted) _ w p in
    record {
      contributions_of = a.0;
      held_so = a.1;
      totals = contributions_exact a.0 (energies_fit s t x rho table wanted a.0 a.1) wanted w a.2;
    }
