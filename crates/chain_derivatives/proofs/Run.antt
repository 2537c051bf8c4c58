-- Where the exact run of dispersion with chain has a result, so have each component's two orders and their slopes: each is a part of the energy. Then they are derivatives. Assumes nothing.
use Prim.Native.Nat.{ℕ, zero, suc, ◌+◌, ◌-◌, ◌<◌, ◌≤◌}
use native.Mathlib.Nat.{lt_of_not-le}
use native.Mathlib.Decide.{dec_le}
use native.Mathlib.Omega.{arith}
use mathlib.Core.Path.{◌≡◌, refl, sym, ◌∙◌, subst}
use mathlib.Core.Logic.{◌⊎◌, inl, inr}
use mathlib.Core.List.{List}
use mathlib.Core.Bool.{false, not}
use lib.Dec.{T}
use lib.Ieee.{Float, eq}
use Rattle.number.specs.Ans.{Ans, held, refused, ◌>>=◌}
use Rattle.number.specs.Arith.{decimal}
use Rattle.number.specs.Frac.{Frac, mul_f}
use Rattle.number.specs.Functions.{Answers, Functions, calls}
use Rattle.number.specs.Lists.{at}
use Rattle.number.specs.Walk.{walk}
use Rattle.number.proofs.Rel.{calls_rel}
use Rattle.enclosure.specs.Constants.{Choice}
use Rattle.enclosure.specs.Exact.{Exact, exacts, exactly, is_zero, div_x}
use Rattle.dual.specs.Dual.{DualOf, duals, plain_d, mul_d, sub_d, div_d, pow_d}
use Rattle.saftvrmie_parameters.specs.declared.SaftVRMiePars.{SaftVRMiePars}
use Rattle.saftvrmie_dispersion.specs.Sutherland.{FluidIn, k_hs, fluid_of}
use Rattle.saftvrmie_dispersion.specs.Terms.{PairIn, BarIn, OrdersIn, TermsIn, SumsIn, add_pure, add_pair, a2_of, term_orders_of}
use Rattle.saftvrmie_dispersion.specs.Chain.{KIn, LinkIn, rho_dual, zeta_dual, fluid_dual, g1_of, g2_of, add_link, ln_g_mie, link_of, chain_pure}
use Rattle.mie_parameters.specs.Sums.{orders_sum}
use Rattle.saftvrmie_energies.specs.Properties.{PropertiesIn}
use Rattle.saftvrmie_energies.specs.Dispersion.{StateIn, properties_at, pair_turn, pair_row, chain_row, chain_rows, dispersion_chain}
use Rattle.saftvrmie_energies.specs.Energies.{state_in, energy_run}
use Rattle.saftvrmie_energies.proofs.Relation.{weighted_rel, xs_of_rel, properties_rel, state_rel}
use Rattle.chain_derivatives.specs.Quotient.{Quotient, Equals}
use Rattle.chain_derivatives.specs.Chain.{OfFractions, SlopeIsDerivative, DensityAt, component, properties_of, HasDerivative, OwnRun}
use Rattle.chain_derivatives.proofs.Stands.{Stands, itself, equals, stands_mul, stands_div}
use Rattle.chain_derivatives.proofs.Results.{Has, Some, Proper, known, one_result, from_add, from_sub, from_mul, from_div, has_div}
use Rattle.chain_derivatives.proofs.Derives.{base_4}
use Rattle.chain_derivatives.proofs.Chain.{both_of, not_held, held_same, chain_slopes}

-- ---- what came before an answer that is held
pub before : {S T : Type 0} (a : Ans S) (f : S → Ans T) (t : T) → a >>= f ≡ held t → (x : S) × (a ≡ held x) × (f x ≡ held t)
unfolding ◌>>=◌
before (held x) f t e = (x, refl, e)
before (refused n) f t e = absurd (not_held e)

-- the turns of a walk that ended well: what holds at its end held before each turn, and each turn shows Q
module _ {S : Type 0} (P : S → Type 0) (Q : ℕ → Type 0) (f : ℕ → S → Ans S) (step : (j : ℕ) (s t : S) → f j s ≡ held t → P t → P s × Q j) where
  pub walked : (n : ℕ) (s a : S) → walk n f s ≡ held a → P a → P s × ((i : ℕ) → i < n → Q i)
  unfolding walk
  walked zero s a e h = (subst P (sym (held_same e)) h, λ i l. absurd (nothing_below i l))
    where
      nothing_below : (i : ℕ) → i < 0 → ⊥
      nothing_below i l = omega arith
  walked (suc n) s a e h =
      let k = before (walk n f s) (f n) a e in
      let m = step n k.0 a k.2 h in
      let r = walked n s k.0 k.1 m.0 in
      (r.0, λ i l. pick i m.1 r.1 (last i l))
    where
      last : (i : ℕ) → i < suc n → (i ≡ n) ⊎ (i < n)
      last i l = go (dec_le (suc i) n)
        where
          go : Dec (suc i ≤ n) → (i ≡ n) ⊎ (i < n)
          go (yes k) = inr k
          go (no k) = let m = lt_of_not-le k in inl (omega arith)

      pick : (i : ℕ) → Q n → ((j : ℕ) → j < n → Q j) → (i ≡ n) ⊎ (i < n) → Q i
      pick i q h (inl e) = subst Q (sym e) q
      pick i q h (inr l) = h i l

-- ---- sums with results
pub record AllSome (s : SumsIn Exact) : Type 0 where
  pub a1 : Some s.a1
  pub a2 : Some s.a2
  pub a3 : Some s.a3
  pub a_chain : Some s.a_chain

from_pair : (C : Choice) (xi xj : Exact) (t : TermsIn Exact) (s : SumsIn Exact) → AllSome (add_pair (exacts C) xi xj t s) → AllSome s
unfolding add_pair
from_pair C xi xj t s h = record { a1 = (from_add _ _ h.a1).0; a2 = (from_add _ _ h.a2).0; a3 = (from_add _ _ h.a3).0; a_chain = h.a_chain }

-- both orders with their slopes
pub record OrdersSome (o : OrdersIn (DualOf Exact)) : Type 0 where
  pub a1 : Some o.a1.re
  pub a1' : Some o.a1.eps
  pub a2 : Some o.a2.re
  pub a2' : Some o.a2.eps

from_g1 : (C : Choice) (o : OrdersIn (DualOf Exact)) (p : PairIn Exact) (x : Exact) → Some (g1_of (exacts C) o p x) → Some o.a1.eps
unfolding g1_of
from_g1 C o p x h = (from_mul _ _ (from_div _ _ (from_sub _ _ h).0).0).0

from_g2 : (C : Choice) (o : OrdersIn (DualOf Exact)) (p : PairIn Exact) (x k : Exact) → Some (g2_of (exacts C) o p x k) → Some o.a2.eps
unfolding g2_of
from_g2 C o p x k h = (from_mul _ _ (from_div _ _ (from_div _ _ (from_sub _ _ h).0).0).0).0

module _ (C : Choice) (F : Functions Exact) where
  from_link : (k : KIn Exact) (z : Exact) (o : OrdersIn (DualOf Exact)) (h : Exact) (p : PairIn Exact) (d : Exact) (l : LinkIn Exact) (y : Exact)
      → link_of (exacts C) F k z o h p d l ≡ held y → Some y → Some o.a1.eps × Some o.a2.eps
  unfolding link_of ln_g_mie
  from_link k z o h p d l y e s =
      let g = before _ _ y e in
      let c = before _ _ y g.2 in
      let n = before _ _ y c.2 in
      let m = before _ _ n.0 n.1 in
      let ln-g = (from_mul _ _ (subst Some (sym (held_same n.2)) s)).1 in
      let both = from_add _ _ (from_div _ _ (from_add _ _ (subst Some (sym (held_same m.2)) ln-g)).1).0 in
      (from_g1 C o p _ (from_mul _ _ both.0).1, from_g2 C o p _ h (from_mul _ _ (from_mul _ _ both.1).1).0)

  from_chain : (w : FluidIn (DualOf Exact)) (b : BarIn Exact) (k : KIn Exact) (p : PairIn Exact) (d : Exact) (l : LinkIn Exact) (x : Exact) (s t : SumsIn Exact)
      → chain_pure (exacts C) F w b k p d l x s ≡ held t → AllSome t
      → AllSome s × ((o : OrdersIn (DualOf Exact)) × (term_orders_of (exacts C) (duals (exacts C)) (plain_d (exacts C)) F w p d ≡ held o) × OrdersSome o)
  unfolding chain_pure add_pure add_link
  from_chain w b k p d l x s t e h =
      let o = before _ _ t e in
      let a = before _ _ t o.2 in
      let y = before _ _ t a.2 in
      let g = subst AllSome (sym (held_same y.2)) h in
      let c = from_add _ _ g.a_chain in
      let m = from_link k _ o.0 _ p d l y.0 y.1 c.1 in
      let p1 = from_add _ _ g.a1 in
      let p2 = from_add _ _ g.a2 in
      let p3 = from_add _ _ g.a3 in (
        record { a1 = p1.0; a2 = p2.0; a3 = p3.0; a_chain = c.0 },
        (o.0, o.1, record { a1 = (from_mul _ _ p1.1).0; a1' = m.0; a2 = (from_mul _ _ (from_mul _ _ p2.1).0).0; a2' = m.1 }),
      )

  module _ (n : ℕ) (xs d : ℕ → Exact) (pair : ℕ → ℕ → PairIn Exact) (w : FluidIn Exact) (bar : BarIn Exact) (pure : ℕ → PairIn Exact) (v : FluidIn (DualOf Exact)) (k : KIn Exact) (link : ℕ → LinkIn Exact) where
    -- what is shown of component i
    abbrev Shown : ℕ → Type 0
    Shown i = (o : OrdersIn (DualOf Exact)) × (term_orders_of (exacts C) (duals (exacts C)) (plain_d (exacts C)) F v (pure i) (d i) ≡ held o) × OrdersSome o

    from_row : (i : ℕ) (s t : SumsIn Exact) → pair_row (exacts C) F n xs d pair w bar i s ≡ held t → AllSome t → AllSome s
    unfolding pair_row pair_turn
    from_row i s t e h = (walked AllSome (λ _. Unit {0}) (λ j. pair_turn (exacts C) F xs d pair w bar i (i + 1 + j)) (λ j y z q g. let m = before _ _ z q in (from_pair C _ _ m.0 y (subst AllSome (sym (held_same m.2)) g), tt)) (n - (i + 1)) s t e h).0

    from_rows : (a : SumsIn Exact) → chain_rows (exacts C) F n xs d pair w bar pure v k link ≡ held a → AllSome a → (i : ℕ) → i < n → Shown i
    unfolding chain_rows chain_row
    from_rows a e h =
        (walked AllSome Shown (λ i. chain_row (exacts C) F n xs d pair w bar v k (pure i) (link i) i)
        (λ i s t q g. let m = before _ _ t q in from_chain v bar k (pure i) (d i) (link i) (xs i) s m.0 m.1 (from_row i m.0 t m.2 g)) n _ a e h).1

  module _ (n : ℕ) (s : StateIn Exact) where
    from_energy : (q : PropertiesIn Exact) (e : Exact) → properties_at (exacts C) F n s ≡ held q → dispersion_chain (exacts C) F n s ≡ held e → Some e
        → (i : ℕ) → i < n → (o : OrdersIn (DualOf Exact)) × (term_orders_of (exacts C) (duals (exacts C)) (plain_d (exacts C)) F (fluid_dual (exacts C) q.zeta_x q.segment_density) (s.pure i) (s.diameter i) ≡ held o) × OrdersSome o
    unfolding dispersion_chain orders_sum
    from_energy q e p r h =
        let m = before _ _ e r in
        let a = before _ _ e m.2 in
        let all = from_add _ _ (from_mul _ _ (subst Some (sym (held_same a.2)) h)).1 in
        let sum = from_add _ _ (from_mul _ _ all.0).1 in
        let two = from_add _ _ sum.0 in
        let some-sums : AllSome a.0 = record { a1 = (from_mul _ _ two.0).0; a2 = (from_mul _ _ two.1).0; a3 = (from_mul _ _ sum.1).0; a_chain = all.1 } in
        subst (λ (y : PropertiesIn Exact). (i : ℕ) → i < n → (o : OrdersIn (DualOf Exact)) × (term_orders_of (exacts C) (duals (exacts C)) (plain_d (exacts C)) F (fluid_dual (exacts C) y.zeta_x y.segment_density) (s.pure i) (s.diameter i) ≡ held o) × OrdersSome o)
        (held_same (sym m.1 ∙ p))
        (from_rows n _ _ _ _ _ _ _ _ _ a.0 a.1 some-sums)

  from_packing : (z r : Exact) → eq r.value (decimal false 0 0) ≡ false → Some (zeta_dual (exacts C) z r).re → Some (div_x z r) × Some r
  unfolding zeta_dual rho_dual mul_d plain_d
  from_packing z r n h = from_mul _ _ (rw n at h)

  -- the second order has k_hs as a factor, and so the packing fraction
  from_second : (z r : Exact) (p : PairIn Exact) (d : Exact) (o : OrdersIn (DualOf Exact)) → eq r.value (decimal false 0 0) ≡ false
      → term_orders_of (exacts C) (duals (exacts C)) (plain_d (exacts C)) F (fluid_dual (exacts C) z r) p d ≡ held o → Some o.a2.re → Some (div_x z r) × Some r
  unfolding term_orders_of a2_of fluid_dual fluid_of k_hs mul_d div_d sub_d pow_d plain_d
  from_second z r p d o n e h =
      let m = before _ _ o e in
      let k = (from_mul _ _ (from_mul _ _ (from_mul _ _ (subst (λ (y : OrdersIn (DualOf Exact)). Some y.a2.re) (sym (held_same m.2)) h)).0).0).1 in
      from_packing z r n (from_sub _ _ (base_4 _ (from_div _ _ k).0)).0

-- ---- the chain's own run
module _ (C : Choice) (fine : OfFractions C) (E : Answers) (s : SaftVRMiePars) (t : Float) (x rho d : List Float) where
  abbrev F : Functions Exact
  F = calls (exacts C) E

  -- density and packing fraction are over positive whole numbers, as every number of the exact run
  properties_proper : (w : PropertiesIn Exact) → properties_of C E s t x rho d ≡ held w → Proper w.segment_density × Proper w.zeta_x
  properties_proper w e =
      let H = calls_rel (exacts C) (exacts C) (known C fine) E in
      let h = state_rel (exacts C) (exacts C) (known C fine) F F H s t x rho d in
      let mean = weighted_rel (exacts C) (exacts C) (known C fine) s.count _ _ _ _ h.fraction h.m in
      let xs = xs_of_rel (exacts C) (exacts C) (known C fine) s.count _ _ _ _ _ _ h.fraction h.m mean in
      let b = both_of w (properties_rel (exacts C) (exacts C) (known C fine) F F H s.count _ _ _ _ _ _ _ _ _ _ xs h.density h.diameter h.m h.pair) e in
      (b.2.segment_density.proper, b.2.zeta_x.proper)

  -- with the exact run's own ratio: zeta_x is the ratio times the density
  at_density : (w : PropertiesIn Exact) (r y : Frac) → Proper w.segment_density → Proper w.zeta_x → eq w.segment_density.value (decimal false 0 0) ≡ false
      → Has w.segment_density y → Has (div_x w.zeta_x w.segment_density) r → DensityAt r y w.zeta_x w.segment_density
  at_density w r y p q n h k = record { density = h; proper = p y h; not_zero = n; packing = λ z e. packed z e }
    where
      packed : (z : Frac) → Has w.zeta_x z → Equals z (mul_f r y)
      packed z e =
          let m = from_div w.zeta_x w.segment_density (r, k) in
          let nonzero = subst (λ (f : Frac). T (not (is_zero f))) (one_result w.segment_density _ y m.1.1 h) m.1.2 in
          let is = one_result (div_x w.zeta_x w.segment_density) _ r (has_div _ _ z y e h nonzero) k in
          let zs = itself z (q z e) in
          let ys = itself y (p y h) in
          let u = stands_div z y _ _ zs ys nonzero in
          equals z (mul_f r y) _ zs (subst (Stands (mul_f r y)) u.2 (stands_mul r y _ _ (subst (λ (f : Frac). Stands f u.0) is u.1) ys))

pub own_run : OwnRun
unfolding energy_run
own_run C fine E s t x rho d w e f p n r h i l =
    let k = from_energy C (calls (exacts C) E) s.count (state_in exactly s t x rho d) w e p r (f, h) i l in
    let m = from_second C (calls (exacts C) E) w.zeta_x w.segment_density _ _ k.0 n k.1 k.2.a2 in
    let g = properties_proper C fine E s t x rho d w p in
    let c = chain_slopes C fine E m.0.0 (component s i) (at d i) m.1.0 w.zeta_x w.segment_density k.0 (at_density C fine E s t x rho d w m.0.0 m.1.0 g.0 g.1 n m.1.1 m.0.1) k.1 in
    record {
      density = m.1.0;
      ratio = m.0.0;
      density_is = m.1.1;
      ratio_is = m.0.1;
      orders = k.0;
      worked = k.1;
      quotient = c.0;
      is_quotient = c.1;
      first = has_derivative c.0.a1 m.1.0 k.0.a1 c.2.first k.2.a1 k.2.a1';
      second = has_derivative c.0.a2 m.1.0 k.0.a2 c.2.second k.2.a2 k.2.a2';
    }
  where
    has_derivative : (q : Quotient) (y : Frac) (t : DualOf Exact) → SlopeIsDerivative q y t → Some t.re → Some t.eps → HasDerivative q y t
    has_derivative q y t h a b = record { v = a.0; s = b.0; value = a.1; slope = b.1; derivative = h a.0 b.0 a.1 b.1 }
