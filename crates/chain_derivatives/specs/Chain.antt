-- Slip 14 of document 02, 'The chain's slopes are derivatives': the terms as quotients of polynomials in the segment density, and what is claimed of their slopes.
use Rattle.std.specs.Prelude.{ℕ, ◌<◌, ◌≡◌, List, true, false, not, T, Float}
use Rattle.std.proofs.Math.Option.{some}
use Rattle.std.specs.Float.Ieee.{eq}
use Rattle.number.specs.Ans.{Ans, held}
use Rattle.number.specs.Arith.{Arith, Constant, decimal}
use Rattle.number.specs.Frac.{Frac, Pos, mul_f}
use Rattle.number.specs.Functions.{Functions, Answers, calls}
use Rattle.number.specs.Lists.{at}
use Rattle.histories.specs.History.{HistoryAnswers, Traced, histories, asks}
use Rattle.enclosure.specs.Constants.{Choice}
use Rattle.enclosure.specs.Exact.{Exact, exacts, exactly, is_zero, div_x}
use Rattle.dual.specs.Dual.{DualOf, duals, plain_d}
use Rattle.saftvrmie_parameters.specs.declared.PairParameters.{PairParameters}
use Rattle.saftvrmie_parameters.specs.declared.SaftVRMiePars.{SaftVRMiePars}
use Rattle.saftvrmie_dispersion.specs.Answer.{pair_in}
use Rattle.saftvrmie_dispersion.specs.Sutherland.{FluidIn, k_hs, fluid_of}
use Rattle.saftvrmie_dispersion.specs.Terms.{OrdersIn, term_orders_of}
use Rattle.saftvrmie_dispersion.specs.Chain.{fluid_dual}
use Rattle.saftvrmie_energies.specs.Properties.{PropertiesIn}
use Rattle.saftvrmie_energies.specs.Dispersion.{properties_at}
use Rattle.saftvrmie_energies.specs.Energies.{pure_at, state_in, energy_run}
use Rattle.chain_derivatives.specs.Polynomial.{evaluated}
use Rattle.chain_derivatives.specs.Quotient.{fractions, Quotient, constant_of, constant, variable, mul_q, quotients, value_at, derived, Equals}

-- A choice for the Rust's constants takes fractions, each over a positive whole number. Nothing hangs on whether they are near the constants.
abbrev pub OfFractions : Choice → Type 0
OfFractions C = (c : Constant) → Pos (C c)

-- 'the ratio of packing fraction to segment density held fixed': the density is the variable, zeta_x the ratio times it
unfoldable pub fluid_quotient : Choice → Frac → FluidIn Quotient
fluid_quotient C ratio =
    let z = mul_q (constant_of (some ratio)) variable in
    fluid_of (quotients C) variable z (k_hs (quotients C) z)

-- plain numbers of the exact run: by themselves, or with their histories
module _ (A : Arith) (F : Functions A.Num) where
  -- A component's first and second order as the chain works them (`chainPure`), with slopes by document 01's rules: from zeta_x and the segment density, the component and its diameter.
  abbrev pub sloped_by : A.Num → A.Num → PairParameters → Float → Ans (OrdersIn (DualOf A.Num))
  sloped_by zeta_x rho p d = term_orders_of A (duals A) (plain_d A) F (fluid_dual A zeta_x rho) (pair_in A.lit p) (A.lit d)

  -- 'with the elementary answers held fixed': the same two orders as quotients of polynomials in the segment density. Plain numbers, elementary answers among them, are constant.
  abbrev pub quotients_by : Choice → (A.Num → Exact) → Frac → PairParameters → Float → Ans (OrdersIn Quotient)
  quotients_by C exact ratio p d = term_orders_of A (quotients C) (λ x. constant (exact x)) F (fluid_quotient C ratio) (pair_in A.lit p) (A.lit d)

-- answers that hang on the arguments
abbrev pub sloped_orders : Choice → Answers → Exact → Exact → PairParameters → Float → Ans (OrdersIn (DualOf Exact))
sloped_orders C E zeta_x rho p d = sloped_by (exacts C) (calls (exacts C) E) zeta_x rho p d

abbrev pub quotient_orders : Choice → Answers → Frac → PairParameters → Float → Ans (OrdersIn Quotient)
quotient_orders C E ratio p d = quotients_by (exacts C) (calls (exacts C) E) C (λ x. x) ratio p d

-- ---- what is claimed
-- At the density x, of a value v and a slope s: v is P(x)/Q(x), and s is the value of (P'Q − PQ')/(QQ) there.
pub record IsDerivative (q : Quotient) (x v s : Frac) : Type 0 where
  pub divisor : T (not (is_zero (evaluated fractions q.denominator x)))
  pub value : Equals v (value_at q x)
  pub slope : Equals s (value_at (derived q) x)

-- Of a term with its slope, 'wherever .. no divisor met on the way is zero': a divisor of 0 ends the exact run with no result, so that this is wherever value and slope have one.
abbrev pub SlopeIsDerivative : Quotient → Frac → DualOf Exact → Type 0
SlopeIsDerivative q x t = (v s : Frac) → t.re.exact ≡ some v → t.eps.exact ≡ some s → IsDerivative q x v s

-- 'each pure component's first- and second-order term'
pub record BothOrders (x : Frac) (q : OrdersIn Quotient) (a1 a2 : DualOf Exact) : Type 0 where
  pub first : SlopeIsDerivative q.a1 x a1
  pub second : SlopeIsDerivative q.a2 x a2

-- A segment density of fraction x, and a zeta_x that is the ratio times it. 'wherever the density is not zero': the Rust branches on the float run's; as a fraction it is a divisor.
pub record DensityAt (ratio x : Frac) (zeta_x rho : Exact) : Type 0 where
  pub density : rho.exact ≡ some x
  pub proper : Pos x
  pub not_zero : eq rho.value (decimal false 0 0) ≡ false
  pub packing : (z : Frac) → zeta_x.exact ≡ some z → Equals z (mul_f ratio x)

-- Whatever fractions are chosen for the constants, whatever the elementary functions answer, the ratio, the component and its diameter: the quotients are fixed by these alone, and at every density the terms and their slopes are theirs.
abbrev pub ChainSlopes : Type 0
ChainSlopes =
    (C : Choice) → OfFractions C → (E : Answers) (ratio : Frac) (p : PairParameters) (d : Float) (x : Frac) (zeta_x rho : Exact) (o : OrdersIn (DualOf Exact))
    → DensityAt ratio x zeta_x rho → sloped_orders C E zeta_x rho p d ≡ held o
    → (q : OrdersIn Quotient) × (quotient_orders C E ratio p d ≡ held q) × BothOrders x q o.a1 o.a2

-- The same where an answer may hang on the whole expression that made its arguments, and so differ from call to call.
abbrev pub plain_dual : DualOf (Traced Exact) → DualOf Exact
plain_dual t = record { re = t.re.number; eps = t.eps.number }

abbrev pub ChainSlopesByHistory : Type 0
ChainSlopesByHistory =
    (C : Choice) → OfFractions C → (E : HistoryAnswers) (ratio : Frac) (p : PairParameters) (d : Float) (x : Frac) (zeta_x rho : Traced Exact) (o : OrdersIn (DualOf (Traced Exact)))
    → DensityAt ratio x zeta_x.number rho.number → sloped_by (histories (exacts C)) (asks (exacts C) E) zeta_x rho p d ≡ held o
    → (q : OrdersIn Quotient) × (quotients_by (histories (exacts C)) (asks (exacts C) E) C (λ x. x.number) ratio p d ≡ held q) × BothOrders x q (plain_dual o.a1) (plain_dual o.a2)

-- ---- the chain's own run
-- a term of the exact run has a result, and its slope is the derivative
pub record HasDerivative (q : Quotient) (x : Frac) (t : DualOf Exact) : Type 0 where
  pub v : Frac
  pub s : Frac
  pub value : t.re.exact ≡ some v
  pub slope : t.eps.exact ≡ some s
  pub derivative : IsDerivative q x v s

-- component i of a set, as the operation reads it
abbrev pub component : SaftVRMiePars → ℕ → PairParameters
component s i = pure_at s.sigma s.epsilon_k s.lr s.la s.sheets i

-- `Properties::new` of the exact run on a set
abbrev pub properties_of : Choice → Answers → SaftVRMiePars → Float → List Float → List Float → List Float → Ans (PropertiesIn Exact)
properties_of C E s t x rho d = properties_at (exacts C) (calls (exacts C) E) s.count (state_in exactly s t x rho d)

-- What the chain works for component i: two orders with slopes, and the quotients whose values and derivatives they are. Density and ratio are the exact run's own.
pub record Component (C : Choice) (E : Answers) (s : SaftVRMiePars) (d : List Float) (w : PropertiesIn Exact) (i : ℕ) : Type 0 where
  pub density : Frac
  pub ratio : Frac
  pub density_is : w.segment_density.exact ≡ some density
  pub ratio_is : (div_x w.zeta_x w.segment_density).exact ≡ some ratio
  pub orders : OrdersIn (DualOf Exact)
  pub worked : sloped_orders C E w.zeta_x w.segment_density (component s i) (at d i) ≡ held orders
  pub quotient : OrdersIn Quotient
  pub is_quotient : quotient_orders C E ratio (component s i) (at d i) ≡ held quotient
  pub first : HasDerivative quotient.a1 density orders.a1
  pub second : HasDerivative quotient.a2 density orders.a2

-- Wherever the exact run of dispersion with chain has a result, whatever fractions are chosen for the constants and whatever the elementary functions answer, and the float run's density is not zero: each component's slopes are derivatives.
abbrev pub OwnRun : Type 0
OwnRun =
    (C : Choice) → OfFractions C → (E : Answers) (s : SaftVRMiePars) (t : Float) (x rho d : List Float) (w : PropertiesIn Exact) (e : Exact) (f : Frac)
    → properties_of C E s t x rho d ≡ held w → eq w.segment_density.value (decimal false 0 0) ≡ false
    → energy_run (exacts C) (calls (exacts C) E) s t x rho d true ≡ held e → e.exact ≡ some f
    → (i : ℕ) → i < s.count → Component C E s d w i

-- ---- the claim is not empty
-- a term that has a result, with a slope that is not zero
pub record Moves (t : DualOf Exact) : Type 0 where
  pub v : Frac
  pub s : Frac
  pub value : t.re.exact ≡ some v
  pub slope : t.eps.exact ≡ some s
  pub not_zero : T (not (is_zero s))

-- a state of `OwnRun` at which both terms of the first component do
pub record Example : Type 0 where
  pub C : Choice
  pub of_fractions : OfFractions C
  pub E : Answers
  pub s : SaftVRMiePars
  pub t : Float
  pub x : List Float
  pub rho : List Float
  pub d : List Float
  pub w : PropertiesIn Exact
  pub e : Exact
  pub f : Frac
  pub properties_are : properties_of C E s t x rho d ≡ held w
  pub not_zero : eq w.segment_density.value (decimal false 0 0) ≡ false
  pub run : energy_run (exacts C) (calls (exacts C) E) s t x rho d true ≡ held e
  pub result : e.exact ≡ some f
  pub count : s.count ≡ 1
  pub orders : OrdersIn (DualOf Exact)
  pub worked : sloped_orders C E w.zeta_x w.segment_density (component s 0) (at d 0) ≡ held orders
  pub first : Moves orders.a1
  pub second : Moves orders.a2

-- Slip 14
pub record Slip14 : Type 0 where
  pub chain_slopes : ChainSlopes
  pub by_history : ChainSlopesByHistory
  pub own_run : OwnRun
  pub example : Example
