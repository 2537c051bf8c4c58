-- Slip 3 of document 02, 'Exact corners of the power', in one result. The definitions are those that the operations' contracts cite.
-- Every f64 fits the format, so that `fits` is for the logic alone, whose floats need not.
use Rattle.std.specs.Prelude.{ℕ, ◌+◌, ◌*◌, ◌^◌, ◌<◌, ◌≡◌, Bool, false, List, T, pos, Float}
use Rattle.std.specs.Float.{fin, binary64}
use Rattle.std.specs.Float.Ieee.{fits, lt}
use Rattle.std.specs.Float.Ieee.Scale.{finite}
use Rattle.number.specs.Ans.{Ans, held}
use Rattle.number.specs.Arith.{floats, bits, decimal, one64}
use Rattle.number.specs.Frac.{Frac, val_f}
use Rattle.number.specs.Functions.{calls}
use Rattle.number.specs.Lists.{at}
use Rattle.sizes.specs.Sizes.{sheet, cell}
use Rattle.series.specs.Exact.{PowerValue}
use Rattle.series.specs.Distance.{within}
use Rattle.number.specs.Domain.{base_inside, exponent_inside}
use Rattle.elementary.specs.Port.{port}
use Rattle.limits.specs.Limits.{square}
use Rattle.saftvrqmie_parameters.specs.Parameters as Quantum
use Rattle.saftvrqmie_parameters.specs.declared.SaftVRQMiePars.{SaftVRQMiePars}
use Rattle.saftvrmie_parameters.specs.Parameters as Mie
use Rattle.saftvrmie_parameters.specs.declared.SaftVRMiePars.{SaftVRMiePars}
use Rattle.saftvrqmie_dispersion_terms.specs.Terms.{ilambda}
use Rattle.saftvrmie_dispersion.specs.Sutherland.{i_of}

abbrev three : Float
three = decimal false 3 0

abbrev six : Float
six = decimal false 6 0

abbrev twelve : Float
twelve = decimal false 12 0

-- 4, by its bits
abbrev four : Float
four = bits 0x4010_0000_0000_0000

-- 'A power with exponent 0 or base 1 shall give exactly 1, with exponent 1 its base, and otherwise stay within 2^−50 of its exact value.' Of the answer a to base x and exponent y, both inside; the exact value is any of the bracket, which has one.
pub record PowerAt (x y : Float) (a : Ans Float) : Type 0 where
  pub exponent_zero : T (base_inside x) → (minus : Bool) → y ≡ fin minus 0 (pos 0) → a ≡ held one64
  pub base_one : T (exponent_inside y) → x ≡ one64 → a ≡ held one64
  pub exponent_one : T (base_inside x) → y ≡ one64 → a ≡ held x
  pub otherwise : T (base_inside x) → T (exponent_inside y) → (y ≡ one64 → ⊥)
      → (r : Float) × (a ≡ held r) × T (finite r) × ((v : Frac) → PowerValue (val_f x) (val_f y) v → within (2 ^ 50) (val_f r) v)
  pub value : T (base_inside x) → T (exponent_inside y) → (v : Frac) × PowerValue (val_f x) (val_f y) v

-- 'With exponents 12 and 6 the prefactor c should be exactly 4': of what the sheets hold at a pair
abbrev FourAt : Float → Float → Float → Type 0
FourAt lr la c = lr ≡ twelve → la ≡ six → c ≡ four

-- components i and j of the lists stand at 12 and 6
pub record ComponentsAt (lr la : List Float) (i j : ℕ) : Type 0 where
  pub lr_i : at lr i ≡ twelve
  pub lr_j : at lr j ≡ twelve
  pub la_i : at la i ≡ six
  pub la_j : at la j ≡ six

-- 'The parameter modules then promise c of exactly 4 for a pair at 12 and 6.' Of the set s that is held for the lists l, and of each pair in use: lr_ij, la_ij and c_ij stand in sheets 3, 4 and 2
pub record QuantumSet (l : Quantum.Lists) (s : SaftVRQMiePars) : Type 0 where
  pub four_at : (i j : ℕ) → i < s.count → j < s.count
      → FourAt (at s.sheets (3 * sheet + cell i j)) (at s.sheets (4 * sheet + cell i j)) (at s.sheets (2 * sheet + cell i j))
  -- components at 12 and 6 make such a pair
  pub pair : (i j : ℕ) → i < s.count → j < s.count → ComponentsAt l.lr l.la i j
      → (at s.sheets (3 * sheet + cell i j) ≡ twelve) × (at s.sheets (4 * sheet + cell i j) ≡ six) × (at s.sheets (2 * sheet + cell i j) ≡ four)

-- a gamma_ij that leaves the exponent lr as the components have it: 1 - gamma_ij is 1
abbrev Leaves : Float → Type 0
Leaves gamma = floats.sub one64 gamma ≡ one64

-- the same of SAFT-VR Mie, whose lr_ij, la_ij and c_ij stand in sheets 2, 3 and 4
pub record MieSet (l : Mie.Lists) (s : SaftVRMiePars) : Type 0 where
  pub four_at : (i j : ℕ) → i < s.count → j < s.count
      → FourAt (at s.sheets (2 * sheet + cell i j)) (at s.sheets (3 * sheet + cell i j)) (at s.sheets (4 * sheet + cell i j))
  pub pair : (i j : ℕ) → i < s.count → j < s.count → ComponentsAt l.lr l.la i j → Leaves (square l.count l.gamma_ij i j)
      → (at s.sheets (2 * sheet + cell i j) ≡ twelve) × (at s.sheets (3 * sheet + cell i j) ≡ six) × (at s.sheets (4 * sheet + cell i j) ≡ four)
  -- no other gamma_ij does
  pub only : (i j : ℕ) → i < s.count → j < s.count → ComponentsAt l.lr l.la i j → at s.sheets (2 * sheet + cell i j) ≡ twelve → Leaves (square l.count l.gamma_ij i j)
  -- a component with itself has such a gamma_ij
  pub diagonal : (i : ℕ) → i < s.count → T (fits binary64 (square l.count l.gamma_ij i i)) → Leaves (square l.count l.gamma_ij i i)

-- the zero that `ilambda` is at ratio 1: −0 where lambda is above 3, +0 where it is below
abbrev zero_at : Float → Float
zero_at lambda = fin (lt three lambda) 0 (pos 0)

pub record Slip3 : Type 0 where
  pub power : (x y : Float) → T (fits binary64 x) → T (fits binary64 y) → PowerAt x y (port.powf x y)
  pub quantum : (l : Quantum.Lists) (s : SaftVRQMiePars) → Quantum.saft_vrq_mie_pars l ≡ held s → QuantumSet l s
  pub mie : (l : Mie.Lists) (s : SaftVRMiePars) → Mie.saft_vr_mie_pars l ≡ held s → MieSet l s
  -- either zero as gamma_ij leaves lr
  pub zero_leaves : (minus : Bool) → Leaves (fin minus 0 (pos 0))
  -- '`ilambda` at ratio 1 promises zero for every lambda but 3 whose power is accepted': of base 1 by 3 - lambda
  pub ilambda_zero : (lambda p : Float) → T (fits binary64 lambda) → (lambda ≡ three → ⊥) → port.powf one64 (floats.sub three lambda) ≡ held p
      → ilambda floats lambda ((calls floats port).powf one64) ≡ held (zero_at lambda)
  -- the same integral in `b_ij` of SAFT-VR Mie
  pub i_zero : (lambda p : Float) → T (fits binary64 lambda) → (lambda ≡ three → ⊥) → port.powf one64 (floats.sub three lambda) ≡ held p
      → i_of floats floats (λ x. x) p lambda ≡ zero_at lambda
