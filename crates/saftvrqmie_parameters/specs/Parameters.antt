-- The quantum parameters: their tests in document 01's order, and the set.
use Rattle.std.specs.Prelude.{◌≡◌, ◌≤◌, ℕ, ◌*◌, max, eqb, leb, Float, get_or, length, set, replicate, List, [], ◌∷◌, Bool, true, not, ◌&&◌, cond}
use Rattle.number.specs.Arith.{floats, zero64}
use Rattle.number.specs.Ans.{Ans, held, ◌>>=◌, demand}
use Rattle.number.specs.Functions.{calls}
use Rattle.number.specs.Lists.{at}
use Rattle.sizes.specs.Sizes.{side, sheet, cell}
use Rattle.number.specs.Walk.{turns, walk}
use Rattle.elementary.specs.Port.{port}
use Rattle.mie_parameters.specs.Combine.{epsilon_k_ij, lambda_ij, c_ij}
use Rattle.limits.specs.declared.Component.{Component}
use Rattle.limits.specs.Limits.{square, components, count_within, components_within, masses_within, pairs_within, is_one, all_one}
use Rattle.saftvrqmie_parameters.specs.Combine.{sigma_ij, mass_ij}
use Rattle.saftvrqmie_parameters.specs.declared.ComponentLists.{ComponentLists}
use Rattle.saftvrqmie_parameters.specs.declared.FeynmanHibbsOrder.{FeynmanHibbsOrder}
use Rattle.saftvrqmie_parameters.specs.declared.FeynmanHibbsOrder.TheVariants.{FH0, FH1, FH2}
use Rattle.saftvrqmie_parameters.specs.declared.OrderRecord.{OrderRecord}
use Rattle.mie_parameters.specs.Places.{in_places}
use Rattle.mie_parameters.specs.Answer.{stored}
use Rattle.mie_parameters.specs.Sheets as Sheets
use Rattle.mie_parameters.specs.Sheets.{store_row}
use Rattle.saftvrqmie_parameters.specs.declared.PairParameters.{PairParameters}
use Rattle.saftvrqmie_parameters.specs.declared.SaftVRQMiePars.{SaftVRQMiePars}

-- the lists that a caller hands; fh are the order's bytes
pub record Lists : Type 0 where
  pub count : ℕ
  pub m : List Float
  pub sigma : List Float
  pub epsilon_k : List Float
  pub lr : List Float
  pub la : List Float
  pub mass : List Float
  pub fh : List ℕ
  pub k_ij : List Float
  pub l_ij : List Float

abbrev pub lists_of : ComponentLists → Lists
lists_of l =
    record {
      count = l.count;
      m = l.m.now;
      sigma = l.sigma.now;
      epsilon_k = l.epsilon_k.now;
      lr = l.lr.now;
      la = l.la.now;
      mass = l.mass.now;
      fh = l.fh.now;
      k_ij = l.k_ij.now;
      l_ij = l.l_ij.now;
    }

-- ---- 1 to 5

-- 1: the count is outside, or a list has another length than the count (pairs: its square)
unfoldable pub right_lengths : Lists → Bool
right_lengths l =
    count_within l.count
    && eqb (length l.m) l.count
    && eqb (length l.sigma) l.count
    && eqb (length l.epsilon_k) l.count
    && eqb (length l.lr) l.count
    && eqb (length l.la) l.count
    && eqb (length l.mass) l.count
    && eqb (length l.fh) l.count
    && eqb (length l.k_ij) (l.count * l.count)
    && eqb (length l.l_ij) (l.count * l.count)

-- what right lengths say of the lists that the sheets are worked from
abbrev pub Fitting : Lists → Type 0
Fitting l =
    (l.count ≤ side)
    × (length l.sigma ≡ l.count) × (length l.epsilon_k ≡ l.count) × (length l.lr ≡ l.count) × (length l.la ≡ l.count)
    × (length l.mass ≡ l.count) × (length l.k_ij ≡ l.count * l.count) × (length l.l_ij ≡ l.count * l.count)

abbrev pub component_of : Lists → ℕ → Component
component_of l = components l.sigma l.epsilon_k l.lr l.la

-- 2: a number is outside its limit, m excepted
unfoldable pub within_limits : ℕ → (ℕ → Component) → (ℕ → Float) → (ℕ → ℕ → Float) → (ℕ → ℕ → Float) → Bool
within_limits n c mass k l = components_within n c && masses_within n mass && pairs_within n k && pairs_within n l

abbrev pub within_in : Lists → Bool
within_in l = within_limits l.count (component_of l) (at l.mass) (square l.count l.k_ij) (square l.count l.l_ij)

-- `SaftVRQMieRecord::new`: 3 if m is not equal to 1.0, NaN included
unfoldable pub record_m : Float → Ans Bool
record_m m = demand 3 (is_one m)

-- at a pair the larger order is tested first, then the product of the orders against 2
unfoldable pub pair_orders : ℕ → ℕ → Ans Bool
pair_orders a b = demand 4 (leb (max a b) 2) >>= λ _. demand 5 (not (eqb (a * b) 2))

-- pairs are walked row by row
unfoldable pub order_row : ℕ → List ℕ → ℕ → Ans Bool
order_row n fh i = walk n (λ j _. pair_orders (get_or fh i 0) (get_or fh j 0)) true

unfoldable pub order_walk : ℕ → List ℕ → Ans Bool
order_walk n fh = walk n (λ i _. order_row n fh i) true

-- ---- the set

-- what stands in the six sheets at a pair; 6 if an elementary argument is outside
unfoldable pub pair_parameters : Component → Component → Float → Float → Float → Float → Ans PairParameters
pair_parameters a b ma mb k l =
    let sigma = sigma_ij floats a.sigma b.sigma l in
    epsilon_k_ij floats (calls floats port) a.sigma b.sigma a.epsilon_k b.epsilon_k sigma k >>= λ epsilon_k.
    lambda_ij floats (calls floats port) a.lr b.lr >>= λ lr.
    lambda_ij floats (calls floats port) a.la b.la >>= λ la.
    c_ij floats (calls floats port) lr la >>= λ c.
    held (record { sigma = sigma; epsilon_k = epsilon_k; c = c; lr = lr; la = la; mass = mass_ij floats ma mb })

-- in the order of the sheets, which is that of the Rust's fields
abbrev pub row_of : PairParameters → List Float
row_of p = p.sigma ∷ p.epsilon_k ∷ p.c ∷ p.lr ∷ p.la ∷ p.mass ∷ []

-- the six sheets at one entry
abbrev pub store_pair : List Float → ℕ → PairParameters → List Float
store_pair s e p = store_row s e (row_of p)

module _ (n : ℕ) (c : ℕ → Component) (mass : ℕ → Float) (k l : ℕ → ℕ → Float) where
  abbrev pub pair_of : ℕ → ℕ → Ans PairParameters
  pair_of i j = pair_parameters (c i) (c j) (mass i) (mass j) (k i j) (l i j)

  -- +0 where unused
  abbrev pub sheets_of : Ans (List Float)
  sheets_of = Sheets.sheets_of row_of n pair_of

abbrev pub pair_in : Lists → ℕ → ℕ → Ans PairParameters
pair_in l = pair_of l.count (component_of l) (at l.mass) (square l.count l.k_ij) (square l.count l.l_ij)

-- `FeynmanHibbsOrder::try_from`; where it is used the number is at most 2
abbrev pub order_of : ℕ → FeynmanHibbsOrder
order_of n = cond (eqb n 0) FH0 (cond (eqb n 1) FH1 FH2)

-- 'FH0 if unused'
abbrev pub unused : OrderRecord
unused = record { order = FH0 }

-- fh_ij: the larger order of the two
unfoldable pub orders_turn : List ℕ → ℕ → ℕ → List OrderRecord → List OrderRecord
orders_turn fh i j s = set s (cell i j) (record { order = order_of (max (get_or fh i 0) (get_or fh j 0)) })

unfoldable pub orders_row : ℕ → List ℕ → ℕ → List OrderRecord → List OrderRecord
orders_row n fh i s = turns n (orders_turn fh i) s

unfoldable pub orders_of : ℕ → List ℕ → List OrderRecord
orders_of n fh = turns n (orders_row n fh) (replicate sheet unused)

-- ---- the operation: the first that applies is given
unfoldable pub saft_vrq_mie_pars : Lists → Ans SaftVRQMiePars
saft_vrq_mie_pars l =
    demand 1 (right_lengths l) >>= λ _.
    demand 2 (within_limits l.count (component_of l) (at l.mass) (square l.count l.k_ij) (square l.count l.l_ij)) >>= λ _.
    demand 3 (all_one l.count (at l.m)) >>= λ _.
    order_walk l.count l.fh >>= λ _.
    sheets_of l.count (component_of l) (at l.mass) (square l.count l.k_ij) (square l.count l.l_ij) >>= λ s.
    held (record { count = l.count; m = in_places floats l.count (at l.m); sheets = s; orders = orders_of l.count l.fh })

-- the set beside a refusal: count 0, all +0, FH0
abbrev pub empty_set : SaftVRQMiePars
empty_set = record { count = 0; m = replicate side zero64; sheets = replicate (6 * sheet) zero64; orders = replicate sheet unused }

-- the set beside an answer
abbrev pub set_of : Ans SaftVRQMiePars → SaftVRQMiePars
set_of = stored empty_set
