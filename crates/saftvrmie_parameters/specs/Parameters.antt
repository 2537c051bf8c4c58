-- The parameters of SAFT-VR Mie: their tests in document 01's order, and the set.
use Rattle.std.specs.Prelude.{◌≡◌, ◌≤◌, ℕ, ◌+◌, ◌*◌, eqb, Float, length, replicate, List, [], ◌∷◌, Bool, ◌&&◌}
use Rattle.number.specs.Arith.{floats, zero64}
use Rattle.number.specs.Ans.{Ans, held, ◌>>=◌, demand}
use Rattle.number.specs.Functions.{calls}
use Rattle.number.specs.Lists.{at}
use Rattle.sizes.specs.Sizes.{side, sheet, cell}
use Rattle.elementary.specs.Port.{port}
use Rattle.mie_parameters.specs.Combine.{epsilon_k_ij, lambda_ij, c_ij}
use Rattle.limits.specs.declared.Component.{Component}
use Rattle.limits.specs.Limits.{square, components, count_within, components_within, segments_within, pairs_within}
use Rattle.saftvrmie_parameters.specs.Combine.{sigma_ij, alpha_ij, lr_ij}
use Rattle.mie_parameters.specs.Places.{in_places}
use Rattle.mie_parameters.specs.Answer.{stored}
use Rattle.mie_parameters.specs.Sheets as Sheets
use Rattle.mie_parameters.specs.Sheets.{store_row}
use Rattle.saftvrmie_parameters.specs.declared.ComponentLists.{ComponentLists}
use Rattle.saftvrmie_parameters.specs.declared.PairParameters.{PairParameters}
use Rattle.saftvrmie_parameters.specs.declared.SaftVRMiePars.{SaftVRMiePars}

-- the lists that a caller hands
pub record Lists : Type 0 where
  pub count : ℕ
  pub m : List Float
  pub sigma : List Float
  pub epsilon_k : List Float
  pub lr : List Float
  pub la : List Float
  pub k_ij : List Float
  pub gamma_ij : List Float

abbrev pub lists_of : ComponentLists → Lists
lists_of l =
    record {
      count = l.count;
      m = l.m.now;
      sigma = l.sigma.now;
      epsilon_k = l.epsilon_k.now;
      lr = l.lr.now;
      la = l.la.now;
      k_ij = l.k_ij.now;
      gamma_ij = l.gamma_ij.now;
    }

-- ---- 1 and 2

-- 1: the count is outside, or a list has another length than the count (pairs: its square)
unfoldable pub right_lengths : Lists → Bool
right_lengths l =
    count_within l.count
    && eqb (length l.m) l.count
    && eqb (length l.sigma) l.count
    && eqb (length l.epsilon_k) l.count
    && eqb (length l.lr) l.count
    && eqb (length l.la) l.count
    && eqb (length l.k_ij) (l.count * l.count)
    && eqb (length l.gamma_ij) (l.count * l.count)

-- what right lengths say of the lists that the sheets are worked from
abbrev pub Fitting : Lists → Type 0
Fitting l =
    (l.count ≤ side)
    × (length l.sigma ≡ l.count) × (length l.epsilon_k ≡ l.count) × (length l.lr ≡ l.count) × (length l.la ≡ l.count)
    × (length l.k_ij ≡ l.count * l.count) × (length l.gamma_ij ≡ l.count * l.count)

abbrev pub component_of : Lists → ℕ → Component
component_of l = components l.sigma l.epsilon_k l.lr l.la

-- 2: a number is outside its limit
unfoldable pub within_limits : ℕ → (ℕ → Component) → (ℕ → Float) → (ℕ → ℕ → Float) → (ℕ → ℕ → Float) → Bool
within_limits n c m k gamma = components_within n c && segments_within n m && pairs_within n k && pairs_within n gamma

abbrev pub within_in : Lists → Bool
within_in l = within_limits l.count (component_of l) (at l.m) (square l.count l.k_ij) (square l.count l.gamma_ij)

-- ---- the set

-- what stands in the six sheets at a pair; 6 if an elementary argument is outside
unfoldable pub pair_parameters : Component → Component → Float → Float → Ans PairParameters
pair_parameters a b k gamma =
    let sigma = sigma_ij floats a.sigma b.sigma in
    epsilon_k_ij floats (calls floats port) a.sigma b.sigma a.epsilon_k b.epsilon_k sigma k >>= λ epsilon_k.
    lr_ij floats (calls floats port) a.lr b.lr gamma >>= λ lr.
    lambda_ij floats (calls floats port) a.la b.la >>= λ la.
    c_ij floats (calls floats port) lr la >>= λ c.
    held (record { sigma = sigma; epsilon_k = epsilon_k; lr = lr; la = la; c = c; alpha = alpha_ij floats c lr la })

-- in the order of the sheets, which is that of the Rust's fields
abbrev pub row_of : PairParameters → List Float
row_of p = p.sigma ∷ p.epsilon_k ∷ p.lr ∷ p.la ∷ p.c ∷ p.alpha ∷ []

-- the six sheets at one entry
abbrev pub store_pair : List Float → ℕ → PairParameters → List Float
store_pair s e p = store_row s e (row_of p)

-- the sheets at (i, j)
abbrev pub pair_at : List Float → ℕ → ℕ → PairParameters
pair_at s i j =
    record {
      sigma = at s (cell i j);
      epsilon_k = at s (1 * sheet + cell i j);
      lr = at s (2 * sheet + cell i j);
      la = at s (3 * sheet + cell i j);
      c = at s (4 * sheet + cell i j);
      alpha = at s (5 * sheet + cell i j);
    }

module _ (n : ℕ) (c : ℕ → Component) (k gamma : ℕ → ℕ → Float) where
  abbrev pub pair_of : ℕ → ℕ → Ans PairParameters
  pair_of i j = pair_parameters (c i) (c j) (k i j) (gamma i j)

  -- +0 where unused
  abbrev pub sheets_of : Ans (List Float)
  sheets_of = Sheets.sheets_of row_of n pair_of

abbrev pub pair_in : Lists → ℕ → ℕ → Ans PairParameters
pair_in l = pair_of l.count (component_of l) (square l.count l.k_ij) (square l.count l.gamma_ij)

-- ---- the operation: the first that applies is given
unfoldable pub saft_vr_mie_pars : Lists → Ans SaftVRMiePars
saft_vr_mie_pars l =
    demand 1 (right_lengths l) >>= λ _.
    demand 2 (within_limits l.count (component_of l) (at l.m) (square l.count l.k_ij) (square l.count l.gamma_ij)) >>= λ _.
    sheets_of l.count (component_of l) (square l.count l.k_ij) (square l.count l.gamma_ij) >>= λ s.
    held (record {
      count = l.count;
      m = in_places floats l.count (at l.m);
      sigma = in_places floats l.count (at l.sigma);
      epsilon_k = in_places floats l.count (at l.epsilon_k);
      lr = in_places floats l.count (at l.lr);
      la = in_places floats l.count (at l.la);
      sheets = s;
    })

abbrev pub zero_list : List Float
zero_list = replicate side zero64

-- the set beside a refusal: count 0, all +0
abbrev pub empty_set : SaftVRMiePars
empty_set = record { count = 0; m = zero_list; sigma = zero_list; epsilon_k = zero_list; lr = zero_list; la = zero_list; sheets = replicate (6 * sheet) zero64 }

-- the set beside an answer
abbrev pub set_of : Ans SaftVRMiePars → SaftVRMiePars
set_of = stored empty_set
