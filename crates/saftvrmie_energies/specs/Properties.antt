-- `Properties::new` of saftvrmie/eos/dispersion.rs over any arithmetic, in the Rust's order of operations. Lists are read through functions of the index.
use Rattle.std.specs.Prelude.{ℕ, ◌+◌, ◌-◌, false, List}
use Rattle.number.specs.Ans.{Ans, held, ◌>>=◌}
use Rattle.number.specs.Arith.{Arith, decimal, zero64}
use Rattle.number.specs.Functions.{Functions}
use Rattle.number.specs.Walk.{turns}
use Rattle.mie_parameters.specs.Places.{in_places}
use Rattle.mie_parameters.specs.Sums.{weighted}
use Rattle.saftvrmie_dispersion.specs.Terms.{PairIn}
use Rattle.saftvrmie_dispersion.specs.Chain.{KIn, k_of}

-- segment_density, zeta_x, zeta_x_bar and k0 to k3
pub record PropertiesIn (N : Type 0) : Type 0 where
  pub segment_density : N
  pub zeta_x : N
  pub zeta_x_bar : N
  pub k : KIn N

module _ (A : Arith) where
  open A use {Num, add as ◌⊕◌, mul as ◌⊗◌, div as ◌⊘◌, pow, lit, after}

  infixl 60 ◌⊕◌
  infixl 70 ◌⊗◌
  infixl 70 ◌⊘◌
  -- a vector's sum
  unfoldable pub total : ℕ → (ℕ → Num) → Num
  total n v = turns n (λ i s. s ⊕ v i) (lit zero64)

  -- segment_molefracs, in their places
  unfoldable pub xs_of : ℕ → (ℕ → Num) → (ℕ → Num) → Num → List Num
  xs_of n x m mean = in_places A n (λ i. x i ⊗ m i ⊘ mean)

  -- `d_ij`, `d3_ij`, and sigma_ij.powi(3)
  unfoldable pub d_ij : (ℕ → Num) → ℕ → ℕ → Num
  d_ij d i j = (d i ⊕ d j) ⊗ lit (decimal false 5 1)

  unfoldable pub d3_ij : (ℕ → Num) → ℕ → ℕ → Num
  d3_ij d i j = pow (d_ij d i j) 3

  unfoldable pub s3_ij : (ℕ → ℕ → PairIn Num) → ℕ → ℕ → Num
  s3_ij p i j = pow (p i j).sigma 3

  -- zeta_x and zeta_x_bar: the same sums, of d³ and of sigma³
  module _ (n : ℕ) (xs : ℕ → Num) (cube : ℕ → ℕ → Num) where
    -- the pair (i, j), j > i
    unfoldable pub zeta_turn : ℕ → ℕ → Num → Num
    zeta_turn i k s = s ⊕ xs i ⊗ xs (i + 1 + k) ⊗ cube i (i + 1 + k) ⊗ lit (decimal false 2 0)

    -- component i, then its pairs
    unfoldable pub zeta_row : ℕ → Num → Num
    zeta_row i s = turns (n - (i + 1)) (zeta_turn i) (s ⊕ pow (xs i) 2 ⊗ cube i i)

    unfoldable pub zeta_sum : Num
    zeta_sum = turns n zeta_row (lit zero64)

  -- d_ij and d3_ij are worked for all ordered pairs; nothing uses those with j < i
  unfoldable pub after_lower : ℕ → (ℕ → ℕ → Num) → Num → Num
  after_lower n f x = turns n (λ i s. turns i (λ j r. after (f i j) r) s) x

  -- what of `Properties::new` hangs on the segment fractions: from these, densities, diameters, segment numbers and the sheets
  unfoldable pub properties : Functions Num → ℕ → (ℕ → Num) → (ℕ → Num) → (ℕ → Num) → (ℕ → Num) → (ℕ → ℕ → PairIn Num) → Ans (PropertiesIn Num)
  properties F n xs density d m pair =
      let rho = weighted A n density m in
      let zeta_x = after_lower n (d3_ij d) (zeta_sum n xs (d3_ij d) ⊗ (rho ⊗ F.frac_pi_6)) in
      let zeta_x_bar = zeta_sum n xs (s3_ij pair) ⊗ (rho ⊗ F.frac_pi_6) in
      k_of A F zeta_x >>= λ k.
      held (record { segment_density = rho; zeta_x = zeta_x; zeta_x_bar = zeta_x_bar; k = k })
