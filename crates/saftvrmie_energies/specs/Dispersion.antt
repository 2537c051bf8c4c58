-- `helmholtz_energy_density_disp` and `helmholtz_energy_density_disp_chain` of saftvrmie/eos/dispersion.rs over any arithmetic, in the Rust's order of operations.
use Rattle.std.specs.Prelude.{ℕ, ◌+◌, ◌-◌, false}
use Rattle.number.specs.Ans.{Ans, held, ◌>>=◌}
use Rattle.number.specs.Arith.{Arith, decimal, zero64}
use Rattle.number.specs.Functions.{Functions}
use Rattle.number.specs.Lists.{nth}
use Rattle.number.specs.Walk.{walk}
use Rattle.dual.specs.Dual.{DualOf}
use Rattle.mie_parameters.specs.Sums.{weighted, orders_sum}
use Rattle.saftvrmie_dispersion.specs.Sutherland.{FluidIn, k_hs, fluid_of}
use Rattle.saftvrmie_dispersion.specs.Terms.{PairIn, BarIn, SumsIn, bar_of, add_pure, add_pair, terms_of}
use Rattle.saftvrmie_dispersion.specs.Chain.{KIn, LinkIn, fluid_dual, chain_pure}
use Rattle.saftvrmie_energies.specs.Properties.{PropertiesIn, total, xs_of, d_ij, properties}

-- what an energy is made from: component i, pair (i, j), and the state
pub record StateIn (N : Type 0) : Type 0 where
  pub temperature : N
  pub fraction : ℕ → N
  pub density : ℕ → N
  pub diameter : ℕ → N
  pub m : ℕ → N
  -- sigma, epsilon_k, la and lr of the component lists; c and alpha of the sheets' diagonal
  pub pure : ℕ → PairIn N
  -- all of the sheets
  pub pair : ℕ → ℕ → PairIn N

module _ (A : Arith) (F : Functions A.Num) where
  open A use {Num, add as ◌⊕◌, mul as ◌⊗◌, div as ◌⊘◌, lit, after}

  infixl 60 ◌⊕◌
  infixl 70 ◌⊗◌
  infixl 70 ◌⊘◌
  -- a1, a2, a3, a_chain
  abbrev pub no_sums : SumsIn Num
  no_sums = record { a1 = lit zero64; a2 = lit zero64; a3 = lit zero64; a_chain = lit zero64 }

  -- the pair (i, j) of a row
  unfoldable pub pair_turn : (ℕ → Num) → (ℕ → Num) → (ℕ → ℕ → PairIn Num) → FluidIn Num → BarIn Num → ℕ → ℕ → SumsIn Num → Ans (SumsIn Num)
  pair_turn xs d pair w bar i j s = terms_of A F w bar (pair i j) (d_ij A d i j) >>= λ t. held (add_pair A (xs i) (xs j) t s)

  module _ (n : ℕ) (xs d : ℕ → Num) (pair : ℕ → ℕ → PairIn Num) (w : FluidIn Num) (bar : BarIn Num) where
    -- (i, j) with j > i
    unfoldable pub pair_row : ℕ → SumsIn Num → Ans (SumsIn Num)
    pair_row i s = walk (n - (i + 1)) (λ k. pair_turn xs d pair w bar i (i + 1 + k)) s

    -- dispersion alone: component i, then its pairs
    unfoldable pub disp_row : PairIn Num → ℕ → SumsIn Num → Ans (SumsIn Num)
    disp_row p i s = terms_of A F w bar p (d i) >>= λ t. pair_row i (add_pure A (xs i) t s)

    -- with chain: component i with slopes and its link, then its pairs
    unfoldable pub chain_row : FluidIn (DualOf Num) → KIn Num → PairIn Num → LinkIn Num → ℕ → SumsIn Num → Ans (SumsIn Num)
    chain_row v k p link i s = chain_pure A F v bar k p (d i) link (xs i) s >>= λ t. pair_row i t

    module _ (pure : ℕ → PairIn Num) where
      -- all components in order, each before its pairs
      unfoldable pub disp_rows : Ans (SumsIn Num)
      disp_rows = walk n (λ i. disp_row (pure i) i) no_sums

      unfoldable pub chain_rows : FluidIn (DualOf Num) → KIn Num → (ℕ → LinkIn Num) → Ans (SumsIn Num)
      chain_rows v k link = walk n (λ i. chain_row v k (pure i) (link i) i) no_sums

  module _ (n : ℕ) (s : StateIn Num) where
    -- `t_inv`
    abbrev pub t_inv : Num
    t_inv = lit (decimal false 1 0) ⊘ s.temperature

    -- mean_segment_number and segment_molefracs
    abbrev pub mean_at : Num
    mean_at = weighted A n s.fraction s.m

    abbrev pub xs_at : ℕ → Num
    xs_at = nth A (xs_of A n s.fraction s.m mean_at)

    -- what only the chain reads of component i
    abbrev pub link_at : ℕ → LinkIn Num
    link_at i = record { m = s.m i; fraction = s.fraction i; t_inv = t_inv }

    -- `Properties::new`
    abbrev pub properties_at : Ans (PropertiesIn Num)
    properties_at = properties A F n xs_at s.density s.diameter s.m s.pair

    -- k0 to k3 are worked here too, and nothing uses them
    unfoldable pub dispersion : Ans Num
    dispersion =
        properties_at >>= λ q.
        let w = fluid_of A q.segment_density q.zeta_x (k_hs A q.zeta_x) in
        disp_rows n xs_at s.diameter s.pair w (bar_of A q.zeta_x_bar) s.pure >>= λ a.
        held (after q.k.k0 (after q.k.k1 (after q.k.k2 (after q.k.k3 (total A n s.density ⊗ mean_at ⊗ orders_sum A t_inv a.a1 a.a2 a.a3)))))

    -- k_hs of the pairs is the value of the one with slopes
    unfoldable pub dispersion_chain : Ans Num
    dispersion_chain =
        properties_at >>= λ q.
        let v = fluid_dual A q.zeta_x q.segment_density in
        let w = fluid_of A q.segment_density q.zeta_x v.k_hs.re in
        chain_rows n xs_at s.diameter s.pair w (bar_of A q.zeta_x_bar) s.pure v q.k link_at >>= λ a.
        held (total A n s.density ⊗ (mean_at ⊗ orders_sum A t_inv a.a1 a.a2 a.a3 ⊕ a.a_chain))
