-- What the sums over components and pairs give of a mixture: the formulas of Dispersion at what it holds. The contracts of helpers alone.
use Rattle.std.specs.Prelude.{ℕ}
use Rattle.number.specs.Ans.{Ans}
use Rattle.number.specs.Arith.{Arith}
use Rattle.number.specs.Functions.{Functions}
use Rattle.dual.specs.Dual.{DualOf}
use Rattle.saftvrmie_dispersion.specs.Sutherland.{FluidIn}
use Rattle.saftvrmie_dispersion.specs.Terms.{BarIn, SumsIn}
use Rattle.saftvrmie_dispersion.specs.Chain.{KIn, LinkIn}
use Rattle.saftvrmie_dispersion.specs.Answer.{fluid_by}
use Rattle.saftvrmie_energies.specs.Reads.{read, state_of}
use Rattle.saftvrmie_energies.specs.Dispersion.{StateIn, pair_turn, pair_row, disp_row, chain_row, disp_rows, chain_rows}
use Rattle.saftvrmie_energies.specs.declared.mixture.Mixture.{Mixture}

module _ {S : Type 0} (A : Arith) (F : Functions A.Num) (of : S → A.Num) (m : Mixture S) (bar : BarIn A.Num) where
  abbrev n : ℕ
  n = m.state.now.set.count

  abbrev xs : ℕ → A.Num
  xs = read A of m.xs.now

  abbrev s : StateIn A.Num
  s = state_of A m.state.now

  abbrev w : FluidIn A.Num
  w = fluid_by of m.fluid.now

  abbrev pub turn_of : ℕ → ℕ → SumsIn A.Num → Ans (SumsIn A.Num)
  turn_of i j = pair_turn A F xs s.diameter s.pair w bar i j

  abbrev pub pairs_of : ℕ → SumsIn A.Num → Ans (SumsIn A.Num)
  pairs_of i = pair_row A F n xs s.diameter s.pair w bar i

  abbrev pub row_of : ℕ → SumsIn A.Num → Ans (SumsIn A.Num)
  row_of i = disp_row A F n xs s.diameter s.pair w bar (s.pure i) i

  abbrev pub rows_of : Ans (SumsIn A.Num)
  rows_of = disp_rows A F n xs s.diameter s.pair w bar s.pure

  -- with chain: from the fluid with slopes, k0 to k3 and 1/T
  module _ (v : FluidIn (DualOf A.Num)) (k : KIn A.Num) (t_inv : A.Num) where
    abbrev link : ℕ → LinkIn A.Num
    link i = record { m = s.m i; fraction = s.fraction i; t_inv = t_inv }

    abbrev pub chain_row_of : ℕ → SumsIn A.Num → Ans (SumsIn A.Num)
    chain_row_of i = chain_row A F n xs s.diameter s.pair w bar v k (s.pure i) (link i) i

    abbrev pub chain_rows_of : Ans (SumsIn A.Num)
    chain_rows_of = chain_rows A F n xs s.diameter s.pair w bar s.pure v k link
