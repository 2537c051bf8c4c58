-- The lists that the code hands to the parameters are the card's. Assumes nothing.
use Prim.Native.Nat.{ℕ, ◌*◌, ◌-◌, ◌≤◌}
use native.Mathlib.Omega.{arith}
use lib.Ieee.{Float}
use lib.ListN.{take, drop, replicate}
use mathlib.Core.Path.{◌≡◌}
use mathlib.Core.List.{List}
use Rattle.saftvrqmie_parameters.specs.Parameters as Quantum
use Rattle.saftvrmie_parameters.specs.Parameters as Mie
use Rattle.number.specs.Arith.{decimal}
use mathlib.Core.Bool.{false}
use Rattle.card_lists.proofs.Lists.{all_one}
use Rattle.card_lists.specs.Lists.{column, orders, ones, pair_list, quantum_lists, mie_lists}

-- a part of an array from its beginning
pub part : {S : Type 0} (n : ℕ) (l x : List S) → take n l ≡ x → take (n - 0) (drop 0 l) ≡ x
part n l x p = let e : n - 0 ≡ n = omega arith in rw e p

-- m of the quantum model
pub ones_is : (n m : ℕ) → n ≤ m → take n (replicate m (decimal false 1 0)) ≡ ones n
unfolding ones
ones_is n m h = all_one (decimal false 1 0) n m h

module _ (values : List ℕ) (n : ℕ) where
  pub quantum_is : (m sigma epsilon_k lr la mass : List Float) (fh : List ℕ) (k_ij l_ij : List Float)
      → m ≡ ones n → sigma ≡ column values 6 n 0 → epsilon_k ≡ column values 6 n 1 → lr ≡ column values 6 n 2 → la ≡ column values 6 n 3 → mass ≡ column values 6 n 4
      → fh ≡ orders values n → k_ij ≡ pair_list values (n * 6) n 0 → l_ij ≡ pair_list values (n * 6) n 1
      → ◌≡◌ {A = Quantum.Lists} (record { count = n; m = m; sigma = sigma; epsilon_k = epsilon_k; lr = lr; la = la; mass = mass; fh = fh; k_ij = k_ij; l_ij = l_ij }) (quantum_lists (record { kind = 0; count = n; values = values }))
  unfolding quantum_lists
  quantum_is m sigma epsilon_k lr la mass fh k_ij l_ij p₁ p₂ p₃ p₄ p₅ p₆ p₇ p₈ p₉ = rw (p₁, p₂, p₃, p₄, p₅, p₆, p₇, p₈, p₉)

  pub mie_is : (m sigma epsilon_k lr la k_ij gamma_ij : List Float)
      → m ≡ column values 5 n 0 → sigma ≡ column values 5 n 1 → epsilon_k ≡ column values 5 n 2 → lr ≡ column values 5 n 3 → la ≡ column values 5 n 4
      → k_ij ≡ pair_list values (n * 5) n 0 → gamma_ij ≡ pair_list values (n * 5) n 1
      → ◌≡◌ {A = Mie.Lists} (record { count = n; m = m; sigma = sigma; epsilon_k = epsilon_k; lr = lr; la = la; k_ij = k_ij; gamma_ij = gamma_ij }) (mie_lists (record { kind = 1; count = n; values = values }))
  unfolding mie_lists
  mie_is m sigma epsilon_k lr la k_ij gamma_ij p₁ p₂ p₃ p₄ p₅ p₆ p₇ = rw (p₁, p₂, p₃, p₄, p₅, p₆, p₇)
