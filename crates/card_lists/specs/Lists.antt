-- The component lists of a card: its numbers, in order, as the lists that the parameters take.
use Rattle.std.specs.Prelude.{ℕ, ◌+◌, ◌*◌, ◌-◌, ◌%◌, min, max, eqb, Float, get_or, false, cond, List, [], ◌∷◌}
use Rattle.std.specs.Float.Ieee.{of_bits}
use Rattle.std.specs.Float.{binary64}
use Rattle.number.specs.Arith.{decimal, zero64}
use Rattle.number.specs.Walk.{turns}
use Rattle.card.specs.Fields.{joined}
use Rattle.card.specs.Card.{Card}
use Rattle.saftvrqmie_parameters.specs.Parameters as Quantum
use Rattle.saftvrmie_parameters.specs.Parameters as Mie

-- number k, 'as 64-bit floats': each pattern of a NaN is the NaN, which lies in no limits
abbrev pub number_at : List ℕ → ℕ → Float
number_at values k = of_bits binary64 (get_or values k 0)

-- number e of each component, of which each has `size`
unfoldable pub column : List ℕ → ℕ → ℕ → ℕ → List Float
column values size n e = joined n (λ i. number_at values (i * size + e) ∷ [])

-- number 5 of each component, 'a 2-bit order'
unfoldable pub orders : List ℕ → ℕ → List ℕ
orders values n = joined n (λ i. get_or values (i * 6 + 5) 0 % 4 ∷ [])

-- 'For the quantum model m is 1.0.'
unfoldable pub ones : ℕ → List Float
ones n = joined n (λ _. decimal false 1 0 ∷ [])

-- how many pairs i < j the rows before row i have: row r has n − 1 − r
unfoldable pub pairs_before : ℕ → ℕ → ℕ
pairs_before n i = turns i (λ r s. s + (n - 1 - r)) 0

-- 'for each pair i < j, row by row, two 64-bit floats': number e of (i, j), the pairs' numbers beginning at `start`
unfoldable pub pair_number : List ℕ → ℕ → ℕ → ℕ → ℕ → ℕ → Float
pair_number values start n e i j = number_at values (start + 2 * (pairs_before n i + (j - 1 - i)) + e)

-- the whole square: +0 at (i, i), and the same at (j, i) as at (i, j)
unfoldable pub pair_entry : List ℕ → ℕ → ℕ → ℕ → ℕ → ℕ → Float
pair_entry values start n e i j = cond (eqb i j) zero64 (pair_number values start n e (min i j) (max i j))

unfoldable pub pair_list : List ℕ → ℕ → ℕ → ℕ → List Float
pair_list values start n e = joined n (λ i. joined n (λ j. pair_entry values start n e i j ∷ []))

-- 'sigma, epsilon_k, lr, la, mass .. and a 2-bit order'; pairs: 'k and l'
unfoldable pub quantum_lists : Card → Quantum.Lists
quantum_lists c =
    let v = c.values in
    let n = c.count in
    record {
      count = n;
      m = ones n;
      sigma = column v 6 n 0;
      epsilon_k = column v 6 n 1;
      lr = column v 6 n 2;
      la = column v 6 n 3;
      mass = column v 6 n 4;
      fh = orders v n;
      k_ij = pair_list v (n * 6) n 0;
      l_ij = pair_list v (n * 6) n 1;
    }

-- 'for VR Mie m, sigma, epsilon_k, lr, la'; pairs: 'k and gamma'
unfoldable pub mie_lists : Card → Mie.Lists
mie_lists c =
    let v = c.values in
    let n = c.count in
    record {
      count = n;
      m = column v 5 n 0;
      sigma = column v 5 n 1;
      epsilon_k = column v 5 n 2;
      lr = column v 5 n 3;
      la = column v 5 n 4;
      k_ij = pair_list v (n * 5) n 0;
      gamma_ij = pair_list v (n * 5) n 1;
    }
