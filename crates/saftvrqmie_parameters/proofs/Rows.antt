-- Rows of document 01's table, computed from the definitions: sigma 3, epsilon_k 30, lr 12, la 6, mass 3e-27, pair values +0.
use Prim.Native.Nat.{ℕ, ◌*◌}
use mathlib.Core.Path.{◌≡◌, refl}
use mathlib.Core.Bool.{true, false}
use mathlib.Core.List.{List, [], ◌∷◌}
use lib.ListN.{replicate}
use lib.Ieee as Ieee
use lib.Ieee.{Float}
use Rattle.number.specs.Arith.{decimal, zero64, one64}
use Rattle.number.specs.Ans.{held, refused, ◌>>=◌, demand}
use Rattle.number.specs.Walk.{turns, every, walk}
use Rattle.limits.specs.Limits.{in_limits, count_within, component_within, components_within, all_within, masses_within, same_bits, pair_within, pairs_within, all_one}
use Rattle.saftvrqmie_parameters.specs.Parameters.{Lists, right_lengths, within_limits, pair_orders, order_row, order_walk, saft_vrq_mie_pars}

abbrev pub lists : ℕ → List Float → List ℕ → Lists
lists n m fh =
    record {
      count = n;
      m = m;
      sigma = replicate n (decimal false 3 0);
      epsilon_k = replicate n (decimal false 30 0);
      lr = replicate n (decimal false 12 0);
      la = replicate n (decimal false 6 0);
      mass = replicate n (decimal false 3 27);
      fh = fh;
      k_ij = replicate (n * n) zero64;
      l_ij = replicate (n * n) zero64;
    }

-- orders (0,1) pass the walk; (1,2) 5; (1,2,3) 5; (1,3,2) 4; (0,3) 4
pub orders_0_1 : order_walk 2 (0 ∷ 1 ∷ []) ≡ held true
unfolding order_walk order_row walk pair_orders demand ◌>>=◌
orders_0_1 = refl

pub orders_1_2_3 : order_walk 3 (1 ∷ 2 ∷ 3 ∷ []) ≡ refused 5
unfolding order_walk order_row walk pair_orders demand ◌>>=◌
orders_1_2_3 = refl

pub orders_1_3_2 : order_walk 3 (1 ∷ 3 ∷ 2 ∷ []) ≡ refused 4
unfolding order_walk order_row walk pair_orders demand ◌>>=◌
orders_1_3_2 = refl

pub orders_0_3 : order_walk 2 (0 ∷ 3 ∷ []) ≡ refused 4
unfolding order_walk order_row walk pair_orders demand ◌>>=◌
orders_0_3 = refl

-- through the whole operation: (1,2) 5
pub orders_1_2 : saft_vrq_mie_pars (lists 2 (one64 ∷ one64 ∷ []) (1 ∷ 2 ∷ [])) ≡ refused 5
unfolding saft_vrq_mie_pars right_lengths count_within within_limits components_within component_within in_limits masses_within all_within pairs_within pair_within same_bits all_one every turns order_walk order_row walk pair_orders demand ◌>>=◌ decimal Ieee.of_bits Ieee.le Ieee.lt Ieee.eq Ieee.is_nan Ieee.to_bits Ieee.neg
orders_1_2 = refl

-- m (1,2) with orders (3,0): 3
pub m_1_2 : saft_vrq_mie_pars (lists 2 (one64 ∷ decimal false 2 0 ∷ []) (3 ∷ 0 ∷ [])) ≡ refused 3
unfolding saft_vrq_mie_pars right_lengths count_within within_limits components_within component_within in_limits masses_within all_within pairs_within pair_within same_bits all_one every turns demand ◌>>=◌ decimal Ieee.of_bits Ieee.le Ieee.lt Ieee.eq Ieee.is_nan Ieee.to_bits Ieee.neg
m_1_2 = refl

-- counts 0 and 13 give 1, whatever the lists
pub count_0 : (l : Lists) → l.count ≡ 0 → saft_vrq_mie_pars l ≡ refused 1
unfolding saft_vrq_mie_pars right_lengths count_within demand ◌>>=◌
count_0 l p = rw p

pub count_13 : (l : Lists) → l.count ≡ 13 → saft_vrq_mie_pars l ≡ refused 1
unfolding saft_vrq_mie_pars right_lengths count_within demand ◌>>=◌
count_13 l p = rw p
