-- Document 01's 'Table to be proved' holds. Assumes nothing.
use Prim.Native.Nat.{ℕ}
use mathlib.Core.Path.{◌≡◌, refl, sym, ap, ◌∙◌}
use mathlib.Core.Bool.{true, false}
use mathlib.Core.List.{List, [], ◌∷◌}
use lib.ListN.{length}
use lib.Ieee as Ieee
use Rattle.number.specs.Ans.{held, refused, ◌>>=◌, demand}
use Rattle.number.specs.Arith.{floats, bits, decimal, one64}
use Rattle.number.specs.Lists.{at}
use Rattle.number.specs.Neighbour.{next_up, step_up}
use Rattle.number.specs.Power.{digits, pow_digits, pow_up}
use Rattle.number.specs.Walk.{turns, every, walk}
use Rattle.elementary.specs.Port.{port}
use Rattle.root.specs.Root.{whole_root, positive_root, root}
use Rattle.logarithm.specs.Logarithm.{ln1p_of}
use Rattle.power.proofs.Corners as PowerCorners
use Rattle.interval.proofs.Example.{sum_of_one_and_zero}
use Rattle.limits.specs.Limits.{in_limits, count_within, component_within, components_within, all_within, masses_within, same_bits, pair_within, pairs_within, all_one}
use Rattle.mie_parameters.specs.Combine.{epsilon_k_ij, lambda_ij, c_ij}
use Rattle.mie_parameters.specs.Sheets.{sheets_of, sheets_row, sheets_turn}
use Rattle.saftvrqmie_parameters.specs.Combine.{sigma_ij}
use Rattle.number.specs.Functions.{answered, answered₂}
use Rattle.number.specs.Domain.{base_inside, exponent_inside}
use Rattle.power.specs.Power.{powf_of}
use lib.Dec.{T}
use Rattle.saftvrqmie_parameters.specs.Parameters as Quantum
use Rattle.saftvrqmie_parameters.proofs.Laws as QuantumLaws
use Rattle.saftvrqmie_parameters.proofs.Rows as QuantumRows
use Rattle.saftvrmie_parameters.specs.Parameters as Mie
use Rattle.proved_table.specs.Table.{Accepted, Within, alike, Table}

-- an order that the walk refuses, the operation refuses
walked : (l : Quantum.Lists) (fh : List ℕ) (n : ℕ) → Within l → all_one l.count (at l.m) ≡ true → l.fh ≡ fh → Quantum.order_walk (length fh) fh ≡ refused n → Quantum.saft_vrq_mie_pars l ≡ refused n
unfolding Quantum.saft_vrq_mie_pars demand ◌>>=◌
walked l fh n w m f o =
    let c : l.count ≡ length fh = sym (QuantumLaws.lengths l w.lengths).fh ∙ ap length f in
    let e : Quantum.order_walk l.count l.fh ≡ refused n = rw (c, f) o in
    rw (w.lengths, w.limits, m, e)

not_one : (m : List Ieee.Float) → m ≡ one64 ∷ decimal false 2 0 ∷ [] → all_one 2 (at m) ≡ false
unfolding all_one every turns decimal Ieee.of_bits Ieee.eq Ieee.is_nan Ieee.lt Ieee.le
not_one m p = rw p

m_row : (l : Quantum.Lists) → Within l → l.m ≡ one64 ∷ decimal false 2 0 ∷ [] → Quantum.saft_vrq_mie_pars l ≡ refused 3
unfolding Quantum.saft_vrq_mie_pars demand ◌>>=◌
m_row l w m =
    let c : l.count ≡ 2 = sym (QuantumLaws.lengths l w.lengths).m ∙ ap length m in
    let e : all_one l.count (at l.m) ≡ false = rw c (not_one l.m m) in
    rw (w.lengths, w.limits, e)

mie_outside : (l : Mie.Lists) (n : ℕ) → l.count ≡ n → count_within n ≡ false → Mie.saft_vr_mie_pars l ≡ refused 1
unfolding Mie.saft_vr_mie_pars Mie.right_lengths demand ◌>>=◌
mie_outside l n p q = rw (p, q)

orders_1_2_walk : Quantum.order_walk 2 (1 ∷ 2 ∷ []) ≡ refused 5
unfolding Quantum.order_walk Quantum.order_row walk Quantum.pair_orders demand ◌>>=◌
orders_1_2_walk = refl

accepted_0_1 : Accepted (Quantum.saft_vrq_mie_pars (alike (0 ∷ 1 ∷ [])))
unfolding Quantum.saft_vrq_mie_pars Quantum.right_lengths count_within Quantum.within_limits components_within component_within in_limits masses_within all_within pairs_within pair_within same_bits all_one every turns Quantum.order_walk Quantum.order_row walk Quantum.pair_orders sheets_of sheets_row sheets_turn Quantum.pair_parameters epsilon_k_ij lambda_ij c_ij sigma_ij answered answered₂ root positive_root whole_root powf_of base_inside exponent_inside demand ◌>>=◌ decimal digits pow_digits pow_up Ieee.round Ieee.of_bits Ieee.le Ieee.lt Ieee.eq Ieee.is_nan Ieee.to_bits Ieee.neg Ieee.add Ieee.sub Ieee.mul Ieee.div Ieee.size
accepted_0_1 = record { result = _; is = refl }

within_2 : (a b : ℕ) → Within (alike (a ∷ b ∷ []))
unfolding Quantum.right_lengths count_within Quantum.within_limits components_within component_within in_limits masses_within all_within pairs_within pair_within same_bits every turns decimal Ieee.round Ieee.of_bits Ieee.le Ieee.lt Ieee.eq Ieee.is_nan Ieee.to_bits Ieee.neg Ieee.size
within_2 a b = record { lengths = refl; limits = refl }

within_3 : (a b c : ℕ) → Within (alike (a ∷ b ∷ c ∷ []))
unfolding Quantum.right_lengths count_within Quantum.within_limits components_within component_within in_limits masses_within all_within pairs_within pair_within same_bits every turns decimal Ieee.round Ieee.of_bits Ieee.le Ieee.lt Ieee.eq Ieee.is_nan Ieee.to_bits Ieee.neg Ieee.size
within_3 a b c = record { lengths = refl; limits = refl }

base_32 : (y : Ieee.Float) → T (exponent_inside y) → Accepted (port.powf (decimal false 32 0) y)
unfolding decimal Ieee.round Ieee.of_bits
base_32 y h = record { result = _; is = PowerCorners.base_32 y h }

base_above : (y : Ieee.Float) → port.powf (next_up (decimal false 32 0)) y ≡ refused 6
unfolding next_up step_up decimal Ieee.round Ieee.of_bits Ieee.to_bits
base_above y = PowerCorners.base_above_32 y

whole_power : floats.pow (decimal false 2 0) 5 ≡ decimal false 32 0
unfolding pow_up pow_digits digits decimal Ieee.round Ieee.of_bits Ieee.mul
whole_power = refl

root_row : port.sqrt (decimal false 225 2) ≡ held (decimal false 15 1)
unfolding root positive_root whole_root decimal Ieee.round Ieee.of_bits Ieee.size
root_row = refl

root_zero : port.sqrt (bits 0x8000_0000_0000_0000) ≡ held (bits 0x8000_0000_0000_0000)
unfolding root Ieee.of_bits
root_zero = refl

ln_1p_row : port.ln1p (decimal true 1 0) ≡ refused 6
unfolding ln1p_of decimal Ieee.round Ieee.of_bits Ieee.lt Ieee.neg
ln_1p_row = refl

outside_0 : count_within 0 ≡ false
unfolding count_within
outside_0 = refl

outside_13 : count_within 13 ≡ false
unfolding count_within
outside_13 = refl

pub table : Table
table =
    record {
      orders_0_1 = accepted_0_1;
      within_2 = within_2;
      within_3 = within_3;
      orders_1_2 = λ l w m f. walked l _ _ w m f orders_1_2_walk;
      orders_1_2_3 = λ l w m f. walked l _ _ w m f QuantumRows.orders_1_2_3;
      orders_1_3_2 = λ l w m f. walked l _ _ w m f QuantumRows.orders_1_3_2;
      orders_0_3 = λ l w m f. walked l _ _ w m f QuantumRows.orders_0_3;
      m_1_2 = λ l w m f. m_row l w m;
      count_0 = QuantumRows.count_0;
      count_13 = QuantumRows.count_13;
      mie_count_0 = λ l p. mie_outside l 0 p outside_0;
      mie_count_13 = λ l p. mie_outside l 13 p outside_13;
      root = root_row;
      root_zero = root_zero;
      base_32 = base_32;
      base_above = base_above;
      whole_power = whole_power;
      ln_1p = ln_1p_row;
      ends = sum_of_one_and_zero;
    }
