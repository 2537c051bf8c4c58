-- Document 01's 'Table to be proved': 'Together, over the definitions, in one result'. The definitions are those that the operations' contracts cite.
use Rattle.std.specs.Prelude.{ℕ, ◌*◌, ◌≡◌, true, false, List, [], ◌∷◌, T, length, replicate, Float}
use Rattle.number.specs.Ans.{Ans, held, refused}
use Rattle.number.specs.Arith.{floats, bits, decimal, zero64, one64}
use Rattle.number.specs.Lists.{at}
use Rattle.number.specs.Neighbour.{next_up}
use Rattle.number.specs.Domain.{exponent_inside}
use Rattle.elementary.specs.Port.{port}
use Rattle.interval.specs.Interval.{point, add_i}
use Rattle.limits.specs.Limits.{square, all_one}
use Rattle.saftvrqmie_parameters.specs.Parameters as Quantum
use Rattle.saftvrmie_parameters.specs.Parameters as Mie

pub record Accepted {S : Type 0} (a : Ans S) : Type 0 where
  pub result : S
  pub is : a ≡ held result

-- lists that pass the tests 1 and 2
pub record Within (l : Quantum.Lists) : Type 0 where
  pub lengths : Quantum.right_lengths l ≡ true
  pub limits : Quantum.within_limits l.count (Quantum.component_of l) (at l.mass) (square l.count l.k_ij) (square l.count l.l_ij) ≡ true

-- what the quantum parameters answer to any such lists, with each m equal to 1, whose orders are fh
abbrev pub Orders : List ℕ → ℕ → Type 0
Orders fh n = (l : Quantum.Lists) → Within l → all_one l.count (at l.m) ≡ true → l.fh ≡ fh → Quantum.saft_vrq_mie_pars l ≡ refused n

-- components alike, as many as there are orders, for the row that is accepted: sigma 3, epsilon_k 30, lr 12, la 6, mass 3e-27, pair values +0
abbrev pub alike : List ℕ → Quantum.Lists
alike fh =
    let n = length fh in
    record {
      count = n;
      m = replicate n one64;
      sigma = replicate n (decimal false 3 0);
      epsilon_k = replicate n (decimal false 30 0);
      lr = replicate n (decimal false 12 0);
      la = replicate n (decimal false 6 0);
      mass = replicate n (decimal false 3 27);
      fh = fh;
      k_ij = replicate (n * n) zero64;
      l_ij = replicate (n * n) zero64;
    }

pub record Table : Type 0 where
  -- 'orders (0,1) accepted'
  pub orders_0_1 : Accepted (Quantum.saft_vrq_mie_pars (alike (0 ∷ 1 ∷ [])))
  -- such lists of two and of three components pass the tests 1 and 2 whatever their orders: the rows below speak of some
  pub within_2 : (a b : ℕ) → Within (alike (a ∷ b ∷ []))
  pub within_3 : (a b c : ℕ) → Within (alike (a ∷ b ∷ c ∷ []))
  -- '(1,2) 5', '(1,2,3) 5', '(1,3,2) 4', '(0,3) 4'
  pub orders_1_2 : Orders (1 ∷ 2 ∷ []) 5
  pub orders_1_2_3 : Orders (1 ∷ 2 ∷ 3 ∷ []) 5
  pub orders_1_3_2 : Orders (1 ∷ 3 ∷ 2 ∷ []) 4
  pub orders_0_3 : Orders (0 ∷ 3 ∷ []) 4
  -- 'm (1,2) with orders (3,0) 3'
  pub m_1_2 : (l : Quantum.Lists) → Within l → l.m ≡ one64 ∷ decimal false 2 0 ∷ [] → l.fh ≡ 3 ∷ 0 ∷ [] → Quantum.saft_vrq_mie_pars l ≡ refused 3
  -- Slip 8: 'The proved table then has 0 and 13 instead of 0 and 9.' They give 1, whatever the lists, in both models
  pub count_0 : (l : Quantum.Lists) → l.count ≡ 0 → Quantum.saft_vrq_mie_pars l ≡ refused 1
  pub count_13 : (l : Quantum.Lists) → l.count ≡ 13 → Quantum.saft_vrq_mie_pars l ≡ refused 1
  pub mie_count_0 : (l : Mie.Lists) → l.count ≡ 0 → Mie.saft_vr_mie_pars l ≡ refused 1
  pub mie_count_13 : (l : Mie.Lists) → l.count ≡ 13 → Mie.saft_vr_mie_pars l ≡ refused 1
  -- 'root of 2.25 is 1.5', 'root of −0 is −0'
  pub root : port.sqrt (decimal false 225 2) ≡ held (decimal false 15 1)
  pub root_zero : port.sqrt (bits 0x8000_0000_0000_0000) ≡ held (bits 0x8000_0000_0000_0000)
  -- 'power base 32 accepted, next f64 up 6', whatever the exponent
  pub base_32 : (y : Float) → T (exponent_inside y) → Accepted (port.powf (decimal false 32 0) y)
  pub base_above : (y : Float) → port.powf (next_up (decimal false 32 0)) y ≡ refused 6
  -- 'whole power 5 of 2 is 32'
  pub whole_power : floats.pow (decimal false 2 0) 5 ≡ decimal false 32 0
  -- '`ln_1p` of −1 gives 6'
  pub ln_1p : port.ln1p (decimal true 1 0) ≡ refused 6
  -- 'ends of the sum of points 1 and 0 are 1 − 2^−53 and 1 + 2^−52'
  pub ends : add_i (point one64) (point zero64) ≡ record { lower = bits 0x3fef_ffff_ffff_ffff; upper = bits 0x3ff0_0000_0000_0001; sound = true }
