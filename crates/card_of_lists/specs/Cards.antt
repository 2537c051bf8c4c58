-- Slip 6: 'From the component lists write the card into a lent list and say how many bytes it took'
use Rattle.std.specs.Prelude.{ℕ, ◌+◌, ◌-◌, eqb, leb, Float, get_or, Bool, true, cond, List, [], ◌∷◌, ◌++◌, Option, None, Some}
use Rattle.number.specs.declared.refusal.Refusal.{Refusal}
use Rattle.number.specs.Answer.{code}
use Rattle.std.specs.Float.Ieee.{to_bits}
use Rattle.std.specs.Float.{binary64}
use Rattle.number.specs.Ans.{Ans, held, refused, ◌>>=◌, demand}
use Rattle.number.specs.Lists.{at}
use Rattle.limits.specs.Limits.{square}
use Rattle.saftvrqmie_parameters.specs.Parameters as Quantum
use Rattle.saftvrmie_parameters.specs.Parameters as Mie
use Rattle.card.specs.Fields.{joined}
use Rattle.card.specs.Card.{Card, older}
use Rattle.card_writer.specs.Writing.{card_bytes, CardRoom, card_stored}

-- a float's pattern
abbrev pub pattern : Float → ℕ
pattern x = to_bits binary64 x

-- 'sigma, epsilon_k, lr, la, mass as 64-bit floats and a 2-bit order'
unfoldable pub quantum_component : List Float → List Float → List Float → List Float → List Float → List ℕ → ℕ → List ℕ
quantum_component sigma epsilon_k lr la mass fh i =
    pattern (at sigma i) ∷ pattern (at epsilon_k i) ∷ pattern (at lr i) ∷ pattern (at la i) ∷ pattern (at mass i) ∷ get_or fh i 0 ∷ []

abbrev pub quantum_component_of : Quantum.Lists → ℕ → List ℕ
quantum_component_of x = quantum_component x.sigma x.epsilon_k x.lr x.la x.mass x.fh

-- 'for VR Mie m, sigma, epsilon_k, lr, la'
unfoldable pub mie_component : List Float → List Float → List Float → List Float → List Float → ℕ → List ℕ
mie_component m sigma epsilon_k lr la i = pattern (at m i) ∷ pattern (at sigma i) ∷ pattern (at epsilon_k i) ∷ pattern (at lr i) ∷ pattern (at la i) ∷ []

abbrev pub mie_component_of : Mie.Lists → ℕ → List ℕ
mie_component_of x = mie_component x.m x.sigma x.epsilon_k x.lr x.la

-- 'for each pair i < j, row by row, two 64-bit floats': row i has the pairs (i, i + 1) to (i, n − 1)
unfoldable pub pair_row : ℕ → List Float → List Float → ℕ → List ℕ
pair_row n k l i = joined (n - 1 - i) (λ d. pattern (square n k i (i + 1 + d)) ∷ pattern (square n l i (i + 1 + d)) ∷ [])

unfoldable pub pair_rows : ℕ → List Float → List Float → List ℕ
pair_rows n k l = joined n (pair_row n k l)

-- what the card of component lists says; the quantum model's m is no field of it
unfoldable pub quantum_card : Quantum.Lists → Card
quantum_card x =
    record {
      kind = 0;
      count = x.count;
      values = joined x.count (quantum_component_of x) ++ pair_rows x.count x.k_ij x.l_ij;
    }

unfoldable pub mie_card : Mie.Lists → Card
mie_card x =
    record {
      kind = 1;
      count = x.count;
      values = joined x.count (mie_component_of x) ++ pair_rows x.count x.k_ij x.gamma_ij;
    }

-- 'The lists pass the tests for numbers 1 to 5 first; 6 is left to the parameters.' The parameters give 6 after all of these
unfoldable pub passed : {S : Type 0} → Ans S → Ans Bool
passed (held s) = held true
passed (refused n) = cond (eqb n 6) (held true) (refused n)

-- the same of what refused the lists, if anything did
abbrev pub passed_by : Option Refusal → Ans Bool
passed_by None = held true
passed_by (Some r) = cond (eqb (code r) 6) (held true) (refused (code r))

-- Slip 8: 'The fuel card of Slip 2 still holds at most eight, and its writer gives 10 for more, directly after those tests for 1 to 5.' 12 after them
unfoldable pub vrq_card : Quantum.Lists → CardRoom → Ans CardRoom
vrq_card x l =
    passed (Quantum.saft_vrq_mie_pars x) >>= λ _.
    demand 10 (leb x.count older.most) >>= λ _.
    card_stored (card_bytes older (quantum_card x)) l

unfoldable pub vr_card : Mie.Lists → CardRoom → Ans CardRoom
vr_card x l =
    passed (Mie.saft_vr_mie_pars x) >>= λ _.
    demand 10 (leb x.count older.most) >>= λ _.
    card_stored (card_bytes older (mie_card x)) l
