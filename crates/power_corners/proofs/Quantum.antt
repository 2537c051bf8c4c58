-- The quantum set's pairs at 12 and 6. Assumes nothing.
use Prim.Native.Nat.{ℕ, zero, suc, ◌+◌, ◌*◌, ◌≤◌, ◌<◌}
use native.Mathlib.Omega.{arith}
use mathlib.Core.Path.{◌≡◌, sym, ap, ◌∙◌}
use mathlib.Core.Bool.{false}
use mathlib.Core.List.{List}
use lib.ListN.{replicate, length-replicate}
use lib.Ieee.{Float}
use Rattle.number.specs.Ans.{Ans, held, demand}
use Rattle.number.specs.Arith.{floats, decimal, bits, zero64}
use Rattle.number.specs.Functions.{calls}
use Rattle.number.specs.Lists.{at}
use Rattle.number.proofs.Walk.{demanded, held_inj, then_held}
use Rattle.sizes.specs.Sizes.{side, sheet, cell}
use Rattle.elementary.specs.Port.{port}
use Rattle.limits.specs.declared.Component.{Component}
use Rattle.limits.specs.Limits.{square, all_one}
use Rattle.mie_parameters.specs.Combine.{lambda_ij, c_ij}
use Rattle.saftvrqmie_parameters.specs.Parameters.{Lists, right_lengths, component_of, within_in, order_walk, pair_parameters, saft_vrq_mie_pars}
use Rattle.mie_parameters.specs.Sheets.{sheets_turn, sheets_row, sheets_of}
use Rattle.saftvrqmie_parameters.specs.declared.PairParameters.{PairParameters}
use Rattle.saftvrqmie_parameters.specs.declared.SaftVRQMiePars.{SaftVRQMiePars}
use Rattle.saftvrqmie_parameters.proofs.Laws.{lengths, sheets_in}
use Rattle.power_corners.specs.Corners.{ComponentsAt, QuantumSet}
use Rattle.power_corners.proofs.Sheets.{Stands, rows}
use Rattle.power_corners.proofs.Numbers.{c_12_6, lambda_12, lambda_6}

-- the sheets' order
abbrev entry : PairParameters → ℕ → Float
entry p zero = p.sigma
entry p (suc zero) = p.epsilon_k
entry p (suc (suc zero)) = p.c
entry p (suc (suc (suc zero))) = p.lr
entry p (suc (suc (suc (suc zero)))) = p.la
entry p (suc (suc (suc (suc (suc k))))) = p.mass

-- a pair's values come from the formulas
module _ (a b : Component) (ma mb k l : Float) (p : PairParameters) (h : pair_parameters a b ma mb k l ≡ held p) where
  record Combined : Type 0 where
    lr : lambda_ij floats (calls floats port) a.lr b.lr ≡ held p.lr
    la : lambda_ij floats (calls floats port) a.la b.la ≡ held p.la
    c : c_ij floats (calls floats port) p.lr p.la ≡ held p.c

  combined : Combined
  unfolding pair_parameters
  combined =
      let e = then_held _ _ p h in
      let r = then_held _ _ p e.2 in
      let t = then_held _ _ p r.2 in
      let v = then_held _ _ p t.2 in
      let is = held_inj _ p v.2 in
      record {
        lr = r.1 ∙ ap (λ (q : PairParameters). held q.lr) is;
        la = t.1 ∙ ap (λ (q : PairParameters). held q.la) is;
        c = rw (← is) v.1;
      }

module _ (l : Lists) where
  -- the values of pair (i, j)
  abbrev value : ℕ → ℕ → Ans PairParameters
  value i j = pair_parameters (component_of l i) (component_of l j) (at l.mass i) (at l.mass j) (square l.count l.k_ij i j) (square l.count l.l_ij i j)

  stand : (y : List Float) → l.count ≤ side → sheets_in l ≡ held y → (i j : ℕ) → i < l.count → j < l.count → Stands value entry y i j
  unfolding sheets_of sheets_row sheets_turn
  stand y n h = (rows value entry l.count l.count (replicate (6 * sheet) zero64) y n n (length-replicate (6 * sheet) zero64) h).done

  -- what a held set is made of
  record Made (s : SaftVRQMiePars) : Type 0 where
    high : l.count ≤ side
    count : l.count ≡ s.count
    sheets : sheets_in l ≡ held s.sheets

  made : (s : SaftVRQMiePars) → saft_vrq_mie_pars l ≡ held s → Made s
  unfolding saft_vrq_mie_pars
  made s h =
      let a = then_held (demand 1 (right_lengths l)) _ s h in
      let b = then_held (demand 2 (within_in l)) _ s a.2 in
      let c = then_held (demand 3 (all_one l.count (at l.m))) _ s b.2 in
      let d = then_held (order_walk l.count l.fh) _ s c.2 in
      let e = then_held (sheets_in l) _ s d.2 in
      let is = held_inj _ s e.2 in
      record {
        high = (lengths l (demanded 1 (right_lengths l) a.0 a.1)).high;
        count = ap (λ (q : SaftVRQMiePars). q.count) is;
        sheets = e.1 ∙ ap (λ (q : SaftVRQMiePars). held q.sheets) is;
      }

  module _ (s : SaftVRQMiePars) (h : saft_vrq_mie_pars l ≡ held s) (i j : ℕ) (row : i < s.count) (column : j < s.count) where
    stands : Stands value entry s.sheets i j
    stands = let m = made s h in stand s.sheets m.high m.sheets i j (rw m.count row) (rw m.count column)

    from : Combined (component_of l i) (component_of l j) (at l.mass i) (at l.mass j) (square l.count l.k_ij i j) (square l.count l.l_ij i j) stands.pair stands.is
    from = combined _ _ _ _ _ _ stands.pair stands.is

    lr_is : at s.sheets (3 * sheet + cell i j) ≡ stands.pair.lr
    lr_is = stands.entries 3 (omega arith)

    la_is : at s.sheets (4 * sheet + cell i j) ≡ stands.pair.la
    la_is = stands.entries 4 (omega arith)

    four_at : at s.sheets (3 * sheet + cell i j) ≡ decimal false 12 0 → at s.sheets (4 * sheet + cell i j) ≡ decimal false 6 0 → at s.sheets (2 * sheet + cell i j) ≡ bits 0x4010_0000_0000_0000
    four_at p q =
        stands.entries 2 (omega arith)
        ∙ held_inj _ _ (sym from.c ∙ ap (λ (x : Float). c_ij floats (calls floats port) x stands.pair.la) (sym lr_is ∙ p) ∙ ap (c_ij floats (calls floats port) (decimal false 12 0)) (sym la_is ∙ q) ∙ c_12_6)

    twelve : ComponentsAt l.lr l.la i j → at s.sheets (3 * sheet + cell i j) ≡ decimal false 12 0
    twelve w = lr_is ∙ held_inj _ _ (sym from.lr ∙ ap (λ (x : Float). lambda_ij floats (calls floats port) x (at l.lr j)) w.lr_i ∙ ap (lambda_ij floats (calls floats port) (decimal false 12 0)) w.lr_j ∙ lambda_12)

    six : ComponentsAt l.lr l.la i j → at s.sheets (4 * sheet + cell i j) ≡ decimal false 6 0
    six w = la_is ∙ held_inj _ _ (sym from.la ∙ ap (λ (x : Float). lambda_ij floats (calls floats port) x (at l.la j)) w.la_i ∙ ap (lambda_ij floats (calls floats port) (decimal false 6 0)) w.la_j ∙ lambda_6)

  pub quantum : (s : SaftVRQMiePars) → saft_vrq_mie_pars l ≡ held s → QuantumSet l s
  quantum s h =
      record {
        four_at = four_at s h;
        pair = λ i j r c w. let p = twelve s h i j r c w in let q = six s h i j r c w in (p, q, four_at s h i j r c p q);
      }
