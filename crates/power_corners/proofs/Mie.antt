-- The SAFT-VR Mie set's pairs at 12 and 6. Assumes nothing.
use Prim.Native.Nat.{ℕ, zero, suc, ◌+◌, ◌*◌, ◌≤◌, ◌<◌}
use native.Mathlib.Nat.{not-suc-le-zero, le_of_suc-le-suc, eq-or-lt_of_le}
use native.Mathlib.Omega.{arith}
use mathlib.Core.Path.{◌≡◌, refl, sym, ap, ◌∙◌}
use mathlib.Core.Logic.{◌⊎◌, inl, inr}
use mathlib.Core.Bool.{Bool, true, false, not, ◌&&◌}
use mathlib.Core.List.{List}
use lib.ListN.{replicate, length-replicate}
use lib.Dec.{T, eqb}
use lib.IntN.{pos}
use borrow.Author.Tests.{eq-eqb, eqb-true}
use lib.Ieee.{Float, fin, binary64, fits, of_bits, to_bits, is_nan}
use lib.Ieee.Bits.{of_bits-to_bits}
use lib.Ieee.Fits.{sub-fits}
use Rattle.std.proofs.lemmas.Bool.{and_parts}
use Rattle.number.specs.Ans.{Ans, held, demand}
use Rattle.number.specs.Arith.{floats, decimal, bits, zero64, one64}
use Rattle.number.specs.Functions.{calls}
use Rattle.number.specs.Lists.{at}
use Rattle.number.specs.Walk.{turns, every}
use Rattle.number.proofs.Walk.{demanded, held_inj, then_held}
use Rattle.sizes.specs.Sizes.{side, sheet, cell}
use Rattle.elementary.specs.Port.{port}
use Rattle.limits.specs.declared.Component.{Component}
use Rattle.limits.specs.Limits.{square, same_bits, pair_within, pairs_within, components_within, segments_within}
use Rattle.mie_parameters.specs.Combine.{lambda_ij, c_ij}
use Rattle.saftvrmie_parameters.specs.Combine.{lr_ij}
use Rattle.saftvrmie_parameters.specs.Parameters.{Lists, right_lengths, component_of, within_in, within_limits, pair_parameters, saft_vr_mie_pars}
use Rattle.mie_parameters.specs.Sheets.{sheets_turn, sheets_row, sheets_of}
use Rattle.saftvrmie_parameters.specs.declared.PairParameters.{PairParameters}
use Rattle.saftvrmie_parameters.specs.declared.SaftVRMiePars.{SaftVRMiePars}
use Rattle.saftvrmie_parameters.proofs.Laws.{lengths, sheets_in}
use Rattle.power_corners.specs.Corners.{ComponentsAt, MieSet}
use Rattle.power_corners.proofs.Sheets.{Stands, rows}
use Rattle.power_corners.proofs.Only.{only_one}
use Rattle.power_corners.proofs.Numbers.{c_12_6, lambda_6, lr_12, lr_by, zero_leaves}

-- the sheets' order
abbrev entry : PairParameters → ℕ → Float
entry p zero = p.sigma
entry p (suc zero) = p.epsilon_k
entry p (suc (suc zero)) = p.lr
entry p (suc (suc (suc zero))) = p.la
entry p (suc (suc (suc (suc zero)))) = p.c
entry p (suc (suc (suc (suc (suc k))))) = p.alpha

-- a pair's values come from the formulas
module _ (a b : Component) (k gamma : Float) (p : PairParameters) (h : pair_parameters a b k gamma ≡ held p) where
  record Combined : Type 0 where
    lr : lr_ij floats (calls floats port) a.lr b.lr gamma ≡ held p.lr
    la : lambda_ij floats (calls floats port) a.la b.la ≡ held p.la
    c : c_ij floats (calls floats port) p.lr p.la ≡ held p.c

  combined : Combined
  unfolding pair_parameters
  combined =
      let e = then_held _ _ p h in
      let r = then_held _ _ p e.2 in
      let t = then_held _ _ p r.2 in
      let v = then_held _ _ p t.2 in
      let is = held_inj _ p v.2 in
      record {
        lr = r.1 ∙ ap (λ (q : PairParameters). held q.lr) is;
        la = t.1 ∙ ap (λ (q : PairParameters). held q.la) is;
        c = rw (← is) v.1;
      }

-- ---- the diagonal of gamma_ij is +0
every_at : (n : ℕ) (p : ℕ → Bool) (i : ℕ) → i < n → every n p ≡ true → p i ≡ true
unfolding every turns
every_at zero p i l h = absurd (not-suc-le-zero l)
every_at (suc n) p i l h = go (eq-or-lt_of_le (le_of_suc-le-suc l)) (λ k. every_at n p i k (and_parts (every n p) (p n) h).0)
  where
    go : (i ≡ n) ⊎ (i < n) → (i < n → p i ≡ true) → p i ≡ true
    go (inl e) before = rw e (and_parts (every n p) (p n) h).1
    go (inr k) before = before k

gammas_within : (l : Lists) → within_in l ≡ true → pairs_within l.count (square l.count l.gamma_ij) ≡ true
unfolding within_limits
gammas_within l h =
    let n = l.count in
    (and_parts (components_within n (component_of l) && segments_within n (at l.m) && pairs_within n (square n l.k_ij)) (pairs_within l.count (square l.count l.gamma_ij)) h).1

same_zero : (x : Float) → T (fits binary64 x) → same_bits x (decimal false 0 0) ≡ true → x ≡ fin false 0 (pos 0)
unfolding same_bits decimal of_bits to_bits
same_zero x f h =
    let zero_bits = to_bits binary64 (decimal false 0 0) in
    sym (of_bits-to_bits binary64 x f) ∙ ap (of_bits binary64) (eqb-true (to_bits binary64 x) zero_bits (and_parts (not (is_nan x) && not (is_nan (decimal false 0 0))) (eqb (to_bits binary64 x) zero_bits) h).1)

leaves : (gamma : ℕ → ℕ → Float) (n i : ℕ) → i < n → T (fits binary64 (gamma i i)) → pairs_within n gamma ≡ true → floats.sub one64 (gamma i i) ≡ one64
unfolding pairs_within pair_within
leaves gamma n i l f h =
    let w = every_at n (λ j. pair_within gamma i j) i l (every_at n (λ i. every n (λ j. pair_within gamma i j)) i l h) in
    ap (floats.sub one64) (same_zero (gamma i i) f (rw (eq-eqb i i refl) at w)) ∙ zero_leaves false

module _ (l : Lists) where
  -- the values of pair (i, j)
  abbrev value : ℕ → ℕ → Ans PairParameters
  value i j = pair_parameters (component_of l i) (component_of l j) (square l.count l.k_ij i j) (square l.count l.gamma_ij i j)

  stand : (y : List Float) → l.count ≤ side → sheets_in l ≡ held y → (i j : ℕ) → i < l.count → j < l.count → Stands value entry y i j
  unfolding sheets_of sheets_row sheets_turn
  stand y n h = (rows value entry l.count l.count (replicate (6 * sheet) zero64) y n n (length-replicate (6 * sheet) zero64) h).done

  -- what a held set is made of
  record Made (s : SaftVRMiePars) : Type 0 where
    high : l.count ≤ side
    within : within_in l ≡ true
    count : l.count ≡ s.count
    sheets : sheets_in l ≡ held s.sheets

  made : (s : SaftVRMiePars) → saft_vr_mie_pars l ≡ held s → Made s
  unfolding saft_vr_mie_pars
  made s h =
      let a = then_held (demand 1 (right_lengths l)) _ s h in
      let b = then_held (demand 2 (within_in l)) _ s a.2 in
      let e = then_held (sheets_in l) _ s b.2 in
      let is = held_inj _ s e.2 in
      record {
        high = (lengths l (demanded 1 (right_lengths l) a.0 a.1)).high;
        within = demanded 2 (within_in l) b.0 b.1;
        count = ap (λ (q : SaftVRMiePars). q.count) is;
        sheets = e.1 ∙ ap (λ (q : SaftVRMiePars). held q.sheets) is;
      }

  module _ (s : SaftVRMiePars) (h : saft_vr_mie_pars l ≡ held s) (i j : ℕ) (row : i < s.count) (column : j < s.count) where
    stands : Stands value entry s.sheets i j
    stands = let m = made s h in stand s.sheets m.high m.sheets i j (rw m.count row) (rw m.count column)

    from : Combined (component_of l i) (component_of l j) (square l.count l.k_ij i j) (square l.count l.gamma_ij i j) stands.pair stands.is
    from = combined _ _ _ _ stands.pair stands.is

    lr_is : at s.sheets (2 * sheet + cell i j) ≡ stands.pair.lr
    lr_is = stands.entries 2 (omega arith)

    la_is : at s.sheets (3 * sheet + cell i j) ≡ stands.pair.la
    la_is = stands.entries 3 (omega arith)

    four_at : at s.sheets (2 * sheet + cell i j) ≡ decimal false 12 0 → at s.sheets (3 * sheet + cell i j) ≡ decimal false 6 0 → at s.sheets (4 * sheet + cell i j) ≡ bits 0x4010_0000_0000_0000
    four_at p q =
        stands.entries 4 (omega arith)
        ∙ held_inj _ _ (sym from.c ∙ ap (λ (x : Float). c_ij floats (calls floats port) x stands.pair.la) (sym lr_is ∙ p) ∙ ap (c_ij floats (calls floats port) (decimal false 12 0)) (sym la_is ∙ q) ∙ c_12_6)

    twelve : ComponentsAt l.lr l.la i j → floats.sub one64 (square l.count l.gamma_ij i j) ≡ one64 → at s.sheets (2 * sheet + cell i j) ≡ decimal false 12 0
    twelve w g =
        let gamma = square l.count l.gamma_ij i j in
        lr_is ∙ held_inj _ _ (sym from.lr ∙ ap (λ (x : Float). lr_ij floats (calls floats port) x (at l.lr j) gamma) w.lr_i ∙ ap (λ (x : Float). lr_ij floats (calls floats port) (decimal false 12 0) x gamma) w.lr_j ∙ lr_12 gamma g)

    by_gamma : ComponentsAt l.lr l.la i j → at s.sheets (2 * sheet + cell i j) ≡ decimal false 12 0 → floats.sub one64 (square l.count l.gamma_ij i j) ≡ one64
    by_gamma w p =
        let gamma = square l.count l.gamma_ij i j in
        only_one (floats.sub one64 gamma) (sub-fits binary64 one64 gamma)
        (held_inj _ _ (sym (lr_by gamma) ∙ sym (ap (λ (x : Float). lr_ij floats (calls floats port) (decimal false 12 0) x gamma) w.lr_j) ∙ sym (ap (λ (x : Float). lr_ij floats (calls floats port) x (at l.lr j) gamma) w.lr_i) ∙ from.lr) ∙ sym lr_is ∙ p)

    six : ComponentsAt l.lr l.la i j → at s.sheets (3 * sheet + cell i j) ≡ decimal false 6 0
    six w = la_is ∙ held_inj _ _ (sym from.la ∙ ap (λ (x : Float). lambda_ij floats (calls floats port) x (at l.la j)) w.la_i ∙ ap (lambda_ij floats (calls floats port) (decimal false 6 0)) w.la_j ∙ lambda_6)

  pub mie : (s : SaftVRMiePars) → saft_vr_mie_pars l ≡ held s → MieSet l s
  mie s h =
      record {
        four_at = four_at s h;
        pair = λ i j r c w g. let p = twelve s h i j r c w g in let q = six s h i j r c w in (p, q, four_at s h i j r c p q);
        only = by_gamma s h;
        diagonal = λ i r f. let m = made s h in leaves (square l.count l.gamma_ij) l.count i (rw m.count r) f (gammas_within l m.within);
      }
