-- The alphas that the code's list holds are those of the formula at each pair, and where the code's refuse, so do they. Assumes nothing.
use Prim.Native.Nat.{◌≤◌}
use lib.ListN.{length}
use mathlib.Core.List.{List}
use mathlib.Core.Path.{◌≡◌, sym}
use Rattle.std.specs.Prelude.{Err, Ok, Result}
use Rattle.number.specs.declared.refusal.Refusal.{Refusal}
use Rattle.number.specs.Answer.{code}
use Rattle.number.specs.Ans.{held, refused}
use Rattle.number.specs.Arith.{Arith}
use Rattle.number.specs.Functions.{Functions}
use Rattle.number.specs.Lists.{nth}
use Rattle.number.specs.Walk.{walk}
use Rattle.sizes.specs.Sizes.{side, sheet}
use Rattle.mie_parameters.specs.Answer.{outcome}
use Rattle.mie_parameters.proofs.Laws.{held_at, refused_at}
use Rattle.saftvrqmie_dispersion_sums.specs.State.{SheetsIn, Pairs}
use Rattle.saftvrqmie_dispersion_sums.specs.Dispersion.{alpha_row, alphas}
use Rattle.saftvrqmie_dispersion_sums.proofs.Alphas.{both_refuses, both_holds, alphas_both, rows_read}

module _ (A : Arith) (F : Functions A.Num) (s : SheetsIn A.Num) (high : s.count ≤ side) (begin l : List A.Num) (len : length begin ≡ sheet)
    (found : Result (Unit {0}) Refusal) (are-l : outcome found l ≡ walk s.count (alpha_row A F s) begin) where
  pub alphas_stop : (k : Refusal) → found ≡ Err k → alphas A F s ≡ refused (code k)
  alphas_stop k e = both_refuses (code k) (alphas_both A F s high begin len) (refused_at found _ _ k are-l e)

  -- the formula's list
  pub record Found : Type 0 where
    pub list : List A.Num
    pub is : alphas A F s ≡ held list
    pub pairs : Pairs A s.count l (nth A list)

  pub alphas_found : found ≡ Ok tt → Found
  alphas_found e =
      let f = both_holds l (alphas_both A F s high begin len) (held_at found _ _ are-l e) in
      record { list = f.0; is = f.1.0; pairs = λ i j p q. sym (rows_read A s.count f.0 l f.1.1 i j p q) }
