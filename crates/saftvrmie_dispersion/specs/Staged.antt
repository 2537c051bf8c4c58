-- Where x0 has the powers that the five sums ask for: what the code tests first, so that no sum refuses afterwards. The contracts of helpers alone; that the sums are refused with 6 where a power is missing is shown in proofs/Staged.
use Rattle.std.specs.Prelude.{Bool, true, false, ◌&&◌}
use Rattle.number.specs.Ans.{Ans, held, refused}
use Rattle.number.specs.Arith.{Arith, whole}

abbrev pub is_held : {S : Type 0} → Ans S → Bool
is_held (held x) = true
is_held (refused n) = false

module _ (A : Arith) (x0-powf : A.Num → Ans A.Num) where
  unfoldable pub powers_held : A.Num → Bool
  powers_held y = is_held (x0-powf y) && (is_held (x0-powf (A.sub (whole A 3) y)) && is_held (x0-powf (A.sub (whole A 4) y)))

  unfoldable pub five_held : A.Num → A.Num → Bool
  five_held la lr =
      powers_held la
      && (powers_held lr
      && (powers_held (A.mul (whole A 2) la)
      && (powers_held (A.add la lr) && powers_held (A.mul (whole A 2) lr))))
