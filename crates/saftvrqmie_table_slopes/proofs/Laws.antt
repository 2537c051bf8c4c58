-- The table with slopes, test by test. Assumes nothing.
use Prim.Native.Nat.{ℕ}
use lib.Ieee.{Float}
use mathlib.Core.Path.{◌≡◌}
use mathlib.Core.List.{List}
use mathlib.Core.Bool.{Bool, true, false, ◌&&◌}
use Rattle.number.specs.Ans.{held, refused, ◌>>=◌, demand}
use Rattle.elementary.specs.Port.{port}
use Rattle.dual.specs.Dual.{DualOf}
use Rattle.slopes_lists.specs.Lists.{SlopedList}
use Rattle.saftvrqmie_parameters.specs.declared.OrderRecord.{OrderRecord}
use Rattle.saftvrqmie.specs.Table.{table_finite}
use Rattle.saftvrqmie_table_slopes.specs.Table.{slopes_pairs, slopes_finite, table_slopes_into}

-- the table, test by test
pub finite_is : (a b r : Bool) (w : SlopedList) → a ≡ table_finite w.values → b ≡ table_finite w.slopes → (a && b) ≡ r → slopes_finite w ≡ r
unfolding slopes_finite
finite_is a b r w p q e = rw (← p, ← q) e

module _ (n : ℕ) (s : List Float) (orders : List OrderRecord) (t : DualOf Float) (x : SlopedList) where
  pub table_6 : (k : ℕ) → slopes_pairs port s orders t n x ≡ refused k → refused k ≡ table_slopes_into port n s orders t x
  unfolding table_slopes_into ◌>>=◌
  table_6 k p = rw p

  pub table_7 : (w : SlopedList) → slopes_pairs port s orders t n x ≡ held w → slopes_finite w ≡ false → refused 7 ≡ table_slopes_into port n s orders t x
  unfolding table_slopes_into demand ◌>>=◌
  table_7 w p q = rw (p, q)

  pub table_is : (w : SlopedList) → slopes_pairs port s orders t n x ≡ held w → slopes_finite w ≡ true → held w ≡ table_slopes_into port n s orders t x
  unfolding table_slopes_into demand ◌>>=◌
  table_is w p q = rw (p, q)
