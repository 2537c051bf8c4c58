-- The operations of numbers whose parts the run reads as they are: what floats and enclosures give to the trait's laws. Assumes nothing.
use mathlib.Core.Path.{◌≡◌, refl}
use Rattle.dual.specs.Dual.{DualOf}
use Rattle.slope_num.specs.Value.{slope_by}

module _ {S R : Type 0} (parts : S → DualOf R) where
  pub as_it_is : (x : S) → slope_by parts (λ p. p) x ≡ parts x
  unfolding slope_by
  as_it_is x = refl

  pub one : (op : DualOf R → DualOf R) (x r : S) → parts r ≡ op (parts x) → slope_by parts (λ p. p) r ≡ op (slope_by parts (λ p. p) x)
  one op x r h = rw (as_it_is r, as_it_is x, h)

  pub two : (op : DualOf R → DualOf R → DualOf R) (x y r : S) → parts r ≡ op (parts x) (parts y) → slope_by parts (λ p. p) r ≡ op (slope_by parts (λ p. p) x) (slope_by parts (λ p. p) y)
  two op x y r h = rw (as_it_is r, as_it_is x, as_it_is y, h)

  pub beside : (op : DualOf R → DualOf R → DualOf R) (plain : R → DualOf R) (x r : S) (c : R) → parts r ≡ op (parts x) (plain c) → slope_by parts (λ p. p) r ≡ op (slope_by parts (λ p. p) x) (plain c)
  beside op plain x r c h = rw (as_it_is r, as_it_is x, h)
