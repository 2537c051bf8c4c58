-- The orders of the Feynman-Hibbs correction. Assumes nothing.
use mathlib.Core.Path.{◌≡◌, refl}
use mathlib.Core.Bool.{false}
use Rattle.saftvrqmie_parameters.specs.declared.FeynmanHibbsOrder.{FeynmanHibbsOrder}
use Rattle.saftvrqmie_parameters.specs.declared.FeynmanHibbsOrder.TheVariants.{FH0, FH1, FH2}
use Rattle.saftvrqmie_potential.specs.Potential.{first_order, second_order}

-- an order without the first correction has no second
pub not_first : (o : FeynmanHibbsOrder) → first_order o ≡ false → second_order o ≡ false
not_first FH0 h = refl
not_first FH1 h = refl
not_first FH2 h = h
