-- `patterns::slope` meets its contract. Assumes nothing.
use mathlib.Core.Path.{◌≡◌, ap}
use Rattle.dual.specs.Dual.{DualOf}
use Rattle.slope_num.specs.Value.{slope_by}
use Rattle.patterns.specs.Formulas.{slope}
use Rattle.patterns.proofs.slope.Goals as goal

-- what an operation says of the slope, and a number made of its parts
module _ {S R N : Type 0} (parts : S → DualOf R) (of : R → N) where
  eps_of : (x : S) (d : DualOf N) → slope_by parts of x ≡ d → of (parts x).eps ≡ d.eps
  unfolding slope_by
  eps_of x d h = ap (λ (e : DualOf N). e.eps) h

  made : (x : S) (r e : R) → parts x ≡ record { re = r; eps = e } → slope_by parts of x ≡ record { re = of r; eps = of e }
  unfolding slope_by
  made x r e h = rw h

pub returns : goal.returns
unfolding slope
returns g c w =
    let m = g.met.S.SlopeNum in
    rw (c.eps.ensures, eps_of (g.S.SlopeNum.parts) (g.S.Re.DualNum.of w) _ _ (m.div_law w _ _ _ c.div-q.ensures), c.cube.ensures w, m.add_law w _ _ _ c.add.ensures, c.plain.ensures w, made _ _ _ _ _ c.new-d.ensures, c.entered.ensures w)
