-- `saftvrqmie_dispersion::perturbation::factors_0` meets its contract. Assumes nothing.
use lib.Ieee.{of_bits}
use mathlib.Core.Bool.{Bool, true, false}
use mathlib.Core.Path.{◌≡◌, subst}
use Rattle.number.specs.Arith.{decimal}
use Rattle.saftvrqmie_dispersion.specs.Perturbation.{factors_by, taken_each, factors0}
use Rattle.saftvrqmie_dispersion.proofs.Laws.{stands_true, stands_false}
use Rattle.saftvrqmie_dispersion.proofs.perturbation.factors_0.Goals.{then-this-ne0, else-this-ne0}
use Rattle.saftvrqmie_dispersion.proofs.perturbation.factors_0.Goals as goal

pub returns : goal.returns
unfolding factors0 decimal of_bits
returns g c =
    let d = g.D.DualNum in
    let m = g.met.D.DualNum in
    let Meets : Bool → Type 0 = λ w. factors_by (d.of w) record { afac = c.lift-2.result; rfac = c.lift-3.result; arfac = c.if-this-ne0.arfac } ≡ taken_each (d.taken w) (factors0 (d.beside w)) in
    elim c.if-this-ne0.branch [
      | then-this-ne0 b ↦
          subst Meets (stands_true _ b.if-this-ne0.true) (rw (
            c.lift-2.ensures true,
            c.lift-3.ensures true,
            b.arfac-is,
            ← m.taken_of_law true b.mul-arfac.result,
            m.mul_plain_law true _ _ _ b.mul-arfac.ensures,
            m.neg_law true _ _ b.neg.ensures,
            b.lift.ensures true,
            m.neg_taken_law,
            m.plain_lit_law true _ _ c.lit-two.ensures,
            m.plain_lit_law true _ _ c.lit-one.ensures,
          ))
      | else-this-ne0 b ↦
          subst Meets (stands_false _ b.if-this-ne0.false) (rw (
            c.lift-2.ensures false,
            c.lift-3.ensures false,
            b.arfac-is,
            b.lift-arfac.ensures false,
            m.plain_mul_law false _ _ _ b.mul.ensures,
            m.plain_neg_law _ _ b.neg-else-this-ne0.ensures,
            m.plain_lit_law false _ _ c.lit-two.ensures,
            m.plain_lit_law false _ _ c.lit-one.ensures,
          ))
    ]
