-- `saftvrqmie_dispersion::perturbation::second_turn` meets its contract. Assumes nothing.
use denote.Param.{value_of, number}
use lib.Dec.{eqb}
use lib.Ieee.{of_bits, neg}
use mathlib.Core.Bool.{not}
use mathlib.Core.Path.{ap}
use Rattle.number.specs.Arith.{decimal}
use Rattle.number.specs.Ans.{◌>>=◌}
use Rattle.number.proofs.Walk.{handed_on}
use Rattle.saftvrqmie_dispersion.specs.Perturbation.{second_turn}
use Rattle.saftvrqmie_dispersion.proofs.perturbation.second_turn.Goals as goal

pub returns-in_err-int_a : goal.returns-in_err-int_a
unfolding second_turn ◌>>=◌ decimal of_bits neg
returns-in_err-int_a g c k t =
    let w = not (eqb (value_of (number g.row.ONE)) 0) in
    let m = g.met.D.DualNum in
    let int_a = rw (m.plain_add_law w _ _ _ c.add.ensures, m.plain_mul_law w _ _ _ c.mul.ensures, m.plain_mul_law w _ _ _ c.mul-shift.ensures, m.plain_lit_law w _ _ c.lit.ensures, m.plain_lit_law w _ _ c.lit-two.ensures, c.from.ensures) at (c.in_err-int_a.ensures w) in
    rw (handed_on _ c.from_residual.ensures, ← int_a)

pub returns-in_err-int_r : goal.returns-in_err-int_r
unfolding second_turn ◌>>=◌ decimal of_bits neg
returns-in_err-int_r g c k t =
    let w = not (eqb (value_of (number g.row.ONE)) 0) in
    let m = g.met.D.DualNum in
    let int_a = rw (m.plain_add_law w _ _ _ c.add.ensures, m.plain_mul_law w _ _ _ c.mul.ensures, m.plain_mul_law w _ _ _ c.mul-shift.ensures, m.plain_lit_law w _ _ c.lit.ensures, m.plain_lit_law w _ _ c.lit-two.ensures, c.from.ensures) at (c.in_ok-int_a.ensures w) in
    let int_r = rw (m.plain_add_law w _ _ _ c.add-2.ensures, m.plain_mul_law w _ _ _ c.mul-2.ensures, m.plain_mul_law w _ _ _ c.mul-shift.ensures, m.plain_lit_law w _ _ c.lit.ensures, m.plain_lit_law w _ _ c.lit-two.ensures, c.from.ensures) at (c.in_err-int_r.ensures w) in
    rw (handed_on _ c.from_residual-in_err-int_r.ensures, ← int_a, ← int_r)

pub returns-in_err-int_ar : goal.returns-in_err-int_ar
unfolding second_turn ◌>>=◌ decimal of_bits neg
returns-in_err-int_ar g c k t =
    let w = not (eqb (value_of (number g.row.ONE)) 0) in
    let m = g.met.D.DualNum in
    let int_a = rw (m.plain_add_law w _ _ _ c.add.ensures, m.plain_mul_law w _ _ _ c.mul.ensures, m.plain_mul_law w _ _ _ c.mul-shift.ensures, m.plain_lit_law w _ _ c.lit.ensures, m.plain_lit_law w _ _ c.lit-two.ensures, c.from.ensures) at (c.in_ok-int_a.ensures w) in
    let int_r = rw (m.plain_add_law w _ _ _ c.add-2.ensures, m.plain_mul_law w _ _ _ c.mul-2.ensures, m.plain_mul_law w _ _ _ c.mul-shift.ensures, m.plain_lit_law w _ _ c.lit.ensures, m.plain_lit_law w _ _ c.lit-two.ensures, c.from.ensures) at (c.in_ok-int_r.ensures w) in
    let int_ar = rw (m.plain_add_law w _ _ _ c.add-4.ensures, m.plain_add_law w _ _ _ c.add-3.ensures, m.plain_mul_law w _ _ _ c.mul-shift.ensures, m.plain_lit_law w _ _ c.lit.ensures, m.plain_lit_law w _ _ c.lit-two.ensures, c.from.ensures) at (c.in_err-int_ar.ensures w) in
    rw (handed_on _ c.from_residual-in_err-int_ar.ensures, ← int_a, ← int_r, ← int_ar)

pub returns : goal.returns
unfolding second_turn ◌>>=◌ decimal of_bits neg
returns g c k t =
    let w = not (eqb (value_of (number g.row.ONE)) 0) in
    let m = g.met.D.DualNum in
    let int_a = rw (m.plain_add_law w _ _ _ c.add.ensures, m.plain_mul_law w _ _ _ c.mul.ensures, m.plain_mul_law w _ _ _ c.mul-shift.ensures, m.plain_lit_law w _ _ c.lit.ensures, m.plain_lit_law w _ _ c.lit-two.ensures, c.from.ensures) at (c.in_ok-int_a.ensures w) in
    let int_r = rw (m.plain_add_law w _ _ _ c.add-2.ensures, m.plain_mul_law w _ _ _ c.mul-2.ensures, m.plain_mul_law w _ _ _ c.mul-shift.ensures, m.plain_lit_law w _ _ c.lit.ensures, m.plain_lit_law w _ _ c.lit-two.ensures, c.from.ensures) at (c.in_ok-int_r.ensures w) in
    let int_ar = rw (m.plain_add_law w _ _ _ c.add-4.ensures, m.plain_add_law w _ _ _ c.add-3.ensures, m.plain_mul_law w _ _ _ c.mul-shift.ensures, m.plain_lit_law w _ _ c.lit.ensures, m.plain_lit_law w _ _ c.lit-two.ensures, c.from.ensures) at (c.in_ok-int_ar.ensures w) in
    rw (
      m.add_law w _ _ _ c.add-7.ensures,
      ← t,
      m.add_taken_law w k,
      m.add_law w _ _ _ c.add-6.ensures,
      m.mul_law w _ _ _ c.mul-5.ensures,
      m.add_law w _ _ _ c.add-5.ensures,
      m.mul_law w _ _ _ c.mul-4.ensures,
      m.mul_law w _ _ _ c.mul-3.ensures,
      ap (λ h. h.afac) c.factors_of-h.ensures,
      ap (λ h. h.rfac) c.factors_of-h.ensures,
      ap (λ h. h.arfac) c.factors_of-h.ensures,
      m.mul_taken_law w c.in_ok-int_a.int_a,
      m.mul_taken_law w c.in_ok-int_ar.int_ar,
      m.mul_taken_law w c.in_ok-int_r.int_r,
      ← int_a,
      ← int_r,
      ← int_ar,
    )
