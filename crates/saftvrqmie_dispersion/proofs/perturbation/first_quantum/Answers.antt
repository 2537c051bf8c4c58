-- `saftvrqmie_dispersion::perturbation::first_quantum` meets its contract. Assumes nothing.
use Rattle.number.specs.Ans.{◌>>=◌}
use Rattle.number.proofs.Walk.{handed_on}
use Rattle.saftvrqmie_dispersion.specs.Perturbation.{first_quantum}
use Rattle.saftvrqmie_dispersion.proofs.perturbation.first_quantum.Goals as goal

pub returns-in_err-int_qa : goal.returns-in_err-int_qa
unfolding first_quantum ◌>>=◌
returns-in_err-int_qa g c w =
    let m = g.met.D.DualNum in
    let int_qa = rw (m.plain_add_law w _ _ _ c.add.ensures, m.plain_lit_law w _ _ c.lit.ensures) at (c.in_err-int_qa.ensures w) in
    rw (handed_on _ c.from_residual.ensures, ← int_qa)

pub returns-in_err-int_qr : goal.returns-in_err-int_qr
unfolding first_quantum ◌>>=◌
returns-in_err-int_qr g c w =
    let m = g.met.D.DualNum in
    let int_qa = rw (m.plain_add_law w _ _ _ c.add.ensures, m.plain_lit_law w _ _ c.lit.ensures) at (c.in_ok-int_qa.ensures w) in
    let int_qr = rw (m.plain_add_law w _ _ _ c.add-2.ensures, m.plain_lit_law w _ _ c.lit-2.ensures) at (c.in_err-int_qr.ensures w) in
    rw (handed_on _ c.from_residual-in_err-int_qr.ensures, ← int_qa, ← int_qr)

pub returns : goal.returns
unfolding first_quantum ◌>>=◌
returns g c w =
    let m = g.met.D.DualNum in
    let int_qa = rw (m.plain_add_law w _ _ _ c.add.ensures, m.plain_lit_law w _ _ c.lit.ensures) at (c.in_ok-int_qa.ensures w) in
    let int_qr = rw (m.plain_add_law w _ _ _ c.add-2.ensures, m.plain_lit_law w _ _ c.lit-2.ensures) at (c.in_ok-int_qr.ensures w) in
    rw (
      m.add_law w _ _ _ c.add-3.ensures,
      m.sub_law w _ _ _ c.sub.ensures,
      m.mul_law w _ _ _ c.mul-2.ensures,
      m.mul_law w _ _ _ c.mul.ensures,
      ← int_qa,
      ← int_qr,
    )
