-- `saftvrqmie_dispersion::alpha::alpha_ij` meets its contract. Assumes nothing.
use Rattle.number.specs.Ans.{◌>>=◌}
use Rattle.number.proofs.Walk.{handed_on}
use Rattle.saftvrqmie_dispersion.specs.Alpha.{alpha}
use Rattle.saftvrqmie_dispersion.proofs.alpha.alpha_ij.Goals as goal

pub returns-in_err-ra : goal.returns-in_err-ra
unfolding alpha ◌>>=◌
returns-in_err-ra g c w =
    let ra = rw (c.base-base.ensures.power w, c.ratio-s.ensures w) at (c.in_err-ra.ensures w) in
    rw (handed_on _ c.from_residual.ensures, ← ra)

pub returns-in_err-rr : goal.returns-in_err-rr
unfolding alpha ◌>>=◌
returns-in_err-rr g c w =
    let ra = rw (c.base-base.ensures.power w, c.ratio-s.ensures w) at (c.in_ok-ra.ensures w) in
    let rr = rw (c.base-base.ensures.power w, c.ratio-s.ensures w) at (c.in_err-rr.ensures w) in
    rw (handed_on _ c.from_residual-in_err-rr.ensures, ← ra, ← rr)

pub returns : goal.returns
unfolding alpha ◌>>=◌
returns g c w =
    let m = g.met.D.DualNum in
    let ra = rw (c.base-base.ensures.power w, c.ratio-s.ensures w) at (c.in_ok-ra.ensures w) in
    let rr = rw (c.base-base.ensures.power w, c.ratio-s.ensures w) at (c.in_ok-rr.ensures w) in
    rw (
      c.after.ensures w,
      m.mul_law w _ _ _ c.mul-v.ensures,
      m.mul_plain_law w _ _ _ c.mul.ensures,
      c.ratio-e.ensures w,
      c.alpha_of.ensures w,
      c.dmt_of-dmt.ensures w,
      c.ratio-s.ensures w,
      ← ra,
      ← rr,
    )
