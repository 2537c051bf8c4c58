-- `saftvrmie_dispersion::sutherland::lambda_in` meets its contract. Assumes nothing.
use Rattle.saftvrmie_dispersion.proofs.sutherland.lambda_in.Goals as goal

pub returns : goal.returns
returns g c w =
    let p = g.met.D.PlainNum in
    rw (
      c.lift.ensures w,
      c.lift-2.ensures w,
      c.lift-3.ensures w,
      c.lift-4.ensures w,
      c.lift-5.ensures w,
      c.lift-6.ensures w,
      p.taken_law w,
      p.taken_law w,
      p.taken_law w,
      p.taken_law w,
      p.taken_law w,
      p.taken_law w,
    )
    (c.lambda_of-of.ensures w)
