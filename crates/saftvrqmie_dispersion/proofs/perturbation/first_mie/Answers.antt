-- `saftvrqmie_dispersion::perturbation::first_mie` meets its contract. Assumes nothing.
use Rattle.number.specs.Ans.{◌>>=◌}
use Rattle.number.proofs.Walk.{handed_on}
use Rattle.saftvrqmie_dispersion.specs.Perturbation.{first_mie}
use Rattle.saftvrqmie_dispersion.proofs.perturbation.first_mie.Goals as goal

pub returns-in_err-int_a : goal.returns-in_err-int_a
unfolding first_mie ◌>>=◌
returns-in_err-int_a g c w = rw (handed_on _ c.from_residual.ensures, ← c.in_err-int_a.ensures w)

pub returns-in_err-int_r : goal.returns-in_err-int_r
unfolding first_mie ◌>>=◌
returns-in_err-int_r g c w = rw (handed_on _ c.from_residual-in_err-int_r.ensures, ← c.in_ok-int_a.ensures w, ← c.in_err-int_r.ensures w)

pub returns : goal.returns
unfolding first_mie ◌>>=◌
returns g c w =
    let m = g.met.D.DualNum in
    rw (m.sub_law w _ _ _ c.sub.ensures, ← c.in_ok-int_a.ensures w, ← c.in_ok-int_r.ensures w)
