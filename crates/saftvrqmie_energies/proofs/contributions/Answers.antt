-- `saftvrqmie_energies::contributions` meets its contract. Assumes nothing.
use lib.Ieee.{of_bits}
use mathlib.Core.Bool.{true}
use mathlib.Core.Path.{sym, ◌∙◌}
use Rattle.number.specs.Answer.{answer_by}
use Rattle.number.specs.Arith.{decimal}
use Rattle.number.proofs.Walk.{via, handed_on}
use Rattle.saftvrqmie_hard_sphere.proofs.Ways.{hard_sphere_is}
use Rattle.saftvrqmie_energies.proofs.Parts.{no_hard_sphere, no_dispersion, worked}
use Rattle.saftvrqmie_energies.proofs.contributions.Goals as goal

pub returns-in_err-h : goal.returns-in_err-h
returns-in_err-h g c =
    let D = g.D.DualNum in
    let h = sym (hard_sphere_is _ _ _ _ _ _ _ _ (c.zeta-z.ensures true)) ∙ via (answer_by (D.of true)) (c.helmholtz_energy_density.ensures true) c.in_err-h.was in
    rw (handed_on _ c.from_residual.ensures) (no_hard_sphere (D.beside true) _ _ _ _ _ _ _ _ _ h)

pub returns-in_err-d : goal.returns-in_err-d
returns-in_err-d g c =
    let D = g.D.DualNum in
    let h = sym (hard_sphere_is _ _ _ _ _ _ _ _ (c.zeta-z.ensures true)) ∙ via (answer_by (D.of true)) (c.helmholtz_energy_density.ensures true) c.in_ok-h.was in
    rw (handed_on _ c.from_residual-in_err-d.ensures) (no_dispersion (D.beside true) _ _ _ _ _ _ _ _ _ h _ (via (answer_by (D.of true)) c.helmholtz_energy_density-2.ensures c.in_err-d.was))

pub returns : goal.returns
unfolding decimal of_bits
returns g c =
    let D = g.D.DualNum in
    let m = g.met.D.DualNum in
    let h = sym (hard_sphere_is _ _ _ _ _ _ _ _ (c.zeta-z.ensures true)) ∙ via (answer_by (D.of true)) (c.helmholtz_energy_density.ensures true) c.in_ok-h.was in
    worked (D.beside true) _ _ _ _ _ _ _ _ _ h _ _ (via (answer_by (D.of true)) c.helmholtz_energy_density-2.ensures c.in_ok-d.was) (m.taken_of_law true _) (m.taken_of_law true _) (m.taken_of_law true _) (c.wanted_part-a.ensures.part true (c.zeta-z.ensures true))
