-- `saftvrmie_energies::energies::helmholtz_energy_density_disp_chain` meets its contract. Assumes nothing.
use lib.Ieee.{of_bits}
use Rattle.number.specs.Arith.{decimal}
use Rattle.number.specs.Ans.{◌>>=◌}
use Rattle.number.specs.Answer.{answer_by}
use Rattle.number.proofs.Walk.{via, handed_on}
use Rattle.slope_num.specs.Value.{slope_by}
use Rattle.saftvrmie_dispersion.specs.Answer.{sums_by}
use Rattle.saftvrmie_energies.specs.Reads.{properties_by}
use Rattle.saftvrmie_energies.specs.Dispersion.{chain_rows, dispersion_chain}
use Rattle.saftvrmie_energies.proofs.energies.helmholtz_energy_density_disp_chain.Goals as goal

pub returns-in_err-q : goal.returns-in_err-q
unfolding dispersion_chain chain_rows ◌>>=◌ slope_by decimal of_bits
returns-in_err-q g c w = rw (handed_on _ c.from_residual.ensures, ← (rw c.requires.1 at (c.weighted-mean.ensures w)), ← (rw c.requires.1 at (c.xs_of.ensures w)), via (answer_by (properties_by (g.S.Re.DualNum.of w))) (c.properties_of.ensures w) c.in_err-q.was)

pub returns-in_err-a : goal.returns-in_err-a
unfolding dispersion_chain chain_rows ◌>>=◌ slope_by decimal of_bits
returns-in_err-a g c w =
    let f = rw c.re.ensures at (c.fluid_of-fluid.ensures w) in
    rw (handed_on _ c.from_residual-in_err-a.ensures, ← (rw c.requires.1 at (c.weighted-mean.ensures w)), ← (rw c.requires.1 at (c.xs_of.ensures w)), via (answer_by (properties_by (g.S.Re.DualNum.of w))) (c.properties_of.ensures w) c.in_ok-q.was, ← c.fluid_dual-v.ensures w, ← f, ← c.bar_of-bar.ensures w, ← c.inverse-t_inv.ensures w, via (answer_by (sums_by (g.S.Re.DualNum.of w))) (c.chain_rows.ensures w) c.in_err-a.was)

pub returns : goal.returns
unfolding dispersion_chain chain_rows ◌>>=◌ slope_by decimal of_bits
returns g c w =
    let n = g.met.S.Re.DualNum in
    let f = rw c.re.ensures at (c.fluid_of-fluid.ensures w) in
    rw (
      ← (rw c.requires.1 at (c.weighted-mean.ensures w)),
      ← (rw c.requires.1 at (c.xs_of.ensures w)),
      via (answer_by (properties_by (g.S.Re.DualNum.of w))) (c.properties_of.ensures w) c.in_ok-q.was,
      ← c.fluid_dual-v.ensures w,
      ← f,
      ← c.bar_of-bar.ensures w,
      ← c.inverse-t_inv.ensures w,
      via (answer_by (sums_by (g.S.Re.DualNum.of w))) (c.chain_rows.ensures w) c.in_ok-a.was,
      n.mul_law w _ _ _ c.mul-2.ensures,
      n.add_law w _ _ _ c.add.ensures,
      n.mul_law w _ _ _ c.mul.ensures,
      c.total-all.ensures w,
      c.requires.2,
      c.orders_sum-orders.ensures w,
    )
