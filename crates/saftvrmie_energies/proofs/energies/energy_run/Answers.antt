-- `saftvrmie_energies::energies::energy_run` meets its contract. Assumes nothing.
use Rattle.saftvrmie_energies.specs.Energies.{energy_run}
use Rattle.saftvrmie_energies.proofs.energies.energy_run.Goals as goal

pub returns-then-chain : goal.returns-then-chain
unfolding energy_run
returns-then-chain g c w = rw c.if-chain.true (c.helmholtz_energy_density_disp_chain.ensures w)

pub returns : goal.returns
unfolding energy_run
returns g c w = rw c.if-chain.false (c.helmholtz_energy_density_disp.ensures w)
