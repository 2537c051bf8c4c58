-- `saftvrmie_energies::sums::disp_rows` meets its contract. Assumes nothing.
use borrow.Author.Rules.{rules}
use Rattle.saftvrmie_energies.specs.Dispersion.{disp_rows}
use Rattle.saftvrmie_energies.proofs.sums.disp_rows.Goals as goal

pub returns : goal.returns
unfolding disp_rows
returns g c w = c.rows.ensures w _ (λ i sum r p e. search rules)
