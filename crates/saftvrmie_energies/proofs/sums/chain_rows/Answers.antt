-- `saftvrmie_energies::sums::chain_rows` meets its contract. Assumes nothing.
use borrow.Author.Rules.{rules}
use Rattle.saftvrmie_energies.specs.Dispersion.{chain_rows}
use Rattle.saftvrmie_energies.proofs.sums.chain_rows.Goals as goal

pub returns : goal.returns
unfolding chain_rows
returns g c w = c.rows.ensures w _ (λ i sum r p e. search rules)
