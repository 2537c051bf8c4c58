-- `saftvrqmie_dispersion_sums::first` meets its contract. Assumes nothing.
use borrow.Author.Rules.{rules}
use Rattle.saftvrqmie_dispersion_sums.specs.Dispersion.{first}
use Rattle.saftvrqmie_dispersion_sums.proofs.first.Goals as goal

pub returns : goal.returns
unfolding first
returns g c x q = c.rows.ensures _ (λ i v sum b h t p. search rules)
