-- `saftvrqmie_dispersion_sums::third` meets its contract. Assumes nothing.
use borrow.Author.Rules.{rules}
use Rattle.saftvrqmie_dispersion_sums.specs.Dispersion.{third}
use Rattle.saftvrqmie_dispersion_sums.proofs.third.Goals as goal

pub returns : goal.returns
unfolding third
returns g c x a q r = c.rows.ensures _ (λ i v sum b h t p. search rules)
