-- `saftvrqmie_dispersion::perturbation::first_order_perturbation_ij` meets its contract. Assumes nothing.
use Rattle.saftvrqmie_dispersion.specs.Perturbation.{combine_of, first_order_ij}
use Rattle.saftvrqmie_dispersion.proofs.perturbation.first_order_perturbation_ij.Goals as goal

pub returns : goal.returns
unfolding combine_of first_order_ij
returns g c w = rw (c.first_order_at.ensures w, c.terms_of-t.ensures.formula w)
