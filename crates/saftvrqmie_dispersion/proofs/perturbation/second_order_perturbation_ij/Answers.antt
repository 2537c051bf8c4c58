-- `saftvrqmie_dispersion::perturbation::second_order_perturbation_ij` meets its contract. Assumes nothing.
use Rattle.saftvrqmie_dispersion.specs.Perturbation.{combine_of, second_order_ij}
use Rattle.saftvrqmie_dispersion.proofs.perturbation.second_order_perturbation_ij.Goals as goal

pub returns : goal.returns
unfolding combine_of second_order_ij
returns g c = rw (c.second_order_at.ensures, c.terms_of-t.ensures.formula _)
