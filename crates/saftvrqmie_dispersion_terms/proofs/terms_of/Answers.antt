-- `saftvrqmie_dispersion_terms::terms_of` meets its contract. Assumes nothing.
use mathlib.Core.Path.{refl, fun_ext}
use Rattle.saftvrqmie_dispersion_terms.specs.Terms.{combine_sutherland_and_b, terms_by}
use Rattle.saftvrqmie_dispersion_terms.proofs.terms_of.Goals as goal

pub returns : goal.returns
unfolding combine_sutherland_and_b terms_by
returns g c = record {
  formula = λ w. fun_ext (λ l. rw (c.factor_i.ensures w, c.factor_j.ensures w, c.base.ensures.power w, c.base-2.ensures.power w));
  handed = (refl, refl);
  factors = λ w. (c.factor_i.ensures w, c.factor_j.ensures w);
  bases = (c.base.ensures.value, c.base-2.ensures.value);
}
