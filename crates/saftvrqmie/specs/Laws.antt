-- What the table's run gives to the law of `PairStore`. Assumes nothing.
use Rattle.std.specs.Prelude.{◌≡◌, Result, Float}
use Rattle.number.specs.declared.refusal.Refusal.{Refusal}
use Rattle.number.specs.Answer.{answer_by}
use Rattle.number.specs.Arith.{floats, whole}
use Rattle.number.specs.Functions.{calls}
use Rattle.elementary.specs.Port.{port}
use Rattle.saftvrqmie_potential.specs.declared.Pair.{Pair}
use Rattle.saftvrqmie_potential.specs.Potential.{pair_by, pair_in, potential}
use Rattle.saftvrqmie_properties.specs.declared.PairProperties.{PairProperties}
use Rattle.saftvrqmie_properties.specs.Properties.{pair_properties_by, properties_from, properties_by, pair_properties}

-- what the code answers of a pair in floats is what the definition answers
pub float_properties : (p : Pair Float Float) (a : Result (PairProperties Float) Refusal) → let q = pair_by floats.lit (λ x. x) p in
    answer_by (pair_properties_by (λ x. x)) a ≡ properties_from floats (calls floats port) (potential floats (calls floats port) q) (floats.mul (whole floats 1) q.sigma) q.mass q.temperature
    → answer_by (pair_properties_by (λ x. x)) a ≡ pair_properties floats (calls floats port) (pair_in p)
unfolding pair_properties properties_by
float_properties p a h = h
