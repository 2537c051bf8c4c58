-- What the table's run with slopes gives to the law of `PairStore`. Assumes nothing.
use Rattle.std.specs.Prelude.{◌≡◌, false, Result, Float}
use Rattle.number.specs.Answer.{answer_by}
use Rattle.number.specs.declared.refusal.Refusal.{Refusal}
use Rattle.number.specs.Arith.{floats, decimal}
use Rattle.elementary.specs.Port.{port}
use Rattle.dual.specs.Dual.{plain_d}
use Rattle.dual.specs.Value.{dual_of}
use Rattle.dual.specs.declared.Dual.{Dual}
use Rattle.slopes.specs.Mixed.{plain, sloped, mixed}
use Rattle.slopes.specs.Rules.{mixed_functions}
use Rattle.saftvrqmie_potential.specs.declared.Pair.{Pair}
use Rattle.saftvrqmie_potential.specs.Potential.{pair_by, potential}
use Rattle.saftvrqmie_properties.specs.declared.PairProperties.{PairProperties}
use Rattle.saftvrqmie_properties.specs.Properties.{pair_properties_by, properties_from}
use Rattle.saftvrqmie_properties.proofs.Slopes.{slope_answer}
use Rattle.saftvrqmie_table_slopes.specs.Table.{properties_at}

-- what the code answers of a pair with slopes is what the definition answers
pub slope_properties : (p : Pair Dual Float) (a : Result (PairProperties Dual) Refusal) → let q = pair_by plain (λ (x : Dual). sloped (dual_of x)) p in
    answer_by (pair_properties_by (λ (x : Dual). sloped (dual_of x))) a ≡ properties_from mixed (mixed_functions port) (potential mixed (mixed_functions port) q) (mixed.mul (sloped (plain_d floats (decimal false 1 0))) q.sigma) q.mass q.temperature
    → answer_by (pair_properties_by dual_of) a ≡ properties_at port p
slope_properties p a h = slope_answer a _ _ h
