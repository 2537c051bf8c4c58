-- Demand 3 on the made-up formula: whatever is handed in and whatever the elementary functions answer, the ends that are reported enclose the float run and the exact run. Assumes nothing.
use Rattle.std.specs.Prelude.{Result, Ok, Err}
use mathlib.Core.Path.{◌≡◌, refl}
use Rattle.number.specs.Answer.{answer, answer_by}
use Rattle.number.specs.declared.refusal.Refusal.{Refusal}
use Rattle.enclosure.specs.declared.Enclosure.{Enclosure}
use mathlib.Core.List.{List}
use lib.ListN.{length}
use lib.Ieee.{Float}
use Rattle.number.specs.Ans.{held}
use Rattle.number.specs.Arith.{floats}
use Rattle.number.specs.Functions.{Answers, calls}
use Rattle.number.specs.Lists.{at}
use Rattle.number.proofs.Rel.{Both, calls_rel}
use Rattle.enclosure.specs.declared.Ends.{Ends}
use Rattle.enclosure.specs.Enclosure.{enclosures}
use Rattle.enclosure.specs.Constants.{Choice}
use Rattle.enclosure.specs.Exact.{exacts}
use Rattle.enclosure.specs.Ends.{Fair, Encloses, ends_alone}
use Rattle.enclosure.proofs.Relations.{Value, values, value_point, contains, contains_point}
use Rattle.enclosure.proofs.TwoEnds.{tested_encloses, alone_is}
use Rattle.patterns.proofs.Relation.{sample_rel}
use Rattle.patterns_ends.specs.Operations.{sample_float, sample_enclosure, sample_exact, sample_ends}

-- the two-ended run's answer is read as it is
pub alike : (a : Result Enclosure Refusal) → answer_by (λ x. x) a ≡ answer a
alike (Ok x) = refl
alike (Err r) = refl

module _ (E : Answers) (xs : List Float) (y : Float) where
  sample_values : Both Value (sample_enclosure E xs y) (sample_float E xs y)
  sample_values = sample_rel enclosures floats values (calls enclosures E) (calls floats E) (calls_rel enclosures floats values E) (length xs) _ _ _ _ (λ i. value_point (at xs i)) (value_point y)

  pub sample_encloses : (q : Choice) → Fair q → (e : Ends) → sample_ends E xs y ≡ held e → Encloses e (sample_float E xs y) (sample_exact E q xs y)
  unfolding sample_ends
  sample_encloses q fair =
      tested_encloses sample_values
      (sample_rel enclosures (exacts q) (contains q fair) (calls enclosures E) (calls (exacts q) E) (calls_rel enclosures (exacts q) (contains q fair) E) (length xs) _ _ _ _ (λ i. contains_point (at xs i)) (contains_point y))

  -- the two-ended run alone gives the float run's refusals too: what the code works
  pub sample_alone : ends_alone (sample_enclosure E xs y) ≡ sample_ends E xs y
  unfolding sample_ends
  sample_alone = alone_is sample_values
