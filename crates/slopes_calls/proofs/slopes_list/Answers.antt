-- `slopes_calls::slopes_list` meets its contract. Assumes nothing.
use Rattle.slopes_calls.specs.Calls.{slopes_written}
use Rattle.slopes_calls.proofs.Places.{six_places}
use Rattle.dual.specs.Value.{dual_of}
use Rattle.slopes_calls.proofs.slopes_list.Goals as goal

pub returns : goal.returns
unfolding slopes_written dual_of
returns c = λ l p. six_places _ _ _ _ _ _ l p
