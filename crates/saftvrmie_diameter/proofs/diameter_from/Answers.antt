-- `saftvrmie_diameter::diameter_from` meets its contract. Assumes nothing.
use mathlib.Core.Bool.{true}
use mathlib.Core.Path.{◌∙◌}
use Rattle.saftvrmie_diameter.proofs.Staged.{as_it_is}
use Rattle.saftvrmie_diameter.proofs.diameter_from.Goals as goal

pub returns : goal.returns
returns c = as_it_is _ ∙ c.diameter_staged.ensures true
