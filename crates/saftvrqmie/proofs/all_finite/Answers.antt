-- `saftvrqmie::all_finite` meets its contract. Assumes nothing.
use Rattle.std.proofs.Common.{ap, ◌∙◌, ℕ}
use lib.Ieee.Scale.{finite}
use Rattle.number.specs.Lists.{at}
use Rattle.number.specs.Walk.{every}
use Rattle.limits.specs.Limits.{all_finite}
use Rattle.saftvrqmie.specs.Table.{table_finite}
use Rattle.saftvrqmie.proofs.all_finite.Goals as goal

pub returns : goal.returns
unfolding table_finite all_finite
returns c = λ e. c.all_finite.ensures ∙ ap (λ (n : ℕ). every n (λ k. finite (at c.args.values.now k))) e
