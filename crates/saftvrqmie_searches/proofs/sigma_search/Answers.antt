-- `saftvrqmie_searches::sigma_search` meets its contract. Assumes nothing.
use mathlib.Core.Bool.{false}
use mathlib.Core.Path.{◌∙◌}
use Rattle.std.proofs.Common.{rules}
use Rattle.saftvrqmie_searches.specs.Searches.{sigma_step, sigma_search}
use Rattle.saftvrqmie_searches.proofs.sigma_search.Goals as goal

pub returns : goal.returns
unfolding sigma_search
returns g c =
    let step = sigma_step (g.D.DualNum.beside false) in
    record {
      formula = λ p h. c.radius_search.ensures _ _ step (λ r a k l. k p h) (λ v f e. search rules) (λ r v f s e. search rules);
      staged = λ U h. c.radius_search.ensures U _ step (λ r a k l. l ∙ h r) (λ v f e. search rules) (λ r v f s e. search rules);
    }
