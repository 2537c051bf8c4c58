-- `saftvrqmie_searches::depth_search` meets its contract. Assumes nothing.
use mathlib.Core.Bool.{false}
use mathlib.Core.Path.{◌∙◌}
use Rattle.std.proofs.Common.{rules}
use Rattle.saftvrqmie_searches.specs.Searches.{depth_step, depth_search}
use Rattle.saftvrqmie_searches.proofs.depth_search.Goals as goal

pub returns : goal.returns
unfolding depth_search
returns g c =
    let step = depth_step (g.D.DualNum.beside false) in
    record {
      formula = λ p h. c.radius_search.ensures _ _ step (λ r a k l. k p h) (λ v f e. search rules) (λ r v f s e. search rules);
      staged = λ U h. c.radius_search.ensures U _ step (λ r a k l. l ∙ h r) (λ v f e. search rules) (λ r v f s e. search rules);
    }
