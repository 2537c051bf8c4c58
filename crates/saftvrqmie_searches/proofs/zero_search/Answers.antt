-- `saftvrqmie_searches::zero_search` meets its contract. Assumes nothing.
use mathlib.Core.Bool.{false}
use mathlib.Core.Path.{◌∙◌}
use lib.Ieee.{of_bits}
use Rattle.number.specs.Arith.{decimal}
use Rattle.number.specs.Answer.{answer_by}
use Rattle.number.proofs.Walk.{via}
use Rattle.std.proofs.Common.{rules}
use Rattle.saftvrqmie_potential.specs.Potential.{potential}
use Rattle.saftvrqmie_searches.specs.Searches.{zero_value, zero_step}
use Rattle.saftvrqmie_searches.proofs.Loops.{log_held}
use Rattle.saftvrqmie_searches.proofs.zero_search.Goals as goal

pub returns-in_err-l : goal.returns-in_err-l
unfolding decimal of_bits
returns-in_err-l g c =
    let m = g.met.D.DualNum in
    let none = m.epsilon_law false _ (via (answer_by (g.D.DualNum.plain false)) (rw (m.plain_lit_law false _ _ c.lit.ensures) at (c.plain_ln.ensures false)) c.in_err-l.was) in
    record { formula = λ p h. absurd none; staged = λ U h. absurd none }

pub returns : goal.returns
unfolding decimal of_bits
returns g c =
    let d = g.D.DualNum in
    let m = g.met.D.DualNum in
    let l = via (answer_by (d.plain false)) (rw (m.plain_lit_law false _ _ c.lit.ensures) at (c.plain_ln.ensures false)) c.in_ok-l.was in
    let start = rw (m.plain_lit_law false _ _ c.lit-2.ensures) at (m.mul_plain_law false _ _ _ c.mul-start.ensures) in
    let value = zero_value (d.beside false) (d.of false c.args.temperature) (d.plain false c.in_ok-l.l) in
    let step = zero_step (d.beside false) (d.of false c.args.temperature) in
    record {
      formula = λ p h. rw start at (c.radius_search.ensures (potential (d.beside false) (d.functions false) p) value step (λ r a k l. k p h) (λ v f e. search rules) (λ r v f s e. search rules)) ∙ log_held _ _ _ _ _ _ l;
      staged = λ U h. rw start at (c.radius_search.ensures U value step (λ r a k l. l ∙ h r) (λ v f e. search rules) (λ r v f s e. search rules)) ∙ log_held _ _ _ _ _ _ l;
    }
