-- `saftvrqmie_dispersion::perturbation::factors_of` meets its contract. Assumes nothing.
use mathlib.Core.Path.{◌∙◌, ap}
use native.Mathlib.Omega.{arith}
use Rattle.number.proofs.Walk.{told}
use Rattle.saftvrqmie_dispersion.specs.Perturbation.{taken_each, factors2_more}
use Rattle.saftvrqmie_dispersion.proofs.Laws.{each_kept, turn_0, turn_1, turn_2, turn_2_more, turn_3, turn_4}
use Rattle.saftvrqmie_dispersion.proofs.perturbation.factors_of.Goals as goal

pub returns-in-0 : goal.returns-in-0
returns-in-0 g c = c.factors_0.ensures ∙ ap (taken_each (g.D.DualNum.taken _)) (turn_0 _ _ _ _ c.in-0.is)

pub returns-in-1 : goal.returns-in-1
returns-in-1 g c = each_kept (g.D.DualNum.of _) (g.D.DualNum.taken _) (g.met.D.DualNum.taken_of_law _) _ ∙ ap (taken_each (g.D.DualNum.taken _)) (c.factors_1.ensures _ ∙ turn_1 _ _ _ _ c.in-1.is)

pub returns-then-second_order : goal.returns-then-second_order
returns-then-second_order g c = each_kept (g.D.DualNum.of _) (g.D.DualNum.taken _) (g.met.D.DualNum.taken_of_law _) _ ∙ ap (taken_each (g.D.DualNum.taken _)) ((c.factors_2_more.ensures _ ∙ ap (factors2_more _ _) (c.factors_2-h.ensures _)) ∙ turn_2_more _ _ _ _ c.in-2.is (told c.second_order.ensures c.if-second_order.true))

pub returns-else-second_order : goal.returns-else-second_order
returns-else-second_order g c = each_kept (g.D.DualNum.of _) (g.D.DualNum.taken _) (g.met.D.DualNum.taken_of_law _) _ ∙ ap (taken_each (g.D.DualNum.taken _)) (c.factors_2-h.ensures _ ∙ turn_2 _ _ _ _ c.in-2.is (told c.second_order.ensures c.if-second_order.false))

pub returns-in-3 : goal.returns-in-3
returns-in-3 g c = each_kept (g.D.DualNum.of _) (g.D.DualNum.taken _) (g.met.D.DualNum.taken_of_law _) _ ∙ ap (taken_each (g.D.DualNum.taken _)) (c.factors_3.ensures _ ∙ turn_3 _ _ _ _ c.in-3.is)

pub returns-in_default : goal.returns-in_default
returns-in_default g c = each_kept (g.D.DualNum.of _) (g.D.DualNum.taken _) (g.met.D.DualNum.taken_of_law _) _ ∙ ap (taken_each (g.D.DualNum.taken _)) (c.factors_4.ensures _ ∙ turn_4 _ _ _ _ (λ e. omega (arith, e)) (λ e. omega (arith, e)) (λ e. omega (arith, e)) (λ e. omega (arith, e)))
