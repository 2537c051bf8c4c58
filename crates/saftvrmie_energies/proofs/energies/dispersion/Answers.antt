-- `saftvrmie_energies::energies::dispersion` meets its contract. Assumes nothing.
use borrow.Author.Rules.{rules}
use mathlib.Core.Bool.{true}
use Rattle.mie_parameters.proofs.Laws.{held_at, refused_at}
use Rattle.saftvrmie_energies.proofs.Laws.{right_high, right_x, right_rho, right_d, first_passed, second_passed, test_told, refuses_1, refuses_2, refuses_6, refuses_or_holds}
use Rattle.number.proofs.Walk.{via, handed_on}
use Rattle.number.specs.Answer.{answer_by}
use Rattle.saftvrmie_energies.proofs.energies.dispersion.Goals as goal

pub returns-in_err-tested : goal.returns-in_err-tested
returns-in_err-tested c = rw (handed_on _ c.from_residual.ensures) (test_told _ _ _ _ (refused_at _ _ _ _ c.tested.ensures c.in_err-tested.was) (refuses_1 _ _ _ _ _ _) (refuses_2 _ _ _ _ _ _))

pub energy_run-requires : goal.energy_run-requires
energy_run-requires c =
    let h = first_passed _ _ (held_at _ _ _ c.tested.ensures c.in_ok-tested.was) in
    (search rules, (right_high _ _ _ _ h, right_x _ _ _ _ h, right_rho _ _ _ _ h, right_d _ _ _ _ h))

pub returns-in_err-v : goal.returns-in_err-v
returns-in_err-v c =
    let h = held_at _ _ _ c.tested.ensures c.in_ok-tested.was in
    rw (handed_on _ c.from_residual-in_err-v.ensures) (refuses_6 _ _ _ _ _ _ (first_passed _ _ h) (second_passed _ _ h) _ (via (answer_by (λ x. x)) (c.energy_run.ensures true) c.in_err-v.was))

pub returns : goal.returns
returns c =
    let h = held_at _ _ _ c.tested.ensures c.in_ok-tested.was in
    refuses_or_holds _ _ _ _ _ _ (first_passed _ _ h) (second_passed _ _ h) _ _ (via (answer_by (λ x. x)) (c.energy_run.ensures true) c.in_ok-v.was) c.if_finite.ensures
