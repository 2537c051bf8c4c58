-- `saftvrmie_energies_ends::dispersion_ends` meets its contract. Assumes nothing.
use borrow.Author.Rules.{rules}
use mathlib.Core.Bool.{true}
use mathlib.Core.Path.{◌∙◌}
use Rattle.number.proofs.Walk.{handed_on}
use Rattle.elementary.specs.Port.{port}
use Rattle.mie_parameters.proofs.Laws.{held_at, refused_at}
use Rattle.saftvrmie_energies.specs.Reads.{set_of}
use Rattle.saftvrmie_energies.proofs.Laws.{right_high, right_x, right_rho, right_d, first_passed, second_passed, test_told, as_it_is}
use Rattle.saftvrmie_energies_ends.proofs.Encloses.{refuses_1, refuses_2, ends_are}
use Rattle.saftvrmie_energies_ends.proofs.dispersion_ends.Goals as goal

pub returns-in_err-tested : goal.returns-in_err-tested
returns-in_err-tested c = rw (handed_on _ c.from_residual.ensures) (test_told _ _ _ _ (refused_at _ _ _ _ c.tested.ensures c.in_err-tested.was) (refuses_1 port (set_of c.args.s.now.set) _ _ _ _ _) (refuses_2 port (set_of c.args.s.now.set) _ _ _ _ _))

pub energy_run-a-requires : goal.energy_run-a-requires
energy_run-a-requires c =
    let h = first_passed _ _ (held_at _ _ _ c.tested.ensures c.in_ok-tested.was) in
    (search rules, (right_high _ _ _ _ h, right_x _ _ _ _ h, right_rho _ _ _ _ h, right_d _ _ _ _ h))

pub returns : goal.returns
returns c =
    let h = held_at _ _ _ c.tested.ensures c.in_ok-tested.was in
    ends_are port (set_of c.args.s.now.set) _ _ _ _ _ (first_passed _ _ h) (second_passed _ _ h) _ _ (as_it_is _ ∙ c.energy_run-a.ensures true) c.ends_of.ensures
