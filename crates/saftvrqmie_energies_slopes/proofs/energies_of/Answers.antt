-- `saftvrqmie_energies_slopes::energies_of` meets its contract. Assumes nothing.
use borrow.Author.Rules.{rules}
use Rattle.number.specs.Answer.{answer_by}
use Rattle.number.proofs.Walk.{via, told, handed_on}
use Rattle.dual.specs.Value.{dual_of}
use Rattle.slopes.specs.Mixed.{sloped}
use Rattle.slopes_lists.specs.Lists.{state_of}
use Rattle.saftvrqmie_table_slopes.specs.Table.{sloped_of}
use Rattle.saftvrqmie_energies.specs.Energies.{each_by}
use Rattle.saftvrqmie_energies_slopes.specs.State.{sloped_at}
use Rattle.saftvrqmie_energies_slopes.specs.Energies.{contributions_slope}
use Rattle.saftvrqmie_energies_slopes.proofs.Ways.{entry_within, stops, refuses_7, holds}
use Rattle.saftvrqmie_energies_slopes.proofs.energies_of.Goals as goal

pub contributions-requires : goal.contributions-requires
contributions-requires c =
    (search rules, (search rules, (c.requires.0, c.requires.1, λ e p. (entry_within _ (search rules) e p, entry_within _ (search rules) e p), λ i p. (rw c.requires.2 p, rw c.requires.3 p), λ i p. (rw c.requires.4 p, rw c.requires.5 p))))

pub returns-in_err-e : goal.returns-in_err-e
unfolding contributions_slope sloped_at
returns-in_err-e c =
    rw (handed_on _ c.from_residual.ensures) (stops c.args.set.now (state_of c.args.q.now) (sloped_of c.args.table.now) c.args.non_additive _ (via (answer_by (each_by (λ x. sloped (dual_of x)))) c.contributions.ensures c.in_err-e.was))

pub returns-then-not-all_finite : goal.returns-then-not-all_finite
unfolding contributions_slope sloped_at
returns-then-not-all_finite c =
    refuses_7 c.args.set.now (state_of c.args.q.now) (sloped_of c.args.table.now) c.args.non_additive _ (via (answer_by (each_by (λ x. sloped (dual_of x)))) c.contributions.ensures c.in_ok-e.was) (told c.all_finite.ensures c.if-not-all_finite.true)

pub returns : goal.returns
unfolding contributions_slope sloped_at
returns c =
    holds c.args.set.now (state_of c.args.q.now) (sloped_of c.args.table.now) c.args.non_additive _ (via (answer_by (each_by (λ x. sloped (dual_of x)))) c.contributions.ensures c.in_ok-e.was) (told c.all_finite.ensures c.if-not-all_finite.false)
