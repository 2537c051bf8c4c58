-- `saftvrqmie_energies::energies_run` meets its contract. Assumes nothing.
use borrow.Author.Rules.{rules}
use mathlib.Core.Bool.{true}
use mathlib.Core.Path.{sym, ◌∙◌}
use Rattle.number.specs.Answer.{answer_by}
use Rattle.number.proofs.Walk.{told, via, handed_on}
use Rattle.saftvrqmie_energies.specs.Energies.{each_by}
use Rattle.saftvrqmie_energies.specs.Reads.{set_of}
use Rattle.saftvrqmie_energies.proofs.Parts.{as_it_is}
use Rattle.saftvrqmie_energies.proofs.Ways.{right, refuses_1, refuses_2, stops, refuses_7, holds}
use Rattle.saftvrqmie_energies.proofs.energies_run.Goals as goal

pub returns-then-not-right_lengths : goal.returns-then-not-right_lengths
returns-then-not-right_lengths g c = refuses_1 (g.D.DualNum.beside true) (set_of c.args.set.now) _ _ _ _ _ (told c.right_lengths.ensures c.if-not-right_lengths.true)

pub state_within-requires : goal.state_within-requires
state_within-requires g c = let h = right _ _ _ _ (told c.right_lengths.ensures c.if-not-right_lengths.false) in (h.fractions, h.densities)

pub returns-then-not-state_within : goal.returns-then-not-state_within
returns-then-not-state_within g c = refuses_2 (g.D.DualNum.beside true) (set_of c.args.set.now) _ _ _ _ _ (told c.right_lengths.ensures c.if-not-right_lengths.false) (told c.state_within.ensures c.if-not-state_within.true)

pub contributions-requires : goal.contributions-requires
contributions-requires g c = let h = right _ _ _ _ (told c.right_lengths.ensures c.if-not-right_lengths.false) in (search rules, (search rules, (h.low, h.high, λ e p. c.requires _ e (rw h.places p), λ i p. c.requires _ i (rw h.fractions p), λ i p. c.requires _ i (rw h.densities p))))

pub returns-in_err-e : goal.returns-in_err-e
returns-in_err-e g c =
    let D = g.D.DualNum in
    rw (handed_on _ c.from_residual.ensures) (stops (D.beside true) (set_of c.args.set.now) _ _ _ _ _ (told c.right_lengths.ensures c.if-not-right_lengths.false) (told c.state_within.ensures c.if-not-state_within.false) _ (sym (as_it_is _ (g.met.D.PlainNum.taken_law true) _) ∙ via (answer_by (each_by (D.of true))) (rw (c.entered.ensures true) at c.contributions.ensures) c.in_err-e.was))

pub returns-then-not-all_finite : goal.returns-then-not-all_finite
returns-then-not-all_finite g c =
    let D = g.D.DualNum in
    refuses_7 (D.beside true) (set_of c.args.set.now) _ _ _ _ _ (told c.right_lengths.ensures c.if-not-right_lengths.false) (told c.state_within.ensures c.if-not-state_within.false) _ (sym (as_it_is _ (g.met.D.PlainNum.taken_law true) _) ∙ via (answer_by (each_by (D.of true))) (rw (c.entered.ensures true) at c.contributions.ensures) c.in_ok-e.was) (told c.all_finite.ensures c.if-not-all_finite.true)

pub returns : goal.returns
returns g c =
    let D = g.D.DualNum in
    holds (D.beside true) (set_of c.args.set.now) _ _ _ _ _ (told c.right_lengths.ensures c.if-not-right_lengths.false) (told c.state_within.ensures c.if-not-state_within.false) _ (sym (as_it_is _ (g.met.D.PlainNum.taken_law true) _) ∙ via (answer_by (each_by (D.of true))) (rw (c.entered.ensures true) at c.contributions.ensures) c.in_ok-e.was) (told c.all_finite.ensures c.if-not-all_finite.false)
