-- `saftvrqmie_dispersion_sums::helmholtz_energy_density` meets its contract. Assumes nothing.
use borrow.Author.Rules.{rules}
use lib.ListN.{length}
use mathlib.Core.Path.{◌≡◌, refl, ◌∙◌}
use mathlib.Core.Bool.{true}
use Rattle.number.specs.Answer.{answer_by}
use Rattle.number.proofs.Walk.{via, handed_on}
use Rattle.sizes.specs.Sizes.{sheet}
use Rattle.std.proofs.lemmas.List.{length-map}
use Rattle.saftvrqmie_dispersion_sums.proofs.Turns.{no_alphas, no_first, no_second, no_third, dispersion_is}
use Rattle.saftvrqmie_dispersion_sums.proofs.Ways.{alphas_stop, alphas_found}
use Rattle.saftvrqmie_dispersion_sums.proofs.helmholtz_energy_density.Goals as goal

pub returns-in_err-alphas_of : goal.returns-in_err-alphas_of
returns-in_err-alphas_of g c =
    let D = g.D.DualNum in
    let len : length c.args.alphas.now ≡ sheet = search rules in
    let w = c.segment_state-segment.ensures _ c.segment_fractions.ensures in
    rw (handed_on _ c.from_residual.ensures) (no_alphas (D.beside true) _ _ _ _ _ _ _ refl _ w _ (alphas_stop (D.beside true) _ _ c.requires.1 _ _ (length-map _ (D.of true) ∙ len) _ c.alphas_of.ensures _ c.in_err-alphas_of.was))

pub returns-in_err-a1 : goal.returns-in_err-a1
returns-in_err-a1 g c =
    let D = g.D.DualNum in
    let len : length c.args.alphas.now ≡ sheet = search rules in
    let w = c.segment_state-segment.ensures _ c.segment_fractions.ensures in
    let l = alphas_found (D.beside true) _ _ c.requires.1 _ _ (length-map _ (D.of true) ∙ len) _ c.alphas_of.ensures c.in_ok-alphas_of.was in
    rw (handed_on _ c.from_residual-in_err-a1.ensures) (no_first (D.beside true) _ _ _ _ _ _ _ refl _ w l.list l.is _ (via (answer_by (D.of true)) (c.first.ensures _ c.segment_fractions.ensures) c.in_err-a1.was))

pub returns-in_err-a2 : goal.returns-in_err-a2
returns-in_err-a2 g c =
    let D = g.D.DualNum in
    let len : length c.args.alphas.now ≡ sheet = search rules in
    let w = c.segment_state-segment.ensures _ c.segment_fractions.ensures in
    let l = alphas_found (D.beside true) _ _ c.requires.1 _ _ (length-map _ (D.of true) ∙ len) _ c.alphas_of.ensures c.in_ok-alphas_of.was in
    rw (handed_on _ c.from_residual-in_err-a2.ensures) (no_second (D.beside true) _ _ _ _ _ _ _ refl _ w l.list l.is _ (via (answer_by (D.of true)) (c.first.ensures _ c.segment_fractions.ensures) c.in_ok-a1.was) _ (via (answer_by (D.of true)) (c.second.ensures _ _ c.segment_fractions.ensures l.pairs) c.in_err-a2.was))

pub returns-in_err-a3 : goal.returns-in_err-a3
returns-in_err-a3 g c =
    let D = g.D.DualNum in
    let len : length c.args.alphas.now ≡ sheet = search rules in
    let w = c.segment_state-segment.ensures _ c.segment_fractions.ensures in
    let l = alphas_found (D.beside true) _ _ c.requires.1 _ _ (length-map _ (D.of true) ∙ len) _ c.alphas_of.ensures c.in_ok-alphas_of.was in
    rw (handed_on _ c.from_residual-in_err-a3.ensures) (no_third (D.beside true) _ _ _ _ _ _ _ refl _ w l.list l.is _ (via (answer_by (D.of true)) (c.first.ensures _ c.segment_fractions.ensures) c.in_ok-a1.was) _ (via (answer_by (D.of true)) (c.second.ensures _ _ c.segment_fractions.ensures l.pairs) c.in_ok-a2.was) _ (via (answer_by (D.of true)) (c.third.ensures _ _ c.segment_fractions.ensures l.pairs) c.in_err-a3.was))

pub returns : goal.returns
returns g c =
    let D = g.D.DualNum in
    let m = g.met.D.DualNum in
    let len : length c.args.alphas.now ≡ sheet = search rules in
    let w = c.segment_state-segment.ensures _ c.segment_fractions.ensures in
    let l = alphas_found (D.beside true) _ _ c.requires.1 _ _ (length-map _ (D.of true) ∙ len) _ c.alphas_of.ensures c.in_ok-alphas_of.was in
    dispersion_is (D.beside true) _ _ _ _ _ _ _ refl _ w l.list l.is _ (via (answer_by (D.of true)) (c.first.ensures _ c.segment_fractions.ensures) c.in_ok-a1.was) _ (via (answer_by (D.of true)) (c.second.ensures _ _ c.segment_fractions.ensures l.pairs) c.in_ok-a2.was) _ _ _ _ (via (answer_by (D.of true)) (c.third.ensures _ _ c.segment_fractions.ensures l.pairs) c.in_ok-a3.was) (c.segment_density-n_s.ensures true) (c.orders_sum.ensures true) (m.mul_law true _ _ _ c.mul.ensures)
