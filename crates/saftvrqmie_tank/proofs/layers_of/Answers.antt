-- `saftvrqmie_tank::layers_of` meets its contract. Assumes nothing.
use Rattle.saftvrqmie_tank.proofs.Ways.{layer_lengths, layer_volume, layer_temperature, answer_at, pile_next, pile_stop, pile_end}
use mathlib.Core.Bool.{true}
use mathlib.Core.Path.{refl, sym}
use Rattle.number.specs.Answer.{answer_by}
use Rattle.number.proofs.Walk.{via, walk_none, handed_on}
use Rattle.saftvrqmie_energies.specs.Energies.{each_by}
use borrow.Author.Rules.{rules}
use Rattle.saftvrqmie_tank.proofs.layers_of.Goals as goal

pub loop-l-init : goal.loop-l-init
loop-l-init g c = (search rules, rw (c.entered-zero.ensures true) (walk_none _ _))

pub layer_at-y-requires : goal.layer_at-y-requires
layer_at-y-requires g c = (c.loop-l-test.true, c.requires.0, c.requires.1)

pub layer_of-requires : goal.layer_of-requires
layer_of-requires g c = layer_lengths _ _ _ _ c.layer_at-y.ensures c.requires.1 c.loop-l-test.true

pub returns-in_err-e : goal.returns-in_err-e
returns-in_err-e g c =
    let D = g.D.DualNum in
    rw (handed_on _ c.from_residual.ensures) (pile_stop (D.beside true) _ _ _ _ _ c.loop-l-test.true c.loop-l.invariant.1 _ _ (sym (via (answer_by (each_by (D.of true))) (answer_at _ _ _ _ _ _ _ c.layer_at-y.ensures c.layer_of.ensures) c.in_err-e.was)) refl)

pub loop-l-preserved : goal.loop-l-preserved
loop-l-preserved g c =
    let D = g.D.DualNum in
    let is = c.layer_at-y.ensures in
    (search rules, pile_next (D.beside true) _ _ _ _ _ _ _ _ _ (layer_volume _ _ _ _ is) (layer_temperature _ _ _ _ is) c.loop-l.invariant.1 (via (answer_by (each_by (D.of true))) (answer_at _ _ _ _ _ _ _ is c.layer_of.ensures) c.in_ok-e.was) (c.layer_piled-below.ensures true))

pub returns : goal.returns
returns g c =
    let D = g.D.DualNum in
    pile_end (D.beside true) _ _ _ _ _ c.loop-l.invariant.0 c.loop-l-test.false c.loop-l.invariant.1
