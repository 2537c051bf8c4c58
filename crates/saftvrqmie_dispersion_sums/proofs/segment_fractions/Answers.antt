-- `saftvrqmie_dispersion_sums::segment_fractions` meets its contract. Assumes nothing.
use borrow.Author.Rules.{rules}
use mathlib.Core.Bool.{true}
use lib.ListN.{replicate}
use mathlib.Core.List.{map}
use mathlib.Core.Path.{ap, sym, ◌∙◌}
use Rattle.number.specs.Arith.{zero64}
use Rattle.number.specs.Lists.{nth}
use Rattle.number.proofs.Walk.{turns_none, turns_next, turns_end}
use Rattle.sizes.specs.Sizes.{side}
use Rattle.mie_parameters.specs.Places.{in_places}
use Rattle.std.proofs.lemmas.List.{length-map, map-set}
use Rattle.saftvrqmie_hard_sphere.proofs.Lists.{filled}
use Rattle.saftvrqmie_dispersion_sums.specs.Dispersion.{segment_fractions}
use Rattle.saftvrqmie_dispersion_sums.proofs.segment_fractions.Goals as goal

pub loop-i-init : goal.loop-i-init
loop-i-init g c = (search rules, search rules, turns_none _ _)

pub loop-i-preserved : goal.loop-i-preserved
loop-i-preserved g c =
    let m = g.met.D.DualNum in
    (search rules, c.loop-i.invariant.1, turns_next _ _ _ _ _ c.loop-i.invariant.2 (rw (map-set, m.mul_law true _ _ _ c.mul-p.ensures, m.mul_plain_law true _ _ _ c.mul.ensures, m.plain_lit_law true _ _ c.lit.ensures, c.entry.ensures true)))

pub returns : goal.returns
unfolding segment_fractions in_places
returns g c i p =
    let A = g.D.DualNum.beside true in
    rw (← c.inv_x_s_sum-inv.ensures) (
    ap (λ l. nth A l i) (turns_end _ _ _ _ _ c.loop-i.invariant.0 c.loop-i-test.false c.loop-i.invariant.2)
    ∙ filled _ _ _ _ (map (g.D.DualNum.of true) c.args.xs.now) p (rw (length-map c.args.xs.now (g.D.DualNum.of true), c.loop-i.invariant.1) c.requires.1)
    ∙ sym (filled _ _ _ _ (replicate side (A.lit zero64)) p c.requires.1))
