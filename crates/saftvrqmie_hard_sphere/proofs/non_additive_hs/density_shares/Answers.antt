-- `saftvrqmie_hard_sphere::non_additive_hs::density_shares` meets its contract. Assumes nothing.
use borrow.Author.Rules.{rules}
use lib.ListN.{replicate}
use mathlib.Core.List.{map}
use mathlib.Core.Path.{ap, sym, ◌∙◌}
use Rattle.number.specs.Arith.{zero64}
use Rattle.number.specs.Lists.{nth}
use Rattle.number.proofs.Walk.{turns_none, turns_next, turns_end}
use Rattle.sizes.specs.Sizes.{side}
use Rattle.mie_parameters.specs.Places.{in_places}
use Rattle.saftvrqmie_hard_sphere.specs.NonAdditive.{density_shares}
use Rattle.std.proofs.lemmas.List.{length-map, map-set}
use Rattle.saftvrqmie_hard_sphere.proofs.Lists.{filled}
use Rattle.saftvrqmie_hard_sphere.proofs.non_additive_hs.density_shares.Goals as goal

pub loop-i-init : goal.loop-i-init
loop-i-init g c = (search rules, search rules, λ w. turns_none _ _)

pub loop-i-preserved : goal.loop-i-preserved
loop-i-preserved g c =
    let m = g.met.D.DualNum in
    (search rules, c.loop-i.invariant.1, λ w. turns_next _ _ _ _ _ (c.loop-i.invariant.2 w) (rw (map-set, m.div_law w _ _ _ c.div-p.ensures, m.mul_plain_law w _ _ _ c.mul.ensures, m.plain_lit_law w _ _ c.lit.ensures, c.entry.ensures w)))

pub returns : goal.returns
unfolding density_shares in_places
returns g c w i p =
    let A = g.D.DualNum.beside w in
    ap (λ l. nth A l i) (turns_end _ _ _ _ _ c.loop-i.invariant.0 c.loop-i-test.false (c.loop-i.invariant.2 w))
    ∙ filled _ _ _ _ (map (g.D.DualNum.of w) c.args.xs.now) p (rw (length-map c.args.xs.now (g.D.DualNum.of w), c.loop-i.invariant.1) c.requires.1)
    ∙ sym (filled _ _ _ _ (replicate side (A.lit zero64)) p c.requires.1)
