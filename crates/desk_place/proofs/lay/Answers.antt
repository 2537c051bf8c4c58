-- `desk_place::lay` meets its contract. Assumes nothing.
use Rattle.desk_place.proofs.Parts.{lay_next, lay_end}
use lib.ListN.{set}
use mathlib.Core.Path.{refl, ap, ◌∙◌}
use native.Mathlib.Omega.{arith}
use native.Mathlib.Numerals.{add-one}
use borrow.Author.Rules.{rules}
use Rattle.desk_place.proofs.lay.Goals as goal

pub loop-k-init : goal.loop-k-init
loop-k-init g c = (search rules, refl, refl)

pub loop-k-preserved : goal.loop-k-preserved
loop-k-preserved g c = (search rules, search rules, ap (set c.loop-k.part c.loop-k.k) c.index-x-k.is ∙ rw add-one (lay_next c.args.x.now c.args.part.now c.loop-k.part c.loop-k.k _ (omega (arith, c.loop-k-test.true)) (omega (arith, c.requires, c.loop-k-test.true)) c.loop-k.invariant.2))

pub shape_of-part : goal.shape_of-part
shape_of-part g c = c.loop-k.invariant.1

pub returns : goal.returns
returns g c = lay_end _ _ _ _ c.loop-k.invariant.0 c.loop-k-test.false c.loop-k.invariant.2
