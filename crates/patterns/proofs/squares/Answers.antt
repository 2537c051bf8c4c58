-- `patterns::squares` meets its contract. Assumes nothing.
use borrow.Author.Rules.{rules}
use Rattle.patterns.specs.Formulas.{squares}
use Rattle.number.proofs.Walk.{turns_none, turns_next}
use Rattle.patterns.proofs.squares.Goals as goal

pub loop-x-init : goal.loop-x-init
unfolding squares
loop-x-init g c = (search rules, λ w. rw (c.entered-s.ensures w) (turns_none _ _))

pub loop-x-preserved : goal.loop-x-preserved
unfolding squares
loop-x-preserved g c =
    let m = g.met.D.DualNum in
    (search rules, λ w. turns_next _ _ _ _ _ (c.loop-x.invariant.1 w) (rw (m.add_law w _ _ _ c.add-s.ensures, m.mul_law w _ _ _ c.mul.ensures, c.entered-d.ensures w)))
