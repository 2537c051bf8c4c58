-- `saftvrqmie_diameter_ends::hs_diameter` meets its contract. Assumes nothing.
use lib.Ieee.{of_bits}
use mathlib.Core.Bool.{true}
use mathlib.Core.Path.{subst}
use Rattle.number.specs.Ans.{◌>>=◌}
use Rattle.number.specs.Arith.{decimal}
use Rattle.number.specs.Answer.{answer}
use Rattle.number.proofs.Walk.{via, walk_none, walk_next, walk_stop, walk_end, handed_on}
use Rattle.saftvrqmie_potential.specs.Potential.{pair_of}
use Rattle.saftvrqmie_searches.specs.Diameter.{diameter, diameter_by}
use Rattle.saftvrqmie_alone_ends.specs.Alone.{EnclosureShares}
use Rattle.saftvrqmie_diameter_ends.proofs.Nodes.{diameter_none, turn_is, width_worked}
use borrow.Author.Rules.{rules}
use Rattle.saftvrqmie_diameter_ends.proofs.hs_diameter.Goals as goal

pub returns-in_err-s : goal.returns-in_err-s
returns-in_err-s c = rw (handed_on _ c.from_residual.ensures) (diameter_none _ _ _ _ (subst (EnclosureShares (pair_of c.args.p)) c.in_err-s.was (c.share.ensures.shares true)).0)

pub loop-k-init : goal.loop-k-init
loop-k-init c = (search rules, walk_none _ _)

pub returns-in_err-u : goal.returns-in_err-u
unfolding diameter diameter_by decimal of_bits ◌>>=◌
returns-in_err-u c =
    let u = c.u_after.ensures (pair_of c.args.p) (rw c.ask-asked.ensures (subst (EnclosureShares (pair_of c.args.p)) c.in_ok-s.was (c.share.ensures.shares true))) in
    rw (handed_on _ c.from_residual-in_err-u.ensures) (walk_stop _ _ _ _ _ _ c.loop-k-test.true c.loop-k.invariant.1 (turn_is _ _ _ _ _ _ _ (width_worked _ _ _ _ _ c.point-half.ensures c.sub.ensures c.mul-width.ensures)
    (rw (← (c.abscissa.ensures true), ← c.mul.ensures, ← c.add.ensures, ← c.add-r.ensures, via answer u c.in_err-u.was))))

pub returns-in_err-e : goal.returns-in_err-e
unfolding diameter diameter_by decimal of_bits ◌>>=◌
returns-in_err-e c =
    let u = c.u_after.ensures (pair_of c.args.p) (rw c.ask-asked.ensures (subst (EnclosureShares (pair_of c.args.p)) c.in_ok-s.was (c.share.ensures.shares true))) in
    rw (handed_on _ c.from_residual-in_err-e.ensures) (walk_stop _ _ _ _ _ _ c.loop-k-test.true c.loop-k.invariant.1 (turn_is _ _ _ _ _ _ _ (width_worked _ _ _ _ _ c.point-half.ensures c.sub.ensures c.mul-width.ensures)
    (rw (← (c.abscissa.ensures true), ← c.mul.ensures, ← c.add.ensures, ← c.add-r.ensures, via answer u c.in_ok-u.was, ← c.neg.ensures, ← c.div.ensures, via answer c.exp.ensures c.in_err-e.was))))

pub loop-k-preserved : goal.loop-k-preserved
unfolding decimal of_bits ◌>>=◌
loop-k-preserved c =
    let u = c.u_after.ensures (pair_of c.args.p) (rw c.ask-asked.ensures (subst (EnclosureShares (pair_of c.args.p)) c.in_ok-s.was (c.share.ensures.shares true))) in (
      search rules,
      walk_next _ _ _ _ _ c.loop-k.invariant.1 (turn_is _ _ _ _ _ _ _ (width_worked _ _ _ _ _ c.point-half.ensures c.sub.ensures c.mul-width.ensures)
          (rw (← (c.abscissa.ensures true), ← c.mul.ensures, ← c.add.ensures, ← c.add-r.ensures, via answer u c.in_ok-u.was, ← c.neg.ensures, ← c.div.ensures, via answer c.exp.ensures c.in_ok-e.was, ← c.point-one.ensures, ← c.neg-in-loop-k.ensures, ← c.add-f_u.ensures, ← c.mul-in-loop-k.ensures, ← (c.weight.ensures true), ← c.mul-part.ensures, ← c.add-d_hs.ensures))),
    )

pub returns : goal.returns
unfolding diameter diameter_by
returns c = walk_end _ _ _ _ _ c.loop-k.invariant.0 c.loop-k-test.false c.loop-k.invariant.1
