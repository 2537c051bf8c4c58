use native.Mathlib.Omega.{arith}
use Rattle.card.proofs.Reading.{ends, flag_short, flag_zero, stored_short, stored_zero, stored_held}
use Rattle.number.proofs.Walk.{handed_on}
use borrow.Author.Rules.{rules}
use Rattle.card.proofs.spared.Goals as goal

-- src/lib.rt:77:9

pub returns-in_err-flag : goal.returns-in_err-flag
returns-in_err-flag c = rw (handed_on _ c.from_residual.ensures) (flag_short c.args.card.now c.args.at c.args.width _ c.plain.ensures.0 _ c.in_err-flag.was, search rules)

-- src/lib.rt:80:9
pub returns-then-flag-eq0 : goal.returns-then-flag-eq0
returns-then-flag-eq0 c = (flag_zero c.args.card.now c.args.at c.args.width _ c.plain.ensures.0 _ c.in_ok-flag.was c.if-flag-eq0.true, omega (arith, ends _ _ _ c.in_ok-flag.was c.plain.ensures.1))

-- src/lib.rt:83:9
pub returns-in_err-stored : goal.returns-in_err-stored
returns-in_err-stored c = rw (handed_on _ c.from_residual-in_err-stored.ensures) (stored_short c.args.card.now c.args.at c.args.width _ c.plain.ensures.0 _ c.in_ok-flag.was c.if-flag-eq0.false _ c.plain-2.ensures.0 _ c.in_err-stored.was, search rules)

-- src/lib.rt:86:9
pub returns-then-stored-eq0 : goal.returns-then-stored-eq0
returns-then-stored-eq0 c = (stored_zero c.args.card.now c.args.at c.args.width _ c.plain.ensures.0 _ c.in_ok-flag.was c.if-flag-eq0.false _ c.plain-2.ensures.0 _ c.in_ok-stored.was c.if-stored-eq0.true, search rules)

-- src/lib.rt:72:1
pub returns : goal.returns
returns c = (stored_held c.args.card.now c.args.at c.args.width _ c.plain.ensures.0 _ c.in_ok-flag.was c.if-flag-eq0.false _ c.plain-2.ensures.0 _ c.in_ok-stored.was c.if-stored-eq0.false, omega (arith, ends _ _ _ c.in_ok-flag.was c.plain.ensures.1, ends _ _ _ c.in_ok-stored.was c.plain-2.ensures.1))
