-- `logarithm::ln_1p` meets its contract. Assumes nothing.
use mathlib.Core.Path.{sym, subst}
use lib.Dec.{T}
use Rattle.logarithm.proofs.Domain.{no_nan, range_1p, ln_1p_below, ln_1p_above, ln_1p_inside}
use Rattle.logarithm.proofs.ln_1p.Goals as goal

pub returns-then-not-v : goal.returns-then-not-v
returns-then-not-v c = ln_1p_below _ c.if-not-v.true

pub returns-then-not-v-2 : goal.returns-then-not-v-2
returns-then-not-v-2 c = ln_1p_above _ c.if-not-v.false c.if-not-v-2.true

pub value_1p-requires : goal.value_1p-requires
value_1p-requires c = (no_nan _ _ c.if-not-v-2.false, range_1p c.args.v (subst T (sym c.well_formed.0.1) tt) c.if-not-v.false c.if-not-v-2.false)

pub returns : goal.returns
returns c = ln_1p_inside _ _ c.if-not-v.false c.if-not-v-2.false c.value_1p.ensures
