-- `domthelv::functions::domthelv_ln` meets its contract. Assumes nothing.
use mathlib.Core.Path.{sym, subst}
use lib.Dec.{T}
use Rattle.elementary.specs.Port.{port}
use Rattle.elementary.specs.Promised.{LnAt}
use Rattle.elementary.proofs.Promised.{promised}
use Rattle.domthelv.proofs.Elementary.{delivers}
use Rattle.domthelv.proofs.functions.domthelv_ln.Goals as goal

pub returns : goal.returns
returns c =
    let a = c.before.before.before in
    delivers (LnAt a.args.x) c.ln.result (port.ln a.args.x) _ _ _ c.ln.ensures c.deliver.ensures (promised.ln a.args.x (subst T (sym a.well_formed.0.1) tt))
