-- `domthelv::functions::domthelv_exp` meets its contract. Assumes nothing.
use mathlib.Core.Path.{sym, subst}
use lib.Dec.{T}
use Rattle.elementary.specs.Port.{port}
use Rattle.elementary.specs.Promised.{ExpAt}
use Rattle.elementary.proofs.Promised.{promised}
use Rattle.domthelv.proofs.Elementary.{delivers}
use Rattle.domthelv.proofs.functions.domthelv_exp.Goals as goal

pub returns : goal.returns
returns c =
    let a = c.before.before.before in
    delivers (ExpAt a.args.x) c.exp.result (port.exp a.args.x) _ _ _ c.exp.ensures c.deliver.ensures (promised.exp a.args.x (subst T (sym a.well_formed.0.1) tt))
