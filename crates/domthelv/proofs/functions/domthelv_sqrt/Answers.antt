-- `domthelv::functions::domthelv_sqrt` meets its contract. Assumes nothing.
use mathlib.Core.Path.{sym, subst}
use lib.Dec.{T}
use Rattle.elementary.specs.Port.{port}
use Rattle.elementary.specs.Promised.{SqrtAt}
use Rattle.elementary.proofs.Promised.{promised}
use Rattle.domthelv.proofs.Elementary.{delivers}
use Rattle.domthelv.proofs.functions.domthelv_sqrt.Goals as goal

pub returns : goal.returns
returns c =
    let a = c.before.before.before in
    delivers (SqrtAt a.args.x) c.sqrt.result (port.sqrt a.args.x) _ _ _ c.sqrt.ensures c.deliver.ensures (promised.sqrt a.args.x (subst T (sym a.well_formed.0.1) tt))
