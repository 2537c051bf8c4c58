-- `domthelv::functions::domthelv_tanh` meets its contract. Assumes nothing.
use mathlib.Core.Path.{sym, subst}
use lib.Dec.{T}
use Rattle.elementary.specs.Port.{port}
use Rattle.elementary.specs.Promised.{TanhAt}
use Rattle.elementary.proofs.Promised.{promised}
use Rattle.domthelv.proofs.Elementary.{delivers}
use Rattle.domthelv.proofs.functions.domthelv_tanh.Goals as goal

pub returns : goal.returns
returns c =
    let a = c.before.before.before in
    delivers (TanhAt a.args.x) c.tanh.result (port.tanh a.args.x) _ _ _ c.tanh.ensures c.deliver.ensures (promised.tanh a.args.x (subst T (sym a.well_formed.0.1) tt))
