-- `domthelv::functions::domthelv_exp_m1` meets its contract. Assumes nothing.
use mathlib.Core.Path.{sym, subst}
use lib.Dec.{T}
use Rattle.elementary.specs.Port.{port}
use Rattle.elementary.specs.Promised.{ExpM1At}
use Rattle.elementary.proofs.Promised.{promised}
use Rattle.domthelv.proofs.Elementary.{delivers}
use Rattle.domthelv.proofs.functions.domthelv_exp_m1.Goals as goal

pub returns : goal.returns
returns c =
    let a = c.before.before.before in
    delivers (ExpM1At a.args.x) c.exp_m1.result (port.expm1 a.args.x) _ _ _ c.exp_m1.ensures c.deliver.ensures (promised.expm1 a.args.x (subst T (sym a.well_formed.0.1) tt))
