-- `domthelv::functions::domthelv_powf` meets its contract. Assumes nothing.
use mathlib.Core.Path.{sym, subst}
use lib.Dec.{T}
use Rattle.elementary.specs.Port.{port}
use Rattle.elementary.specs.Promised.{PowfAt}
use Rattle.elementary.proofs.Promised.{promised}
use Rattle.domthelv.proofs.Elementary.{delivers}
use Rattle.domthelv.proofs.functions.domthelv_powf.Goals as goal

pub returns : goal.returns
returns c =
    let a = c.before.before.before in
    delivers (PowfAt a.args.base a.args.exponent) c.powf.result (port.powf a.args.base a.args.exponent) _ _ _ c.powf.ensures c.deliver.ensures (promised.powf a.args.base a.args.exponent (subst T (sym a.well_formed.0.1) tt) (subst T (sym a.well_formed.1.0.1) tt))
