-- `domthelv::functions::domthelv_ln_1p` meets its contract. Assumes nothing.
use mathlib.Core.Path.{sym, subst}
use lib.Dec.{T}
use Rattle.elementary.specs.Port.{port}
use Rattle.elementary.specs.Promised.{Ln1pAt}
use Rattle.elementary.proofs.Promised.{promised}
use Rattle.domthelv.proofs.Elementary.{delivers}
use Rattle.domthelv.proofs.functions.domthelv_ln_1p.Goals as goal

pub returns : goal.returns
returns c =
    let a = c.before.before.before in
    delivers (Ln1pAt a.args.x) c.ln_1p.result (port.ln1p a.args.x) _ _ _ c.ln_1p.ensures c.deliver.ensures (promised.ln1p a.args.x (subst T (sym a.well_formed.0.1) tt))
