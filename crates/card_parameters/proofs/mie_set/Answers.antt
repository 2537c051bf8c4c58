-- `card_parameters::mie_set` meets its contract. Assumes nothing.
use Prim.Native.Nat.{◌*◌}
use mathlib.Core.Path.{ap, ◌∙◌}
use Rattle.card_parameters.proofs.Lists.{part, mie_is}
use Rattle.saftvrmie_parameters.specs.Parameters as Mie
use Rattle.card_parameters.proofs.mie_set.Goals as goal

pub returns : goal.returns
returns c = c.saft_vr_mie_pars.ensures ∙ ap (λ (x : Mie.Lists). Mie.saft_vr_mie_pars x) (mie_is c.args.values.now c.args.n _ _ _ _ _ _ _ (part c.args.n c.column-m.result _ c.column-m.ensures) (part c.args.n c.column-sigma.result _ c.column-sigma.ensures) (part c.args.n c.column-epsilon_k.result _ c.column-epsilon_k.ensures) (part c.args.n c.column-lr.result _ c.column-lr.ensures) (part c.args.n c.column-la.result _ c.column-la.ensures) (part (c.args.n * c.args.n) c.list-k_ij.result _ c.list-k_ij.ensures) (part (c.args.n * c.args.n) c.list-gamma_ij.result _ c.list-gamma_ij.ensures))
