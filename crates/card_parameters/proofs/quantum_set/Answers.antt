-- `card_parameters::quantum_set` meets its contract. Assumes nothing.
use Prim.Native.Nat.{◌*◌}
use mathlib.Core.Path.{ap, ◌∙◌}
use Rattle.card_parameters.proofs.Lists.{part, ones_is, quantum_is}
use Rattle.saftvrqmie_parameters.specs.Parameters as Quantum
use Rattle.sizes.specs.Sizes.{side}
use Rattle.number.specs.Arith.{decimal}
use lib.Ieee.{of_bits}
use Rattle.card_parameters.proofs.quantum_set.Goals as goal

pub returns : goal.returns
unfolding decimal of_bits
returns c = c.saft_vrq_mie_pars.ensures ∙ ap (λ (x : Quantum.Lists). Quantum.saft_vrq_mie_pars x) (quantum_is c.args.values.now c.args.n _ _ _ _ _ _ _ _ _ (part c.args.n _ _ (ones_is c.args.n side c.requires.0)) (part c.args.n c.column-sigma.result _ c.column-sigma.ensures) (part c.args.n c.column-epsilon_k.result _ c.column-epsilon_k.ensures) (part c.args.n c.column-lr.result _ c.column-lr.ensures) (part c.args.n c.column-la.result _ c.column-la.ensures) (part c.args.n c.column-mass.result _ c.column-mass.ensures) (part c.args.n c.orders-order.result _ c.orders-order.ensures) (part (c.args.n * c.args.n) c.list-k_ij.result _ c.list-k_ij.ensures) (part (c.args.n * c.args.n) c.list-l_ij.result _ c.list-l_ij.ensures))
