-- `saftvrqmie_dispersion::perturbation::first_order_at` meets its contract. Assumes nothing.
use lib.Ieee.{of_bits}
use Rattle.number.specs.Arith.{decimal}
use Rattle.number.specs.Ans.{◌>>=◌}
use Rattle.number.proofs.Walk.{told, handed_on}
use Rattle.saftvrqmie_potential.proofs.Orders.{not_first}
use Rattle.saftvrqmie_dispersion.specs.Perturbation.{first_order_by}
use Rattle.saftvrqmie_dispersion.proofs.perturbation.first_order_at.Goals as goal

pub returns-in_err-v : goal.returns-in_err-v
unfolding first_order_by ◌>>=◌
returns-in_err-v g c w = rw (handed_on _ c.from_residual.ensures, ← c.in_err-v.ensures w)

pub returns-then-not-first_order : goal.returns-then-not-first_order
unfolding first_order_by ◌>>=◌
returns-then-not-first_order g c w =
    let h = told c.first_order.ensures c.if-not-first_order.true in
    rw (c.first_closed.ensures w, ← c.in_ok-v.ensures w, h, not_first _ h)

pub returns-in_err-v1 : goal.returns-in_err-v1
unfolding first_order_by ◌>>=◌ decimal of_bits
returns-in_err-v1 g c w =
    let v1 = rw (c.quantum_1-qa1.ensures w, c.quantum_1-qr1.ensures w) at (c.in_err-v1.ensures w) in
    rw (handed_on _ c.from_residual-in_err-v1.ensures, ← c.in_ok-v.ensures w, told c.first_order.ensures c.if-not-first_order.false, ← v1)

pub returns-then-not-second_order : goal.returns-then-not-second_order
unfolding first_order_by ◌>>=◌ decimal of_bits
returns-then-not-second_order g c w =
    let v1 = rw (c.quantum_1-qa1.ensures w, c.quantum_1-qr1.ensures w) at (c.in_ok-v1.ensures w) in
    rw (c.first_closed-then-not-second_order.ensures w, ← c.in_ok-v.ensures w, told c.first_order.ensures c.if-not-first_order.false, ← v1, told c.second_order.ensures c.if-not-second_order.true)

pub returns-in_err-v2 : goal.returns-in_err-v2
unfolding first_order_by ◌>>=◌ decimal of_bits
returns-in_err-v2 g c w =
    let v1 = rw (c.quantum_1-qa1.ensures w, c.quantum_1-qr1.ensures w) at (c.in_ok-v1.ensures w) in
    let v2 = rw (c.quantum_2-qa2.ensures w, c.quantum_2-qr2.ensures w) at (c.in_err-v2.ensures w) in
    rw (handed_on _ c.from_residual-in_err-v2.ensures, ← c.in_ok-v.ensures w, told c.first_order.ensures c.if-not-first_order.false, ← v1, told c.second_order.ensures c.if-not-second_order.false, ← v2)

pub returns : goal.returns
unfolding first_order_by ◌>>=◌ decimal of_bits
returns g c w =
    let v1 = rw (c.quantum_1-qa1.ensures w, c.quantum_1-qr1.ensures w) at (c.in_ok-v1.ensures w) in
    let v2 = rw (c.quantum_2-qa2.ensures w, c.quantum_2-qr2.ensures w) at (c.in_ok-v2.ensures w) in
    rw (c.first_closed-2.ensures w, ← c.in_ok-v.ensures w, told c.first_order.ensures c.if-not-first_order.false, ← v1, told c.second_order.ensures c.if-not-second_order.false, ← v2)
