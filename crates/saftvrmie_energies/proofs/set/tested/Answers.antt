-- `saftvrmie_energies::set::tested` meets its contract. Assumes nothing.
use Rattle.number.proofs.Walk.{told}
use Rattle.saftvrmie_energies.proofs.Laws.{right_x, right_rho}
use Rattle.saftvrmie_energies.proofs.set.tested.Goals as goal

pub returns-then-not-right_lists : goal.returns-then-not-right_lists
returns-then-not-right_lists c = rw (told c.right_lists.ensures c.if-not-right_lists.true)

pub state_within-requires : goal.state_within-requires
state_within-requires c = (right_x _ _ _ _ (told c.right_lists.ensures c.if-not-right_lists.false), right_rho _ _ _ _ (told c.right_lists.ensures c.if-not-right_lists.false))

pub returns-then-not-state_within : goal.returns-then-not-state_within
returns-then-not-state_within c = rw (told c.right_lists.ensures c.if-not-right_lists.false, told c.state_within.ensures c.if-not-state_within.true)

pub returns : goal.returns
returns c = rw (told c.right_lists.ensures c.if-not-right_lists.false, told c.state_within.ensures c.if-not-state_within.false)
