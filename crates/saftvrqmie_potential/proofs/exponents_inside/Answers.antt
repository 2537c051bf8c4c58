-- `saftvrqmie_potential::exponents_inside` meets its contract. Assumes nothing.
use Rattle.std.proofs.Common.{◌≡◌, Bool, true, false, cond, not, ◌||◌, refl}
use Rattle.saftvrqmie_potential.specs.Shared.{exponents_inside}
use Rattle.saftvrqmie_potential.proofs.exponents_inside.Goals as goal

-- a test that counts only where it is wanted
wanted : (w t : Bool) → (not w || t) ≡ cond w t true
wanted true t = refl
wanted false t = refl

pub returns : goal.returns
unfolding exponents_inside
returns g c = rw (c.first_order.ensures, c.second_order.ensures, c.both_inside-5.ensures, c.both_inside-4.ensures, c.both_inside-3.ensures, c.both_inside-2.ensures, c.both_inside.ensures, c.both_inside-at4.ensures, c.both_inside-at2.ensures, wanted, wanted)
