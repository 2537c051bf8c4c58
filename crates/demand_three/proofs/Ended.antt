-- 'A divisor of 0 ends the exact run with no result', used or not: so that a result of the exact run means that it divided by no zero. Assumes nothing.
use mathlib.Core.Path.{◌≡◌, refl}
use mathlib.Core.Option.{Option, some, none}
use lib.Ieee as Ieee
use Rattle.number.specs.Frac.{Frac, val_f}
use Rattle.number.specs.Arith.{zero64}
use Rattle.enclosure.specs.Constants.{Choice}
use Rattle.enclosure.specs.Exact.{Exact, exacts, exactly, both, quotient_x, div_x, after_x}

pub by_zero : (q : Choice) (x : Exact) → ((exacts q).div x ((exacts q).lit zero64)).exact ≡ none
unfolding div_x exactly Ieee.of_bits
by_zero q x = go x.exact
  where
    go : (p : Option Frac) → both quotient_x p (some (val_f zero64)) ≡ none
    go none = refl
    go (some p) = refl

pub after_ended : (q : Choice) (u x : Exact) → u.exact ≡ none → ((exacts q).after u x).exact ≡ none
unfolding after_x
after_ended q u x ended = rw ended
