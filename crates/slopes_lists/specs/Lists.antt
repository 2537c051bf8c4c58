-- What the call with slopes takes beside a set, and its own tests (document 02, Slip 1).
use Rattle.std.specs.Prelude.{ℕ, eqb, Float, length, List, Bool, ◌&&◌}
use Rattle.std.specs.Float.Ieee.Scale.{finite}
use Rattle.number.specs.Lists.{at}
use Rattle.dual.specs.Dual.{DualOf}
use Rattle.dual.specs.Value.{dual_of}
use Rattle.dual_num.specs.declared.NumberList.{NumberList}
use Rattle.limits.specs.Limits.{count_within, all_finite}
use Rattle.slopes_lists.specs.declared.SlopedState as Declared

-- values in one list, their slopes in another
pub record SlopedList : Type 0 where
  pub values : List Float
  pub slopes : List Float

-- 'with temperature, each density and each fraction carrying a slope that the caller supplies'
pub record SlopedState : Type 0 where
  pub temperature : DualOf Float
  pub fractions : SlopedList
  pub densities : SlopedList

-- what a call lends
abbrev pub sloped_list : NumberList → SlopedList
sloped_list l = record { values = l.values.now; slopes = l.slopes.now }

abbrev pub state_of : Declared.SlopedState → SlopedState
state_of q = record { temperature = dual_of q.temperature; fractions = sloped_list q.fractions; densities = sloped_list q.densities }

-- 'all tests for 1 (slope lists too)': each list is as long as the count
unfoldable pub right_lengths : ℕ → SlopedList → Bool
right_lengths n l = eqb (length l.values) n && eqb (length l.slopes) n

unfoldable pub sloped_lengths : ℕ → SlopedState → Bool
sloped_lengths n q = count_within n && right_lengths n q.fractions && right_lengths n q.densities

-- '7 for a supplied slope that is not finite'
unfoldable pub supplied_finite : ℕ → SlopedState → Bool
supplied_finite n q = finite q.temperature.eps && all_finite n (at q.fractions.slopes) && all_finite n (at q.densities.slopes)
