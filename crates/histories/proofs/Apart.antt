-- Answers that look at histories can tell two calls at one float apart, and two functions at one argument. Assumes nothing.
use mathlib.Core.Path.{◌≡◌, refl}
use lib.Ieee as Ieee
use lib.Ieee.{Float}
use Rattle.number.specs.Ans.{Ans, held, refused, ◌>>=◌}
use Rattle.number.specs.Arith.{floats, one64}
use Rattle.number.specs.Functions.{answered}
use Rattle.histories.specs.History as Made
use Rattle.histories.specs.History.{Elementary, History, HistoryAnswers, Traced, without_history, histories, asks}

-- the root of an input is the input; every other call gets 6
abbrev of_input : History → Ans Float → Ans Float
of_input (Made.lit f) a = a
of_input (Made.constant c) a = refused 6
of_input (Made.add h k) a = refused 6
of_input (Made.sub h k) a = refused 6
of_input (Made.mul h k) a = refused 6
of_input (Made.div h k) a = refused 6
of_input (Made.neg h) a = refused 6
of_input (Made.pow h n) a = refused 6
of_input (Made.pow_down h n) a = refused 6
of_input (Made.after h k) a = refused 6
of_input (Made.answer f h) a = refused 6
of_input (Made.answer₂ h k) a = refused 6

abbrev of_root : Elementary → Ans Float → Ans Float
of_root Made.sqrt a = a
of_root Made.ln a = refused 6
of_root Made.ln1p a = refused 6
of_root Made.exp a = refused 6
of_root Made.expm1 a = refused 6
of_root Made.tanh a = refused 6

abbrev pub answers : HistoryAnswers
answers = record { one = λ f h x. of_root f (of_input h (held x)); powf = λ h k x y. refused 6 }

-- 1, and 1 negated twice
abbrev pub input : Traced Float
input = (histories floats).lit one64

abbrev pub worked : Traced Float
worked = (histories floats).neg ((histories floats).neg input)

pub one_float : (histories floats).val input ≡ (histories floats).val worked
unfolding Ieee.neg Ieee.of_bits
one_float = refl

pub answered_once : without_history ((asks floats answers).sqrt input) ≡ held one64
unfolding answered ◌>>=◌
answered_once = refl

pub refused_twice : without_history ((asks floats answers).sqrt worked) ≡ refused 6
unfolding answered ◌>>=◌
refused_twice = refl

pub another_function : without_history ((asks floats answers).ln input) ≡ refused 6
unfolding answered ◌>>=◌
another_function = refl
