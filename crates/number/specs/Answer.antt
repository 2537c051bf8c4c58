-- What an operation answers: the value, or the refusal by document 01's number.
use Rattle.std.specs.Prelude.{ℕ, Float, Result, Ok, Err}
use Rattle.std.specs.Float.Ieee.Scale.{finite}
use Rattle.number.specs.Ans.{Ans, held, refused, ◌>>=◌, demand}
use Rattle.number.specs.declared.refusal.Refusal.{Refusal}
use Rattle.number.specs.declared.refusal.Refusal.TheVariants.{Length, Limit, Segments, Order, MixedOrders, Domain, NotFinite, Unsound, Short, Heading, Filling, Room, Layers, StoredZero, Components, Occupied}

-- the numbers of the refusals
abbrev pub code : Refusal → ℕ
code Length = 1
code Limit = 2
code Segments = 3
code Order = 4
code MixedOrders = 5
code Domain = 6
code NotFinite = 7
code Unsound = 8
code Short = 9
code Heading = 10
code Filling = 11
code Room = 12
code Layers = 14
code StoredZero = 15
code Components = 16
code Occupied = 17

-- what is held is read by `of`, as a pair of numbers is read as a value and a slope
abbrev pub answer_by : {T N : Type 0} → (T → N) → Result T Refusal → Ans N
answer_by of (Ok x) = held (of x)
answer_by of (Err r) = refused (code r)

abbrev pub answer : {T : Type 0} → Result T Refusal → Ans T
answer (Ok x) = held x
answer (Err r) = refused (code r)

-- 7: a number is not finite
unfoldable pub if_finite : Float → Ans Float
if_finite x =
    demand 7 (finite x) >>= λ _.
    held x
