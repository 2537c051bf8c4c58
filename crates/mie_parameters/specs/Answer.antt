-- What an operation with a state beside its answer has done: the state where it is accepted, else document 01's number.
use Rattle.std.specs.Prelude.{ℕ, Bool, true, Result, Ok, Err}
use Rattle.number.specs.Ans.{Ans, held, refused}
use Rattle.number.specs.Answer.{code}
use Rattle.number.specs.declared.refusal.Refusal.{Refusal}

-- the state where the answer holds, else the number
abbrev pub outcome : {S U : Type 0} → Result U Refusal → S → Ans S
outcome (Ok u) s = held s
outcome (Err r) s = refused (code r)

-- a refusal's number, 0 where the answer holds
abbrev pub number_of : {U : Type 0} → Result U Refusal → ℕ
number_of (Ok u) = 0
number_of (Err r) = code r

-- whether the call of an operation is accepted; as a number: 0 where it is
unfoldable pub verdict : {S : Type 0} → Ans S → Ans Bool
verdict (held x) = held true
verdict (refused n) = refused n

unfoldable pub status : {S : Type 0} → Ans S → ℕ
status (held x) = 0
status (refused n) = n

-- what was lent, afterwards: a refused call has changed nothing
unfoldable pub stored : {S : Type 0} → S → Ans S → S
stored before (held x) = x
stored before (refused n) = before
