-- What an answer with a value, or an operation's answer with what it was lent, says of the operation. Assumes nothing.
use Rattle.std.specs.Prelude.{Err, Ok, Result}
use Rattle.number.specs.declared.refusal.Refusal.{Refusal}
use Rattle.number.specs.Answer.{code}
use native.Mathlib.Omega.{arith}
use Prim.Native.Nat.{ℕ}
use mathlib.Core.Path.{◌≡◌, refl}
use mathlib.Core.Bool.{true}
use Rattle.number.specs.Ans.{Ans, held, refused}
use Rattle.mie_parameters.specs.Answer.{outcome, verdict, stored}

-- an operation that leaves what it was lent by `stored`
was : {S : Type 0} (q : Ans S) (l : S) → held true ≡ verdict q → q ≡ held (stored l q)
unfolding verdict stored
was (held x) l e = refl
was (refused n) l e = let z : ◌≡◌ {A = ℕ} 0 1 = cc in absurd (omega arith)

pub verdict_held : {S : Type 0} (q : Ans S) (l : S) (r : Result (Unit {0}) Refusal) {u : Unit {0}} → outcome r true ≡ verdict q → r ≡ Ok u → q ≡ held (stored l q)
verdict_held q l r p e = was q l (rw e at p)

was_not : {S : Type 0} (q : Ans S) (n : ℕ) → refused n ≡ verdict q → q ≡ refused n
unfolding verdict
was_not (held x) n e = let z : ◌≡◌ {A = ℕ} 0 1 = cc in absurd (omega arith)
was_not (refused k) n e = cc

pub verdict_refused : {S : Type 0} (q : Ans S) (r : Result (Unit {0}) Refusal) {n : Refusal} → outcome r true ≡ verdict q → r ≡ Err n → q ≡ refused (code n)
verdict_refused q r p e = was_not q _ (rw e at p)
