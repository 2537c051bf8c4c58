-- What an elementary function does at the boundary.
use Rattle.std.specs.Prelude.{◌≡◌, ℕ, zero, suc, Float}
use Rattle.number.specs.Ans.{Ans, held, refused}
use Rattle.mie_parameters.specs.Answer.{status, stored}

-- what a call has answered, by what it left: its number alone, or 0 and the value that it stored
abbrev pub stored_answer : ℕ → Float → Ans Float
stored_answer zero v = held v
stored_answer (suc n) v = refused (suc n)

-- the number n and what is stored, `before` and `after`, are those of the definition's answer a, and what document 01 promises holds of them
abbrev pub Delivers : (Ans Float → Type 0) → Ans Float → ℕ → Float → Float → Type 0
Delivers Promise a n before after = (n ≡ status a) × (after ≡ stored before a) × Promise (stored_answer n after)
