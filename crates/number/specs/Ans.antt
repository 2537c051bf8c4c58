-- What an operation answers: a value, or a refusal's number. The first refusal on the way is the answer.
use Rattle.std.specs.Prelude.{ℕ, Bool, true, cond}

infixl 20 ◌>>=◌
pub data Ans (T : Type 0) : Type 0 where
  held : T → Ans T
  refused : ℕ → Ans T

-- goes on with what is held
unfoldable pub ◌>>=◌ : {S T : Type 0} → Ans S → (S → Ans T) → Ans T
◌>>=◌ (held x) f = f x
◌>>=◌ (refused n) f = refused n

-- refuses with n unless t
unfoldable pub demand : ℕ → Bool → Ans Bool
demand n t = cond t (held true) (refused n)
