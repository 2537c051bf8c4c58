-- What a loop does, turn by turn: f 0 first, then f 1, up to f (n - 1). Sums of document 01 begin at +0 and go in index order.
use Rattle.std.specs.Prelude.{ℕ, zero, suc, Bool, true, ◌&&◌, List, slice_set}
use Rattle.number.specs.Ans.{Ans, held, ◌>>=◌}

unfoldable pub turns : {S : Type 0} → ℕ → (ℕ → S → S) → S → S
turns zero f s = s
turns (suc n) f s = f n (turns n f s)

-- f 0 to f (n - 1), written into the first places of l in this order
abbrev pub filled : {S : Type 0} → ℕ → (ℕ → S) → List S → List S
filled n f l = turns n (λ i s. slice_set s i (f i)) l

-- p 0 and p 1 and .. and p (n - 1)
unfoldable pub every : ℕ → (ℕ → Bool) → Bool
every n p = turns n (λ i b. b && p i) true

-- where a turn can refuse: the first refusal is the answer
unfoldable pub walk : {S : Type 0} → ℕ → (ℕ → S → Ans S) → S → Ans S
walk zero f s = held s
walk (suc n) f s = walk n f s >>= f n
