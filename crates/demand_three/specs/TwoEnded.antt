-- What is promised of one two-ended operation.
use Rattle.std.specs.Prelude.{ℕ, ◌≡◌, Bool, cond}
use Rattle.number.specs.Ans.{Ans, held, refused}

-- `float` is the float operation, `run` the formula on enclosures, `exact` the formula on fractions, all with the same elementary answers; `ends` is what the two-ended operation answers.
-- F, B, X and E are one float, enclosure, fraction and pair of ends, or three of each.
pub record TwoEnded {F B X E : Type 0} (sound : B → Bool) (ends_in : B → E) (Enclosed : E → Ans F → Ans X → Type 0) (float : Ans F) (run : Ans B) (exact : Ans X) (ends : Ans E) : Type 0 where
  -- the float operation's refusals, in its order
  pub refuses : (n : ℕ) → float ≡ refused n → ends ≡ refused n
  -- ends are reported wherever no numbered refusal applies: where the float operation refuses nothing, the run on enclosures holds; 8 exactly if it is not sound, else its ends, which are those of the outward rules
  pub reports : (v : F) → float ≡ held v → (b : B) × (run ≡ held b) × (ends ≡ cond (sound b) (held (ends_in b)) (refused 8))
  -- wherever two ends are reported, the exact run divides by no zero, and both results lie between the ends or on them
  pub encloses : (e : E) → ends ≡ held e → Enclosed e float exact
