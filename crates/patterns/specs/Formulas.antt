-- Made-up formulas that have one of each: an elementary call, a branch on the float run's value, work whose value is unused, a loop over a list, and a dual number. They show, before any formula of SAFT, how one text serves every run.
use Rattle.std.specs.Prelude.{ℕ, cond}
use Rattle.std.specs.Float.Ieee.{lt}
use Rattle.number.specs.Ans.{Ans, held, refused, ◌>>=◌}
use Rattle.number.specs.Arith.{Arith, zero64, one64}
use Rattle.number.specs.Functions.{Answers, Functions}
use Rattle.number.specs.Walk.{turns}
use Rattle.dual.specs.Dual.{DualOf, add_d, div_d, pow_d, plain_d}
use Rattle.root.specs.Root.{root}

-- the port's own answers, as far as these formulas call them
abbrev pub root_alone : Answers
root_alone =
    record {
      sqrt = root;
      ln = λ x. refused 6;
      ln1p = λ x. refused 6;
      exp = λ x. refused 6;
      expm1 = λ x. refused 6;
      tanh = λ x. refused 6;
      powf = λ x y. refused 6;
    }

module _ (A : Arith) where
  open A use {Num, add as ◌⊕◌, mul as ◌⊗◌, div as ◌⊘◌, lit, val, after}

  infixl 60 ◌⊕◌
  infixl 70 ◌⊗◌
  infixl 70 ◌⊘◌
  -- a sum over a list, from +0 in index order
  unfoldable pub squares : ℕ → (ℕ → Num) → Num
  squares n f = turns n (λ i s. s ⊕ f i ⊗ f i) (lit zero64)

  -- the slope of x³ / (x + y), by the slope rules
  unfoldable pub slope : Num → Num → Num
  slope x y =
      let d : DualOf Num = record { re = x; eps = lit one64 } in
      (div_d A (pow_d A d 3) (add_d A d (plain_d A y))).eps

  module _ (F : Functions Num) where
    -- an elementary call; a quotient that nothing uses; a branch
    unfoldable pub blend : Num → Num → Ans Num
    blend x y =
        F.sqrt x >>= λ r.
        held (after (r ⊘ y) (cond (lt (val r) (val y)) (r ⊕ y) (r ⊗ y)))

    unfoldable pub sample : ℕ → (ℕ → Num) → Num → Ans Num
    sample n f y = blend (squares n f) y >>= λ b. held (slope b y)
