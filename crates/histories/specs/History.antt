-- Numbers that carry the expression that made them, over any arithmetic; and elementary answers that look at it, so that two calls at equal floats may be answered differently.
use Rattle.std.specs.Prelude.{ℕ, Float}
use Rattle.number.specs.Ans.{Ans, held, refused, ◌>>=◌}
use Rattle.number.specs.Arith.{Arith, Constant}
use Rattle.number.specs.Functions.{Functions, Answers, answered, answered₂, calls}

-- the elementary functions of one argument
pub data Elementary : Type 0 where
  sqrt : Elementary
  ln : Elementary
  ln1p : Elementary
  exp : Elementary
  expm1 : Elementary
  tanh : Elementary

-- the expression that made a number
pub data History : Type 0 where
  -- an input or a number of the source
  lit : Float → History
  constant : Constant → History
  add : History → History → History
  sub : History → History → History
  mul : History → History → History
  div : History → History → History
  neg : History → History
  pow : History → ℕ → History
  pow_down : History → ℕ → History
  -- the second, the first being worked on the way
  after : History → History → History
  -- the answer to a call, from its argument or, for powf, its two
  answer : Elementary → History → History
  answer₂ : History → History → History

-- Answers that see which function is called, at what arguments, and the expressions that made these.
pub record HistoryAnswers : Type 0 where
  pub one : Elementary → History → Float → Ans Float
  pub powf : History → History → Float → Float → Ans Float

pub record Traced (N : Type 0) : Type 0 where
  pub history : History
  pub number : N

-- the run's own numbers, their histories forgotten
abbrev pub without_history : {N : Type 0} → Ans (Traced N) → Ans N
without_history a = a >>= λ x. held x.number

-- an answer by the function's name
abbrev pub named : Answers → Elementary → Float → Ans Float
named E sqrt x = E.sqrt x
named E ln x = E.ln x
named E ln1p x = E.ln1p x
named E exp x = E.exp x
named E expm1 x = E.expm1 x
named E tanh x = E.tanh x

-- Answers that look at the arguments alone, as the port's do.
abbrev pub unlooking : Answers → HistoryAnswers
unlooking E = record { one = λ f h x. named E f x; powf = λ h k x y. E.powf x y }

-- no answer to any call
abbrev silent : Answers
silent = record { sqrt = λ _. refused 6; ln = λ _. refused 6; ln1p = λ _. refused 6; exp = λ _. refused 6; expm1 = λ _. refused 6; tanh = λ _. refused 6; powf = λ _ _. refused 6 }

module _ (A : Arith) where
  -- each operation works the numbers as A does, and notes itself
  abbrev pub histories : Arith
  histories =
      record {
        Num = Traced A.Num;
        add = λ x y. record { history = add x.history y.history; number = A.add x.number y.number };
        sub = λ x y. record { history = sub x.history y.history; number = A.sub x.number y.number };
        mul = λ x y. record { history = mul x.history y.history; number = A.mul x.number y.number };
        div = λ x y. record { history = div x.history y.history; number = A.div x.number y.number };
        neg = λ x. record { history = neg x.history; number = A.neg x.number };
        pow = λ x n. record { history = pow x.history n; number = A.pow x.number n };
        pow_down = λ x n. record { history = pow_down x.history n; number = A.pow_down x.number n };
        lit = λ f. record { history = lit f; number = A.lit f };
        constant = λ c. record { history = constant c; number = A.constant c };
        val = λ x. A.val x.number;
        after = λ u x. record { history = after u.history x.history; number = A.after u.number x.number };
      }

  -- what the arithmetic makes of an answer, and the call that it answers
  abbrev pub noted : History → Ans A.Num → Ans (Traced A.Num)
  noted h a = a >>= λ v. held (record { history = h; number = v })

  module _ (E : HistoryAnswers) where
    abbrev pub ask : Elementary → Traced A.Num → Ans (Traced A.Num)
    ask f x = noted (answer f x.history) (answered A (E.one f x.history (A.val x.number)) x.number)

    abbrev pub ask₂ : Traced A.Num → Traced A.Num → Ans (Traced A.Num)
    ask₂ x y = noted (answer₂ x.history y.history) (answered₂ A (E.powf x.history y.history (A.val x.number) (A.val y.number)) x.number y.number)

    -- the functions of a run, from such answers; its constants are the arithmetic's
    abbrev pub asks : Functions (Traced A.Num)
    asks =
        let constants = calls histories silent in
        record {
          sqrt = ask sqrt;
          ln = ask ln;
          ln1p = ask ln1p;
          exp = ask exp;
          expm1 = ask expm1;
          tanh = ask tanh;
          powf = ask₂;
          pi = constants.pi;
          frac_pi_6 = constants.frac_pi_6;
          tau = constants.tau;
          node = constants.node;
        }
