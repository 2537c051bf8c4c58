-- The elementary functions and the constants as the formulas see them. Each call of a run gets the float run's answer to that call.
use Rattle.std.specs.Prelude.{ℕ, Bool, false, List, slice_index_or, Float}
use Rattle.number.specs.Ans.{Ans, held, ◌>>=◌}
use Rattle.number.specs.Arith.{Arith, pi, frac_pi_6, tau, node}

-- what the elementary functions answer: the port's own, or any others. An argument gives a value or a refusal
pub record Answers : Type 0 where
  pub sqrt : Float → Ans Float
  pub ln : Float → Ans Float
  pub ln1p : Float → Ans Float
  pub exp : Float → Ans Float
  pub expm1 : Float → Ans Float
  pub tanh : Float → Ans Float
  pub powf : Float → Float → Ans Float

-- what a formula takes beside its arithmetic
pub record Functions (N : Type 0) : Type 0 where
  pub sqrt : N → Ans N
  pub ln : N → Ans N
  pub ln1p : N → Ans N
  pub exp : N → Ans N
  pub expm1 : N → Ans N
  pub tanh : N → Ans N
  pub powf : N → N → Ans N
  -- std::f64::consts::{PI, FRAC_PI_6, TAU}
  pub pi : N
  pub frac_pi_6 : N
  pub tau : N
  -- a decimal of a quadrature rule: sign, digits, places
  pub node : Bool → ℕ → ℕ → N

-- such a decimal in a table: whether it is negative, its digits, and how many places they take
pub record Decimal : Type 0 where
  pub minus : Bool
  pub digits : ℕ
  pub places : ℕ

abbrev pub dec : Bool → ℕ → ℕ → Decimal
dec s d p = record { minus = s; digits = d; places = p }

-- entry k of a table; beyond it is not read
unfoldable pub entry : {N : Type 0} → Functions N → List Decimal → ℕ → N
entry F table k = let e = slice_index_or table k (dec false 0 0) in F.node e.minus e.digits e.places

module _ (A : Arith) where
  open A use {Num, lit, constant, val, after}

  -- An answer is a point, after its arguments: these were worked on the way.
  unfoldable pub answered : Ans Float → Num → Ans Num
  answered a x = a >>= λ v. held (after x (lit v))

  unfoldable pub answered₂ : Ans Float → Num → Num → Ans Num
  answered₂ a x y = a >>= λ v. held (after x (after y (lit v)))

  -- A call looks at the float run's arguments alone.
  abbrev pub call : (Float → Ans Float) → Num → Ans Num
  call f x = answered (f (val x)) x

  abbrev pub call₂ : (Float → Float → Ans Float) → Num → Num → Ans Num
  call₂ f x y = answered₂ (f (val x) (val y)) x y

  -- the functions of a run, from the answers; its constants are the arithmetic's
  abbrev pub calls : Answers → Functions Num
  calls E =
      record {
        sqrt = call E.sqrt;
        ln = call E.ln;
        ln1p = call E.ln1p;
        exp = call E.exp;
        expm1 = call E.expm1;
        tanh = call E.tanh;
        powf = call₂ E.powf;
        pi = constant pi;
        frac_pi_6 = constant frac_pi_6;
        tau = constant tau;
        node = λ s digits places. constant (node s digits places);
      }
