-- The slopes of real powers, exp and `ln_1p` (document 02, Slip 1), whatever the elementary functions answer; and the functions of the runs with slopes.
use Rattle.std.specs.Prelude.{Float, false}
use Rattle.number.specs.Ans.{Ans, held, refused, ◌>>=◌}
use Rattle.number.specs.Arith.{floats, decimal}
use Rattle.number.specs.Functions.{Answers, Functions, calls}
use Rattle.dual.specs.Dual.{DualOf, plain_d}
use Rattle.slopes.specs.Mixed.{Mixed, plain, sloped}

module _ (E : Answers) where
  -- A real power, of x0 too, has slope exponent · (power with exponent − 1) · a'; the slope's own power may be refused.
  unfoldable pub real_power : DualOf Float → Float → Ans (DualOf Float)
  real_power x e =
      E.powf x.re e >>= λ v.
      E.powf x.re (floats.sub e (decimal false 1 0)) >>= λ w.
      held (record { re = v; eps = floats.mul (floats.mul e w) x.eps })

  -- exp has its value · a'
  unfoldable pub exp_d : DualOf Float → Ans (DualOf Float)
  exp_d x = E.exp x.re >>= λ v. held (record { re = v; eps = floats.mul v x.eps })

  -- `ln_1p` has a'/(1 + a)
  unfoldable pub ln1p_d : DualOf Float → Ans (DualOf Float)
  ln1p_d x = E.ln1p x.re >>= λ v. held (record { re = v; eps = floats.div x.eps (floats.add (decimal false 1 0) x.re) })

  -- a'/a; the chain asks it of EPSILON alone, whose slope is +0
  unfoldable pub ln_d : DualOf Float → Ans (DualOf Float)
  ln_d x = E.ln x.re >>= λ v. held (record { re = v; eps = floats.div x.eps x.re })

  -- of a plain number as it is; of a D by its rule g
  abbrev pub on_either : (Float → Ans Float) → (DualOf Float → Ans (DualOf Float)) → Mixed → Ans Mixed
  on_either f g (plain x) = f x >>= λ v. held (plain v)
  on_either f g (sloped x) = g x >>= λ v. held (sloped v)

  -- a function that the chain asks of no D: no rule is written for it
  abbrev pub no_rule : DualOf Float → Ans (DualOf Float)
  no_rule x = refused 6

  -- an exponent is plain; the chain has none with a slope
  abbrev pub mixed_power : Mixed → Mixed → Ans Mixed
  mixed_power (plain x) (plain e) = E.powf x e >>= λ v. held (plain v)
  mixed_power (sloped x) (plain e) = real_power x e >>= λ v. held (sloped v)
  mixed_power x (sloped e) = refused 6

  abbrev pub mixed_functions : Functions Mixed
  mixed_functions =
      record {
        sqrt = on_either E.sqrt no_rule;
        ln = on_either E.ln ln_d;
        ln1p = on_either E.ln1p ln1p_d;
        exp = on_either E.exp exp_d;
        expm1 = on_either E.expm1 no_rule;
        tanh = on_either E.tanh no_rule;
        powf = mixed_power;
        pi = plain (calls floats E).pi;
        frac_pi_6 = plain (calls floats E).frac_pi_6;
        tau = plain (calls floats E).tau;
        node = λ s digits places. plain ((calls floats E).node s digits places);
      }

  -- where every number is a D: in the searches, and in the diameter
  abbrev pub dual_functions : Functions (DualOf Float)
  dual_functions =
      record {
        sqrt = no_rule;
        ln = ln_d;
        ln1p = ln1p_d;
        exp = exp_d;
        expm1 = no_rule;
        tanh = no_rule;
        powf = λ x e. real_power x e.re;
        pi = plain_d floats (calls floats E).pi;
        frac_pi_6 = plain_d floats (calls floats E).frac_pi_6;
        tau = plain_d floats (calls floats E).tau;
        node = λ s digits places. plain_d floats ((calls floats E).node s digits places);
      }
