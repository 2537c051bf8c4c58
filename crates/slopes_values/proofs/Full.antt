-- Functions of mixed numbers that refuse where floats do and nowhere else, and agree with the run's own wherever those hold; the value of a mixed number relates their run with the float run. Assumes nothing.
use Prim.Native.Nat.{ℕ, zero, suc}
use lib.Ieee.{Float}
use mathlib.Core.Path.{◌≡◌, refl, ap, ◌∙◌}
use mathlib.Core.Bool.{false}
use Rattle.number.specs.Ans.{Ans, held, refused, ◌>>=◌}
use Rattle.number.specs.Arith.{floats, zero64, decimal}
use Rattle.number.specs.Functions.{Functions, Answers, answered, answered₂, calls}
use Rattle.number.proofs.Rel.{Rel, FunRel, Both, both_held, both_refused}
use Rattle.dual.specs.Dual.{DualOf, plain_d, add_d, sub_d, mul_d, div_d, neg_d, pow_d, down_d}
use Rattle.slopes.specs.Mixed.{Mixed, plain, sloped, value_of, on_mixed, neg_m, pow_m, down_m, mixed, neg_one, mixed_one}
use Rattle.slopes.specs.Rules.{real_power, exp_d, ln1p_d, ln_d, on_either, mixed_power}
use Rattle.slopes_values.proofs.OneSided.{Le, le_refl, le_refused}

-- ---- values of operations
abbrev pub Value : Mixed → Float → Type 0
Value x u = value_of x ≡ u

pub on_value : (f : Float → Float → Float) (g : DualOf Float → DualOf Float → DualOf Float) → ((a b : DualOf Float) → (g a b).re ≡ f a.re b.re) → (x y : Mixed) → value_of (on_mixed f g x y) ≡ f (value_of x) (value_of y)
unfolding plain_d
on_value f g h (plain x) (plain y) = refl
on_value f g h (plain x) (sloped y) = h (plain_d floats x) y
on_value f g h (sloped x) (plain y) = h x (plain_d floats y)
on_value f g h (sloped x) (sloped y) = h x y

pub add_value : (a b : DualOf Float) → (add_d floats a b).re ≡ floats.add a.re b.re
unfolding add_d
add_value a b = refl

pub sub_value : (a b : DualOf Float) → (sub_d floats a b).re ≡ floats.sub a.re b.re
unfolding sub_d
sub_value a b = refl

pub mul_value : (a b : DualOf Float) → (mul_d floats a b).re ≡ floats.mul a.re b.re
unfolding mul_d
mul_value a b = refl

pub div_value : (a b : DualOf Float) → (div_d floats a b).re ≡ floats.div a.re b.re
unfolding div_d
div_value a b = refl

pub neg_value : (x : Mixed) → value_of (neg_m x) ≡ floats.neg (value_of x)
unfolding neg_d
neg_value (plain x) = refl
neg_value (sloped x) = refl

pub neg_one_value : (x : Mixed) → value_of (neg_one x) ≡ floats.neg (value_of x)
unfolding neg_d plain_d
neg_one_value (plain x) = refl
neg_one_value (sloped x) = refl

pub pow_value : (n : ℕ) (x : Mixed) → value_of (pow_m x n) ≡ floats.pow (value_of x) n
unfolding pow_d
pow_value n (plain x) = refl
pow_value zero (sloped x) = refl
pow_value (suc n) (sloped x) = refl

pub down_value : (n : ℕ) (x : Mixed) → value_of (down_m x n) ≡ floats.pow_down (value_of x) n
unfolding down_d
down_value n (plain x) = refl
down_value zero (sloped x) = refl
down_value (suc n) (sloped x) = refl

pub two : (f : Float → Float → Float) {a x y : Float} {u v : Float} → a ≡ f x y → x ≡ u → y ≡ v → a ≡ f u v
two f p q r = rw (p, q, r)

abbrev pub values : Rel mixed floats
values =
    record {
      R = Value;
      r_add = λ {x} {y} p q. two floats.add (on_value _ (add_d floats) add_value x y) p q;
      r_sub = λ {x} {y} p q. two floats.sub (on_value _ (sub_d floats) sub_value x y) p q;
      r_mul = λ {x} {y} p q. two floats.mul (on_value _ (mul_d floats) mul_value x y) p q;
      r_div = λ {x} {y} p q. two floats.div (on_value _ (div_d floats) div_value x y) p q;
      r_neg = λ {x} p. neg_value x ∙ ap floats.neg p;
      r_pow = λ n {x} p. pow_value n x ∙ ap (λ (v : Float). floats.pow v n) p;
      r_down = λ n {x} p. down_value n x ∙ ap (λ (v : Float). floats.pow_down v n) p;
      r_lit = λ f. refl;
      r_constant = λ c. refl;
      r_val = λ p. p;
      r_after = λ p q. q;
    }

-- in the arithmetic of the energies
abbrev pub values_one : Rel mixed_one floats
values_one =
    record {
      R = Value;
      r_add = λ {x} {y} p q. two floats.add (on_value _ (add_d floats) add_value x y) p q;
      r_sub = λ {x} {y} p q. two floats.sub (on_value _ (sub_d floats) sub_value x y) p q;
      r_mul = λ {x} {y} p q. two floats.mul (on_value _ (mul_d floats) mul_value x y) p q;
      r_div = λ {x} {y} p q. two floats.div (on_value _ (div_d floats) div_value x y) p q;
      r_neg = λ {x} p. neg_one_value x ∙ ap floats.neg p;
      r_pow = λ n {x} p. pow_value n x ∙ ap (λ (v : Float). floats.pow v n) p;
      r_down = λ n {x} p. down_value n x ∙ ap (λ (v : Float). floats.pow_down v n) p;
      r_lit = λ f. refl;
      r_constant = λ c. refl;
      r_val = λ p. p;
      r_after = λ p q. q;
    }

-- ---- the functions
abbrev pub or_zero : Ans Float → Float
or_zero (held w) = w
or_zero (refused n) = zero64

module _ (E : Answers) where
  -- as `mixedPower`, without the refusals of the slope's own power
  abbrev pub full_power : Mixed → Mixed → Ans Mixed
  full_power (plain x) (plain e) = E.powf x e >>= λ v. held (plain v)
  full_power (sloped x) (plain e) = E.powf x.re e >>= λ v. held (sloped (record { re = v; eps = floats.mul (floats.mul e (or_zero (E.powf x.re (floats.sub e (decimal false 1 0))))) x.eps }))
  full_power (plain x) (sloped e) = E.powf x e.re >>= λ v. held (plain v)
  full_power (sloped x) (sloped e) = E.powf x.re e.re >>= λ v. held (plain v)

  abbrev pub by_value : (Float → Ans Float) → Mixed → Ans Mixed
  by_value f x = f (value_of x) >>= λ v. held (plain v)

  abbrev pub full : Functions Mixed
  full =
      record {
        sqrt = by_value E.sqrt;
        ln = on_either E E.ln (ln_d E);
        ln1p = on_either E E.ln1p (ln1p_d E);
        exp = on_either E E.exp (exp_d E);
        expm1 = by_value E.expm1;
        tanh = by_value E.tanh;
        powf = full_power;
        pi = plain (calls floats E).pi;
        frac_pi_6 = plain (calls floats E).frac_pi_6;
        tau = plain (calls floats E).tau;
        node = λ s digits places. plain ((calls floats E).node s digits places);
      }

-- ---- where the run's own power holds, so does this one, with one result
slope_le : (a b : Ans Float) (k : Float → Float → DualOf Float) → Le ((a >>= λ v. b >>= λ w. held (k v w)) >>= λ v. held (sloped v)) (a >>= λ v. held (sloped (k v (or_zero b))))
unfolding ◌>>=◌
slope_le (held v) (held w) k = le_refl
slope_le (held v) (refused n) k = le_refused n _
slope_le (refused n) b k = le_refl

pub pow_le : (E : Answers) (x e : Mixed) → Le (mixed_power E x e) ((full E).powf x e)
unfolding real_power
pow_le E (plain x) (plain e) = le_refl
pow_le E (sloped x) (plain e) = slope_le (E.powf x.re e) (E.powf x.re (floats.sub e (decimal false 1 0))) (λ v w. record { re = v; eps = floats.mul (floats.mul e w) x.eps })
pow_le E (plain x) (sloped e) = le_refused 6 _
pow_le E (sloped x) (sloped e) = le_refused 6 _

-- ---- and the float run's
one_both : (a : Ans Float) (h : Float → Mixed) → ((v : Float) → value_of (h v) ≡ v) → (u : Float) → Both Value (a >>= λ v. held (h v)) (answered floats a u)
unfolding answered ◌>>=◌
one_both (held v) h p u = both_held (p v)
one_both (refused n) h p u = both_refused

two_both : (a : Ans Float) (h : Float → Mixed) → ((v : Float) → value_of (h v) ≡ v) → (u w : Float) → Both Value (a >>= λ v. held (h v)) (answered₂ floats a u w)
unfolding answered₂ ◌>>=◌
two_both (held v) h p u w = both_held (p v)
two_both (refused n) h p u w = both_refused

rule_both : (a : Ans Float) (s : Float → DualOf Float) → ((v : Float) → (s v).re ≡ v) → (u : Float) → Both Value ((a >>= λ v. held (s v)) >>= λ w. held (sloped w)) (answered floats a u)
unfolding answered ◌>>=◌
rule_both (held v) s p u = both_held (p v)
rule_both (refused n) s p u = both_refused

module _ (E : Answers) where
  ln_both : (x : Mixed) → Both Value ((full E).ln x) (answered floats (E.ln (value_of x)) (value_of x))
  unfolding ln_d
  ln_both (plain x) = one_both (E.ln x) plain (λ v. refl) x
  ln_both (sloped x) = rule_both (E.ln x.re) _ (λ v. refl) x.re

  ln1p_both : (x : Mixed) → Both Value ((full E).ln1p x) (answered floats (E.ln1p (value_of x)) (value_of x))
  unfolding ln1p_d
  ln1p_both (plain x) = one_both (E.ln1p x) plain (λ v. refl) x
  ln1p_both (sloped x) = rule_both (E.ln1p x.re) _ (λ v. refl) x.re

  exp_both : (x : Mixed) → Both Value ((full E).exp x) (answered floats (E.exp (value_of x)) (value_of x))
  unfolding exp_d
  exp_both (plain x) = one_both (E.exp x) plain (λ v. refl) x
  exp_both (sloped x) = rule_both (E.exp x.re) _ (λ v. refl) x.re

  powf_both : (x e : Mixed) → Both Value ((full E).powf x e) (answered₂ floats (E.powf (value_of x) (value_of e)) (value_of x) (value_of e))
  powf_both (plain x) (plain e) = two_both (E.powf x e) _ (λ v. refl) x e
  powf_both (sloped x) (plain e) = two_both (E.powf x.re e) _ (λ v. refl) x.re e
  powf_both (plain x) (sloped e) = two_both (E.powf x e.re) _ (λ v. refl) x e.re
  powf_both (sloped x) (sloped e) = two_both (E.powf x.re e.re) _ (λ v. refl) x.re e.re

  pub full_rel : FunRel Value (full E) (calls floats E)
  full_rel =
      record {
        r_sqrt = λ {x} p. rw (← p) (one_both (E.sqrt (value_of x)) plain (λ v. refl) (value_of x));
        r_ln = λ {x} p. rw (← p) (ln_both x);
        r_ln1p = λ {x} p. rw (← p) (ln1p_both x);
        r_exp = λ {x} p. rw (← p) (exp_both x);
        r_expm1 = λ {x} p. rw (← p) (one_both (E.expm1 (value_of x)) plain (λ v. refl) (value_of x));
        r_tanh = λ {x} p. rw (← p) (one_both (E.tanh (value_of x)) plain (λ v. refl) (value_of x));
        r_powf = λ {x} {y} p q. rw (← p, ← q) (powf_both x y);
        r_pi = refl;
        r_frac_pi_6 = refl;
        r_tau = refl;
        r_node = λ s digits places. refl;
      }
