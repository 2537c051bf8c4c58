-- Two arithmetics that a relation holds between: each operation keeps it. Then whole powers, answers, calls, branches and folds keep it too. Assumes nothing.
use Rattle.std.proofs.Common.{◌≡◌, ℕ, zero, suc, Bool, true, false, cond, List, [], ◌∷◌}
use lib.Ieee.{Float}
use Rattle.number.specs.Arith.{Arith, Constant, pi, frac_pi_6, tau, node}
use Rattle.number.specs.Ans.{Ans, held, refused, ◌>>=◌}
use Rattle.number.specs.Functions.{Functions, Answers, answered, answered₂, calls, call, call₂}
use Rattle.number.specs.Walk.{turns, walk}
use Rattle.number.specs.Power.{digits, pow_digits, pow_up}

pub record Rel (A B : Arith) : Type 1 where
  pub R : A.Num → B.Num → Type 0
  pub r_add : {x y : A.Num} {u v : B.Num} → R x u → R y v → R (A.add x y) (B.add u v)
  pub r_sub : {x y : A.Num} {u v : B.Num} → R x u → R y v → R (A.sub x y) (B.sub u v)
  pub r_mul : {x y : A.Num} {u v : B.Num} → R x u → R y v → R (A.mul x y) (B.mul u v)
  pub r_div : {x y : A.Num} {u v : B.Num} → R x u → R y v → R (A.div x y) (B.div u v)
  pub r_neg : {x : A.Num} {u : B.Num} → R x u → R (A.neg x) (B.neg u)
  pub r_pow : (n : ℕ) {x : A.Num} {u : B.Num} → R x u → R (A.pow x n) (B.pow u n)
  pub r_down : (n : ℕ) {x : A.Num} {u : B.Num} → R x u → R (A.pow_down x n) (B.pow_down u n)
  pub r_lit : (f : Float) → R (A.lit f) (B.lit f)
  pub r_constant : (c : Constant) → R (A.constant c) (B.constant c)
  pub r_val : {x : A.Num} {u : B.Num} → R x u → A.val x ≡ B.val u
  pub r_after : {x y : A.Num} {u v : B.Num} → R x u → R y v → R (A.after x y) (B.after u v)

-- ---- whole powers, from the product alone
module _ {S T : Type 0} (R : S → T → Type 0) (mul : S → S → S) (mul' : T → T → T) (r_mul : (x y : S) (u v : T) → R x u → R y v → R (mul x y) (mul' u v)) where
  times_rel : (d : Bool) (x y : S) (u v : T) → R x u → R y v → R (cond d (mul x y) x) (cond d (mul' u v) u)
  times_rel true x y u v p q = r_mul x y u v p q
  times_rel false x y u v p q = p

  digits_rel : (ds : List Bool) (s c : S) (t e : T) → R s t → R c e → R (pow_digits mul ds s c) (pow_digits mul' ds t e)
  unfolding pow_digits
  digits_rel [] s c t e p q = q
  digits_rel (d ∷ []) s c t e p q = times_rel d c s e t q p
  digits_rel (d ∷ (d' ∷ ds)) s c t e p q = digits_rel (d' ∷ ds) (mul s s) _ (mul' t t) _ (r_mul s s t t p p) (times_rel d c s e t q p)

  pub pow_up_rel : (one : S) (one' : T) → R one one' → (n : ℕ) (x : S) (u : T) → R x u → R (pow_up mul one x n) (pow_up mul' one' u n)
  unfolding pow_up
  pow_up_rel one one' o n x u p = digits_rel (digits 32 n) x one u one' p o

-- ---- answers: both refuse with one number, or both hold
pub data Both {S T : Type 0} (R : S → T → Type 0) : Ans S → Ans T → Type 0 where
  both_held : {x : S} {y : T} → R x y → Both R (held x) (held y)
  both_refused : {n : ℕ} → Both R (refused n) (refused n)

pub then_both : {S T S' T' : Type 0} {R : S → T → Type 0} {R' : S' → T' → Type 0} {a : Ans S} {b : Ans T} {f : S → Ans S'} {g : T → Ans T'}
    → Both R a b → ((x : S) (y : T) → R x y → Both R' (f x) (g y)) → Both R' (a >>= f) (b >>= g)
unfolding ◌>>=◌
then_both (both_held p) q = q _ _ p
then_both both_refused q = both_refused

-- the elementary functions of two runs keep the relation
pub record FunRel {S T : Type 0} (R : S → T → Type 0) (F : Functions S) (G : Functions T) : Type 0 where
  pub r_sqrt : {x : S} {u : T} → R x u → Both R (F.sqrt x) (G.sqrt u)
  pub r_ln : {x : S} {u : T} → R x u → Both R (F.ln x) (G.ln u)
  pub r_ln1p : {x : S} {u : T} → R x u → Both R (F.ln1p x) (G.ln1p u)
  pub r_exp : {x : S} {u : T} → R x u → Both R (F.exp x) (G.exp u)
  pub r_expm1 : {x : S} {u : T} → R x u → Both R (F.expm1 x) (G.expm1 u)
  pub r_tanh : {x : S} {u : T} → R x u → Both R (F.tanh x) (G.tanh u)
  pub r_powf : {x y : S} {u v : T} → R x u → R y v → Both R (F.powf x y) (G.powf u v)
  pub r_pi : R F.pi G.pi
  pub r_frac_pi_6 : R F.frac_pi_6 G.frac_pi_6
  pub r_tau : R F.tau G.tau
  pub r_node : (s : Bool) (digits places : ℕ) → R (F.node s digits places) (G.node s digits places)

-- a branch on the float run's values: the same in both
pub cond_rel : {S T : Type 0} (R : S → T → Type 0) (b c : Bool) {x y : S} {u v : T} → b ≡ c → R x u → R y v → R (cond b x y) (cond c u v)
cond_rel R true true e p q = p
cond_rel R false false e p q = q
cond_rel R true false e p q = absurd (mathlib.Core.Bool.true≢false e)
cond_rel R false true e p q = absurd (mathlib.Core.Bool.false≢true e)

-- ---- folds
pub turns_rel : {S T : Type 0} (R : S → T → Type 0) (n : ℕ) (f : ℕ → S → S) (g : ℕ → T → T) {s : S} {t : T}
    → ((j : ℕ) (x : S) (y : T) → R x y → R (f j x) (g j y)) → R s t → R (turns n f s) (turns n g t)
unfolding turns
turns_rel R zero f g h p = p
turns_rel R (suc n) f g h p = h n _ _ (turns_rel R n f g h p)

pub walk_rel : {S T : Type 0} (R : S → T → Type 0) (n : ℕ) (f : ℕ → S → Ans S) (g : ℕ → T → Ans T) {s : S} {t : T}
    → ((j : ℕ) (x : S) (y : T) → R x y → Both R (f j x) (g j y)) → R s t → Both R (walk n f s) (walk n g t)
unfolding walk
walk_rel R zero f g h p = both_held p
walk_rel R (suc n) f g h p = then_both (walk_rel R n f g h p) (h n)

module _ (A B : Arith) (K : Rel A B) where
  open K use {R, r_add, r_sub, r_mul, r_div, r_neg, r_pow, r_down, r_lit, r_constant, r_val, r_after}

  -- ---- elementary calls
  answered_rel : (a : Ans Float) {x : A.Num} {u : B.Num} → R x u → Both R (answered A a x) (answered B a u)
  unfolding answered ◌>>=◌
  answered_rel (held v) p = both_held (r_after p (r_lit v))
  answered_rel (refused n) p = both_refused

  answered₂_rel : (a : Ans Float) {x y : A.Num} {u v : B.Num} → R x u → R y v → Both R (answered₂ A a x y) (answered₂ B a u v)
  unfolding answered₂ ◌>>=◌
  answered₂_rel (held z) p q = both_held (r_after p (r_after q (r_lit z)))
  answered₂_rel (refused n) p q = both_refused

  pub call_rel : (f : Float → Ans Float) {x : A.Num} {u : B.Num} → R x u → Both R (call A f x) (call B f u)
  call_rel f {u = u} p = rw (r_val p) (answered_rel (f (B.val u)) p)

  pub call₂_rel : (f : Float → Float → Ans Float) {x y : A.Num} {u v : B.Num} → R x u → R y v → Both R (call₂ A f x y) (call₂ B f u v)
  call₂_rel f {u = u} {v = v} p q = rw (r_val p, r_val q) (answered₂_rel (f (B.val u) (B.val v)) p q)

  pub calls_rel : (E : Answers) → FunRel R (calls A E) (calls B E)
  calls_rel E =
      record {
        r_sqrt = λ p. call_rel E.sqrt p;
        r_ln = λ p. call_rel E.ln p;
        r_ln1p = λ p. call_rel E.ln1p p;
        r_exp = λ p. call_rel E.exp p;
        r_expm1 = λ p. call_rel E.expm1 p;
        r_tanh = λ p. call_rel E.tanh p;
        r_powf = λ p q. call₂_rel E.powf p q;
        r_pi = r_constant pi;
        r_frac_pi_6 = r_constant frac_pi_6;
        r_tau = r_constant tau;
        r_node = λ s digits places. r_constant (node s digits places);
      }
