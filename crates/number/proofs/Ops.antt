-- A float operation on finite operands is the exact one on fractions, rounded. Assumes nothing.
use Rattle.std.proofs.Common.{◌≡◌, ℕ, ◌+◌, ◌-◌, ◌*◌, ◌<◌, ◌≤◌, Bool, true, false, cond, not, T, eqb, ltb, sym, refl, ap, ◌∙◌, subst, le_of_eq, lt_irrefl, mul_comm, mul-pos, arith, eqb→eq, ltb→lt, nltb→le}
use native.Mathlib.Nat.{sub-zero}
use lib.Dec.{not_T}
use lib.Ieee.{Float, nan, inf, fin, Format, up, down, round, sum, add, sub, neg, mul, div, unlike}
use lib.Ieee.Fits.{down_pos, up_pos}
use lib.Ieee.Bits.{cond_no}
use lib.Ieee.Scale.{finite}
use Rattle.number.specs.Frac.{Frac, frac, Pos, le_f, add_f, neg_f, mul_f, inv_f, sgn, val_f}
use Rattle.number.proofs.Frac.{ring, sgn_pos}
use Rattle.number.proofs.Hull.{inv_above, inv_below}
use Rattle.number.proofs.Round.{Rounds}

-- two fractions with one denominator
same_le : (P N P' N' c : ℕ) → P + N' ≡ P' + N → le_f (frac P N c) (frac P' N' c)
same_le P N P' N' c h = let a = ap (λ (x : ℕ). x * c) h in le_of_eq (omega (arith, simp ring at a))

made : (f : Format) (r : Float) (s : Bool) (a c : ℕ) (P N : ℕ) → 0 < c → r ≡ round f s a c → le_f (sgn s a c) (frac P N c) → le_f (frac P N c) (sgn s a c) → Rounds f r (frac P N c)
made f r s a c P N C e h k = record { sign = s; top = a; bottom = c; above = C; is = e; le = h; ge = k }

-- ---- sum: ±a / c ± b / c
plus : (f : Format) (a b c P N : ℕ) → 0 < c → P ≡ a + b → N ≡ 0 → Rounds f (sum f false a false b c) (frac P N c)
unfolding sum
plus f a b c P N C e g = made f (sum f false a false b c) false (a + b) c P N C refl (same_le (a + b) 0 P N c (omega arith)) (same_le P N (a + b) 0 c (omega arith))

minus_minus : (f : Format) (a b c P N : ℕ) → 0 < c → P ≡ 0 → N ≡ a + b → Rounds f (sum f true a true b c) (frac P N c)
unfolding sum
minus_minus f a b c P N C e g = made f (sum f true a true b c) true (a + b) c P N C refl (same_le 0 (a + b) P N c (omega arith)) (same_le P N 0 (a + b) c (omega arith))

plus_minus : (f : Format) (a b c P N : ℕ) → 0 < c → P ≡ a → N ≡ b → Rounds f (sum f false a true b c) (frac P N c)
unfolding sum
plus_minus f a b c P N C e g = go (ltb a b) (ltb→lt a b) (nltb→le a b)
  where
    go : (t : Bool) → (T t → a < b) → (T (not t) → b ≤ a) → Rounds f (cond t (round f true (b - a) c) (round f false (a - b) c)) (frac P N c)
    go true h k = let l = h tt in made f (round f true (b - a) c) true (b - a) c P N C refl (same_le 0 (b - a) P N c (omega arith)) (same_le P N 0 (b - a) c (omega arith))
    go false h k = let l = k tt in made f (round f false (a - b) c) false (a - b) c P N C refl (same_le (a - b) 0 P N c (omega arith)) (same_le P N (a - b) 0 c (omega arith))

minus_plus : (f : Format) (a b c P N : ℕ) → 0 < c → P ≡ b → N ≡ a → Rounds f (sum f true a false b c) (frac P N c)
unfolding sum
minus_plus f a b c P N C e g = go (ltb a b) (ltb→lt a b) (nltb→le a b) (ltb b a) (nltb→le b a)
  where
    go : (t : Bool) → (T t → a < b) → (T (not t) → b ≤ a) → (u : Bool) → (T (not u) → a ≤ b) → Rounds f (cond t (round f false (b - a) c) (round f u (a - b) c)) (frac P N c)
    go true h k u j = let l = h tt in made f (round f false (b - a) c) false (b - a) c P N C refl (same_le (b - a) 0 P N c (omega arith)) (same_le P N (b - a) 0 c (omega arith))
    go false h k true j = let l = k tt in made f (round f true (a - b) c) true (a - b) c P N C refl (same_le 0 (a - b) P N c (omega arith)) (same_le P N 0 (a - b) c (omega arith))
    go false h k false j = let l = k tt in let i = j tt in made f (round f false (a - b) c) false (a - b) c P N C refl (same_le (a - b) 0 P N c (omega arith)) (same_le P N (a - b) 0 c (omega arith))

pub add_rounds : (f : Format) (x y : Float) → T (finite x) → T (finite y) → Rounds f (add f x y) (add_f (val_f x) (val_f y))
unfolding add
add_rounds f nan y p q = absurd p
add_rounds f (inf s) y p q = absurd p
add_rounds f (fin s m e) nan p q = absurd q
add_rounds f (fin s m e) (inf t) p q = absurd q
add_rounds f (fin false m e) (fin false n d) p q = plus f (m * up e * down d) (n * up d * down e) (down e * down d) _ _ (mul-pos (down_pos e) (down_pos d)) refl (omega arith)
add_rounds f (fin false m e) (fin true n d) p q = plus_minus f (m * up e * down d) (n * up d * down e) (down e * down d) _ _ (mul-pos (down_pos e) (down_pos d)) (omega arith) (omega arith)
add_rounds f (fin true m e) (fin false n d) p q = minus_plus f (m * up e * down d) (n * up d * down e) (down e * down d) _ _ (mul-pos (down_pos e) (down_pos d)) (omega arith) (omega arith)
add_rounds f (fin true m e) (fin true n d) p q = minus_minus f (m * up e * down d) (n * up d * down e) (down e * down d) _ _ (mul-pos (down_pos e) (down_pos d)) (omega arith) refl

-- ---- negation and difference
pub neg_val : (x : Float) → val_f (neg x) ≡ neg_f (val_f x)
unfolding neg
neg_val nan = refl
neg_val (inf s) = refl
neg_val (fin false m e) = refl
neg_val (fin true m e) = refl

pub neg_finite : (x : Float) → T (finite x) → T (finite (neg x))
unfolding neg
neg_finite nan t = t
neg_finite (inf s) t = t
neg_finite (fin s m e) t = tt

pub sub_rounds : (f : Format) (x y : Float) → T (finite x) → T (finite y) → Rounds f (sub f x y) (add_f (val_f x) (neg_f (val_f y)))
unfolding sub
sub_rounds f x y p q = subst (λ (z : Frac). Rounds f (add f x (neg y)) (add_f (val_f x) z)) (neg_val y) (add_rounds f x (neg y) p (neg_finite y q))

-- ---- product
times : (f : Format) (s t : Bool) (a c b d : ℕ) → 0 < c → 0 < d → Rounds f (round f (unlike s t) (a * b) (c * d)) (mul_f (sgn s a c) (sgn t b d))
times f false false a c b d C D = made f _ false (a * b) (c * d) _ _ (mul-pos C D) refl (same_le (a * b) 0 (a * b + 0 * 0) (a * 0 + 0 * b) (c * d) (omega arith)) (same_le (a * b + 0 * 0) (a * 0 + 0 * b) (a * b) 0 (c * d) (omega arith))
times f false true a c b d C D = made f _ true (a * b) (c * d) _ _ (mul-pos C D) refl (same_le 0 (a * b) (a * 0 + 0 * b) (a * b + 0 * 0) (c * d) (omega arith)) (same_le (a * 0 + 0 * b) (a * b + 0 * 0) 0 (a * b) (c * d) (omega arith))
times f true false a c b d C D = made f _ true (a * b) (c * d) _ _ (mul-pos C D) refl (same_le 0 (a * b) (0 * b + a * 0) (0 * 0 + a * b) (c * d) (omega arith)) (same_le (0 * b + a * 0) (0 * 0 + a * b) 0 (a * b) (c * d) (omega arith))
times f true true a c b d C D = made f _ false (a * b) (c * d) _ _ (mul-pos C D) refl (same_le (a * b) 0 (0 * 0 + a * b) (0 * b + a * 0) (c * d) (omega arith)) (same_le (0 * 0 + a * b) (0 * b + a * 0) (a * b) 0 (c * d) (omega arith))

pub mul_rounds : (f : Format) (x y : Float) → T (finite x) → T (finite y) → Rounds f (mul f x y) (mul_f (val_f x) (val_f y))
unfolding mul
mul_rounds f nan y p q = absurd p
mul_rounds f (inf s) y p q = absurd p
mul_rounds f (fin s m e) nan p q = absurd q
mul_rounds f (fin s m e) (inf t) p q = absurd q
mul_rounds f (fin s m e) (fin t n d) p q = times f s t (m * up e) (down e) (n * up d) (down d) (down_pos e) (down_pos d)

-- ---- quotient
inv_sgn : (t : Bool) (b d : ℕ) → 0 < b → inv_f (sgn t b d) ≡ sgn t d b
inv_sgn false b d B = inv_above b 0 d B ∙ ap (λ (x : ℕ). frac d 0 x) (sub-zero b)
inv_sgn true b d B = inv_below 0 b d B ∙ ap (λ (x : ℕ). frac 0 d x) (sub-zero b)

not_eqb : (n : ℕ) → 0 < n → T (not (eqb n 0))
not_eqb n h = not_T (eqb n 0) (λ t. lt_irrefl 0 (subst (λ (x : ℕ). 0 < x) (eqb→eq n 0 t) h))

quotient : (f : Format) (s t : Bool) (a c b d : ℕ) → 0 < c → 0 < b → Rounds f (round f (unlike s t) (a * d) (b * c)) (mul_f (sgn s a c) (inv_f (sgn t b d)))
quotient f s t a c b d C B =
    subst (λ (z : Frac). Rounds f (round f (unlike s t) (a * d) (b * c)) (mul_f (sgn s a c) z)) (sym (inv_sgn t b d B))
    (subst (λ (z : ℕ). Rounds f (round f (unlike s t) (a * d) z) (mul_f (sgn s a c) (sgn t d b))) (mul_comm c b) (times f s t a c d b C B))

-- the divisor is not zero
abbrev pub NonZero : Float → Type 0
NonZero nan = ⊥
NonZero (inf s) = ⊥
NonZero (fin s m e) = 0 < m

pub div_rounds : (f : Format) (x y : Float) → T (finite x) → NonZero y → Rounds f (div f x y) (mul_f (val_f x) (inv_f (val_f y)))
unfolding div
div_rounds f nan y p q = absurd p
div_rounds f (inf s) y p q = absurd p
div_rounds f (fin s m e) nan p q = absurd q
div_rounds f (fin s m e) (inf t) p q = absurd q
div_rounds f (fin s m e) (fin t n d) p q =
    subst (λ (z : Float). Rounds f z (mul_f (val_f (fin s m e)) (inv_f (val_f (fin t n d))))) (sym (cond_no (eqb n 0) _ _ (not_eqb n q)))
    (quotient f s t (m * up e) (down e) (n * up d) (down d) (down_pos e) (mul-pos q (up_pos d)))

-- a divisor that is not zero has an inverse
pub nonzero_inv : (y : Float) → NonZero y → Pos (inv_f (val_f y))
nonzero_inv nan q = absurd q
nonzero_inv (inf t) q = absurd q
nonzero_inv (fin t n d) q = subst Pos (sym (inv_sgn t (n * up d) (down d) (mul-pos q (up_pos d)))) (sgn_pos t (down d) (n * up d) (mul-pos q (up_pos d)))
