-- What is rounded from a fraction between two finite values of the format is finite. Assumes nothing.
use Rattle.std.proofs.Common.{◌≡◌, ℕ, zero, suc, ◌+◌, ◌*◌, ◌^◌, ◌<◌, ◌≤◌, Bool, true, false, T, sym, refl, subst, true≢false, lt_of_lt_of_le, lt_of_le_of_lt, lt_irrefl, zero-lt-suc, mul-pos, le_of_mul-le-mul_right, arith, pow_pos, pow-add}
use mathlib.Core.Bool.{false≢true}
use lib.Ieee.{Float, nan, inf, fin, Format, prec, emax, low, up, down, round, units, fits, lt}
use lib.Ieee.Fits.{round_is, down_pos}
use lib.Ieee.Exact.{units_val}
use lib.Ieee.Order.{drop, kept}
use lib.Ieee.Scale.{grid, finite}
use Rattle.number.specs.Frac.{Frac, Pos, le_f, sgn, val_f}
use Rattle.number.proofs.Frac.{le_trans_f}
use Rattle.number.proofs.Round.{Rounds, has_finite, stays_above, stays_below}
use Rattle.number.proofs.Units.{known}

module _ (f : Format) where
  -- G units at most the magnitude X / d of a value that fits
  small : (G X d n B : ℕ) → 0 < d → X * 2 ^ low f ≡ n * d → n < B → G * d ≤ X * 2 ^ low f → G < B
  small G X d n B D e h k = lt_of_le_of_lt (le_of_mul-le-mul_right {k = d} (omega arith) D) h

  none : (G d B x : ℕ) → 0 < d → 0 < B → G * d + x ≤ 0 → G < B
  none zero d B x D h k = h
  none (suc G) d B x D h k = absurd (lt_irrefl 0 (lt_of_lt_of_le (mul-pos (zero-lt-suc G) D) (omega arith)))

  abbrev pub B : ℕ
  B = 2 ^ low f * 2 ^ suc (emax f)

  pub B-pos : 0 < B
  B-pos = mul-pos (pow_pos (low f)) (pow_pos (suc (emax f)))

  pub upper : (G : ℕ) (w : Float) → T (fits f w) → T (finite w) → le_f (sgn false G (2 ^ low f)) (val_f w) → G < B
  upper G nan p t h = absurd t
  upper G (inf s) p t h = absurd t
  upper G (fin false m e) p t h = small G (m * up e) (down e) _ B (down_pos e) (known f false m e p).exact (known f false m e p).under (omega arith)
  upper G (fin true m e) p t h = none G (down e) B (m * up e * 2 ^ low f) (down_pos e) B-pos (omega arith)

  pub lower : (G : ℕ) (w : Float) → T (fits f w) → T (finite w) → le_f (val_f w) (sgn true G (2 ^ low f)) → G < B
  lower G nan p t h = absurd t
  lower G (inf s) p t h = absurd t
  lower G (fin true m e) p t h = small G (m * up e) (down e) _ B (down_pos e) (known f true m e p).exact (known f true m e p).under (omega arith)
  lower G (fin false m e) p t h = none G (down e) B (m * up e * 2 ^ low f) (down_pos e) B-pos (omega arith)

  in_range : (s : Bool) (G : ℕ) (u w : Float) → T (fits f u) → T (finite u) → T (fits f w) → T (finite w) → le_f (val_f u) (sgn s G (2 ^ low f)) → le_f (sgn s G (2 ^ low f)) (val_f w) → G < B
  in_range false G u w p t q v h k = upper G w q v k
  in_range true G u w p t q v h k = lower G u p t h

  pub round_finite : (s : Bool) (a c : ℕ) → grid f a c < B → T (finite (round f s a c))
  round_finite s a c h =
      subst (λ (z : Float). T (finite z)) (sym (round_is f s a c))
      (has_finite (units f s (kept (prec f) (a * 2 ^ low f) c) (drop (prec f) (a * 2 ^ low f) c)) s (grid f a c) (2 ^ low f)
      (units_val f s (kept (prec f) (a * 2 ^ low f) c) (drop (prec f) (a * 2 ^ low f) c) (subst (λ (z : ℕ). grid f a c < z) (sym (pow-add 2 (low f) (suc (emax f)))) h)))

  pub rounds_finite : (r u w : Float) (q : Frac) → Rounds f r q → T (fits f u) → T (finite u) → T (fits f w) → T (finite w) → Pos q → le_f (val_f u) q → le_f q (val_f w) → T (finite r)
  rounds_finite r u w q x p t p' t' Q h k =
      let s = x.sign in let a = x.top in let c = x.bottom in
      subst (λ (z : Float). T (finite z)) (sym x.is)
      (round_finite s a c (in_range s (grid f a c) u w p t p' t'
      (stays_above f u s a c p t x.above (le_trans_f (val_f u) q (sgn s a c) Q h x.ge))
      (stays_below f w s a c p' t' x.above (le_trans_f (sgn s a c) q (val_f w) Q x.le k))))

-- ---- what the code's test of an infinity tells
pub finite_yes : (x : Float) → lt x (inf false) ≡ true → lt (inf true) x ≡ finite x
unfolding lt
finite_yes nan h = refl
finite_yes (inf true) h = refl
finite_yes (inf false) h = absurd (false≢true h)
finite_yes (fin s m e) h = refl

pub finite_no : (x : Float) → lt x (inf false) ≡ false → false ≡ finite x
unfolding lt
finite_no nan h = refl
finite_no (inf s) h = refl
finite_no (fin s m e) h = absurd (true≢false h)
