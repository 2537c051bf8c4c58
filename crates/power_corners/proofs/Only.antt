-- lr_ij is 12 only where 1 - gamma_ij is 1: (1 - gamma_ij) * 9 + 3 rises with its first factor, and already the neighbours of 1 give another number. Assumes nothing.
use Prim.Native.Nat.{ℕ, ◌+◌, ◌*◌, ◌≤◌, ◌<◌}
use native.Mathlib.Omega.{arith}
use mathlib.Core.Path.{◌≡◌, refl, sym, subst}
use mathlib.Core.Logic.{◌⊎◌, inl, inr}
use mathlib.Core.Bool.{true, false}
use lib.Dec.{T, lit<, lit≤}
use lib.Ieee as Ieee
use lib.Ieee.{Float, nan, inf, fin, binary64, fits, up, down, add, mul}
use lib.Ieee.Scale.{finite}
use lib.Ieee.Back.{whole_unique}
use lib.Ieee.Fits.{down_pos}
use Rattle.number.specs.Arith.{bits, decimal, one64}
use Rattle.number.specs.Frac.{le_f, lt_f, zero_f, val_f}
use Rattle.number.specs.Neighbour.{next_up, next_down, step_up, step_down}
use Rattle.number.proofs.Frac.{val_f_pos, le_refl_f, lt_irrefl_f, le_or_lt, keeps_of, add_mono_f, add_f_pos, mul_f_pos}
use Rattle.number.proofs.Round.{rounds_mono}
use Rattle.number.proofs.Ops.{add_rounds, mul_rounds}
use Rattle.number.proofs.Neighbour.{next_up_least, next_down_greatest}

abbrev three : Float
three = decimal false 3 0

abbrev nine : Float
nine = decimal false 9 0

abbrev twelve : Float
twelve = decimal false 12 0

-- the sum of a product by 9 and 3
abbrev by : Float → Float
by t = add binary64 (mul binary64 t nine) three

numbers : T (finite nine) × T (finite three) × T (finite twelve) × T (fits binary64 one64) × T (finite one64) × le_f zero_f (val_f nine)
unfolding decimal Ieee.of_bits fits
numbers = (tt, tt, tt, tt, tt, lit≤ tt)

-- what is not finite stays so
sum_finite : (p : Float) → add binary64 p three ≡ twelve → T (finite p)
unfolding add decimal
sum_finite nan h = let z : ◌≡◌ {A = ℕ} 0 1 = cc in absurd (omega arith)
sum_finite (inf s) h = let z : ◌≡◌ {A = ℕ} 0 1 = cc in absurd (omega arith)
sum_finite (fin s m e) h = tt

product_finite : (t : Float) → T (finite (mul binary64 t nine)) → T (finite t)
unfolding mul decimal
product_finite nan h = h
product_finite (inf s) h = h
product_finite (fin s m e) h = tt

rises : (t u : Float) → T (finite t) → T (finite u) → T (finite (mul binary64 t nine)) → T (finite (mul binary64 u nine)) → T (finite (by t)) → T (finite (by u)) → le_f (val_f t) (val_f u) → le_f (val_f (by t)) (val_f (by u))
rises t u a b p q r s h =
    let nine-finite = numbers.0 in
    let three-finite = numbers.1 in
    let x = mul binary64 t nine in
    let y = mul binary64 u nine in
    let products : le_f (val_f x) (val_f y) = rounds_mono binary64 x y _ _ (mul_rounds binary64 t nine a nine-finite) (mul_rounds binary64 u nine b nine-finite) p q (mul_f_pos (val_f t) (val_f nine) (val_f_pos t) (val_f_pos nine)) (mul_f_pos (val_f u) (val_f nine) (val_f_pos u) (val_f_pos nine)) (keeps_of (val_f nine) numbers.5 (val_f t) (val_f u) h) in
    rounds_mono binary64 (by t) (by u) _ _ (add_rounds binary64 x three p three-finite) (add_rounds binary64 y three q three-finite) r s (add_f_pos (val_f x) (val_f three) (val_f_pos x) (val_f_pos three)) (add_f_pos (val_f y) (val_f three) (val_f_pos y) (val_f_pos three)) (add_mono_f (val_f x) (val_f y) (val_f three) (val_f three) products (le_refl_f (val_f three)))

-- ---- the neighbours of 1
abbrev under : Float
under = bits 0x3fef_ffff_ffff_ffff

abbrev over : Float
over = bits 0x3ff0_0000_0000_0001

is_under : next_down one64 ≡ under
unfolding next_down step_down Ieee.of_bits Ieee.to_bits
is_under = refl

is_over : next_up one64 ≡ over
unfolding next_up step_up Ieee.of_bits Ieee.to_bits
is_over = refl

less : T (finite under) × T (finite (mul binary64 under nine)) × T (finite (by under)) × lt_f (val_f (by under)) (val_f twelve)
unfolding decimal Ieee.of_bits mul add
less = (tt, tt, tt, lit< tt)

more : T (finite over) × T (finite (mul binary64 over nine)) × T (finite (by over)) × lt_f (val_f twelve) (val_f (by over))
unfolding decimal Ieee.of_bits mul add
more = (tt, tt, tt, lit< tt)

-- a finite f64 of value 1 is 1
one_value : (t : Float) → T (fits binary64 t) → T (finite t) → le_f (val_f t) (val_f one64) → le_f (val_f one64) (val_f t) → t ≡ one64
unfolding Ieee.of_bits
one_value nan f a h k = absurd a
one_value (inf s) f a h k = absurd a
one_value (fin false m e) f a h k = whole_unique binary64 (fin false m e) one64 false 1 f numbers.3 (refl, omega arith) (refl, refl)
one_value (fin true m e) f a h k = absurd (none (m * up e) (down e) (down_pos e) k)
  where
    none : (n d : ℕ) → 0 < d → 1 * d + n * 1 ≤ 0 * 1 + 0 * d → ⊥
    none n d D h = omega arith

pub only_one : (t : Float) → T (fits binary64 t) → by t ≡ twelve → t ≡ one64
only_one t f h = go (le_or_lt (val_f t) (val_f one64)) (le_or_lt (val_f one64) (val_f t))
  where
    product : T (finite (mul binary64 t nine))
    product = sum_finite (mul binary64 t nine) h

    finite_t : T (finite t)
    finite_t = product_finite t product

    finite_by : T (finite (by t))
    finite_by = subst (λ (x : Float). T (finite x)) (sym h) numbers.2

    below : lt_f (val_f t) (val_f one64) → ⊥
    below k =
        let l = next_down_greatest one64 numbers.3 numbers.4 t f finite_t (subst (λ (x : Float). T (finite x)) (sym is_under) less.0) k in
        lt_irrefl_f (val_f twelve) (val_f (by under)) (subst (λ (x : Float). le_f (val_f x) (val_f (by under))) h (rises t under finite_t less.0 product less.1 finite_by less.2 (subst (λ (x : Float). le_f (val_f t) (val_f x)) is_under l))) less.3

    above : lt_f (val_f one64) (val_f t) → ⊥
    above k =
        let l = next_up_least one64 numbers.3 numbers.4 t f finite_t (subst (λ (x : Float). T (finite x)) (sym is_over) more.0) k in
        lt_irrefl_f (val_f (by over)) (val_f twelve) (subst (λ (x : Float). le_f (val_f (by over)) (val_f x)) h (rises over t more.0 finite_t more.1 product more.2 finite_by (subst (λ (x : Float). le_f (val_f x) (val_f t)) is_over l))) more.3

    go : le_f (val_f t) (val_f one64) ⊎ lt_f (val_f one64) (val_f t) → le_f (val_f one64) (val_f t) ⊎ lt_f (val_f t) (val_f one64) → t ≡ one64
    go (inl a) (inl b) = one_value t f finite_t a b
    go (inl a) (inr b) = absurd (below b)
    go (inr a) b = absurd (above a)
