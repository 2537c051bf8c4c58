-- How far from zero an interval's ends stay: what rounding, a step outward and the operations keep of a bound. Assumes nothing.
use mathlib.Core.Path.{◌≡◌, refl, sym, ap, ◌∙◌, subst}
use mathlib.Core.Logic.{inl}
use mathlib.Core.Bool.{Bool, true, false, not, cond, ◌&&◌, ◌||◌}
use Prim.Native.Nat.{ℕ, zero, suc, ◌+◌, ◌*◌, ◌%◌, ◌≤◌, ◌<◌}
use native.Mathlib.Omega.{arith}
use lib.Dec.{T}
use lib.Ieee.{Float, nan, inf, fin, binary64, fits, is_nan, to_bits, of_bits, lt, add, sub, mul, div, neg}
use lib.Ieee.Bits.{to_bits-of_bits, nan_bits_is}
use lib.Ieee.Fits.{neg-fits}
use lib.Ieee.Scale.{finite}
use Rattle.number.specs.Arith.{zero64}
use Rattle.number.specs.Frac.{Frac, frac, Pos, le_f, lt_f, zero_f, neg_f, add_f, mul_f, inv_f, val_f}
use Rattle.number.specs.Neighbour.{step_up, step_down, next_up, next_down, least, greatest}
use Rattle.number.proofs.Frac.{val_f_pos, le_trans_f, lt_le_f, le_lt_trans_f, lt_le_trans_f, mul_f_pos, add_f_pos, neg_f_pos, add_mono_f, neg_anti_f}
use Rattle.number.proofs.Hull.{mul_lower, mul_upper, inv_above, inv_anti_above, inv_f_pos_above}
use Rattle.number.proofs.Order.{lt_from}
use Rattle.std.proofs.lemmas.Float.{not_nan_f64_bits}
use Rattle.number.proofs.Round.{Rounds, rounds_above, rounds_below, rounds_fits}
use Rattle.number.proofs.Finite.{rounds_finite}
use Rattle.number.proofs.Ops.{add_rounds, sub_rounds, mul_rounds, div_rounds, neg_val, neg_finite}
use Rattle.number.proofs.Rank.{mag, place, rank, mag_inf, bits64, rank_lt}
use Rattle.number.proofs.Neighbour.{up_below, up_zero, up_onto_zero, up_above, down_above, down_zero, down_minus_zero, down_below, next_up_lt, next_down_lt, next_up_least, next_down_greatest, next_up_fits, next_down_fits}
use Rattle.interval.specs.declared.Interval.{Interval}
use Rattle.interval.specs.Interval.{outward, around, one_sign, add_i, sub_i, mul_i, div_i, neg_i}
use Rattle.interval.proofs.Encloses.{sign_nonzero}
use Rattle.interval.proofs.Near.{pick_least, pick_greatest}

-- ---- the neighbour of what is below, or above, a finite f64 is finite
inf_bits : (s : Bool) → to_bits binary64 (inf s) ≡ cond s 0x8000_0000_0000_0000 0 + 0x7ff0_0000_0000_0000
unfolding to_bits
inf_bits true = refl
inf_bits false = refl

nan_no : T (not (is_nan nan)) → ⊥
unfolding is_nan
nan_no h = h

read_finite : (t : Bool) (v : ℕ) → v < 0x7ff0_0000_0000_0000 → T (finite (of_bits binary64 (cond t 0x8000_0000_0000_0000 0 + v)))
read_finite t v h = go (of_bits binary64 b) refl
  where
    b : ℕ
    b = cond t 0x8000_0000_0000_0000 0 + v

    rest : (t : Bool) → (cond t 0x8000_0000_0000_0000 0 + v) % 0x8000_0000_0000_0000 ≤ 0x7ff0_0000_0000_0000
    rest true = omega arith
    rest false = omega arith

    small : (t : Bool) → cond t 0x8000_0000_0000_0000 0 + v < 0x1_0000_0000_0000_0000
    small true = omega arith
    small false = omega arith

    number : T (not (is_nan (of_bits binary64 b)))
    number = subst (λ (z : Bool). T (not z)) (nan_bits_is binary64 b) (not_nan_f64_bits b (rest t))

    back : to_bits binary64 (of_bits binary64 b) ≡ b
    back = to_bits-of_bits binary64 b (small t) number

    differ : (s t : Bool) → cond s 0x8000_0000_0000_0000 0 + 0x7ff0_0000_0000_0000 ≡ cond t 0x8000_0000_0000_0000 0 + v → ⊥
    differ true true e = omega arith
    differ true false e = omega arith
    differ false true e = omega arith
    differ false false e = omega arith

    go : (y : Float) → of_bits binary64 b ≡ y → T (finite (of_bits binary64 b))
    go nan q = absurd (nan_no (subst (λ (z : Float). T (not (is_nan z))) q number))
    go (inf s) q = absurd (differ s t (sym (inf_bits s) ∙ ap (to_bits binary64) (sym q) ∙ back))
    go (fin s m e) q = subst (λ (z : Float). T (finite z)) (sym q) tt

stepped_up : (s : Bool) (M : ℕ) → M < 0x7ff0_0000_0000_0000 → place s M < 0xffef_ffff_ffff_ffff → T (finite (of_bits binary64 (step_up (cond s 0x8000_0000_0000_0000 0 + M))))
stepped_up false M h k = subst (λ (z : ℕ). T (finite (of_bits binary64 z))) (sym (up_below (0 + M) (omega arith) ∙ omega arith)) (read_finite false (M + 1) (omega arith))
stepped_up true zero h k = subst (λ (z : ℕ). T (finite (of_bits binary64 z))) (sym up_zero) (read_finite false 1 (omega arith))
stepped_up true (suc zero) h k = subst (λ (z : ℕ). T (finite (of_bits binary64 z))) (sym up_onto_zero) (read_finite false 0 (omega arith))
stepped_up true (suc (suc M)) h k = subst (λ (z : ℕ). T (finite (of_bits binary64 z))) (sym (up_above (0x8000_0000_0000_0000 + suc (suc M)) (omega arith) ∙ omega arith)) (read_finite true (suc M) (omega arith))

stepped_down : (s : Bool) (M : ℕ) → M < 0x7ff0_0000_0000_0000 → 0x10_0000_0000_0001 < place s M → T (finite (of_bits binary64 (step_down (cond s 0x8000_0000_0000_0000 0 + M))))
stepped_down false zero h k = subst (λ (z : ℕ). T (finite (of_bits binary64 z))) (sym down_zero) (read_finite true 1 (omega arith))
stepped_down false (suc M) h k = subst (λ (z : ℕ). T (finite (of_bits binary64 z))) (sym (down_below (0 + suc M) (omega arith) (omega arith) ∙ omega arith)) (read_finite false M (omega arith))
stepped_down true zero h k = subst (λ (z : ℕ). T (finite (of_bits binary64 z))) (sym down_minus_zero) (read_finite true 1 (omega arith))
stepped_down true (suc M) h k = subst (λ (z : ℕ). T (finite (of_bits binary64 z))) (sym (down_above (0x8000_0000_0000_0000 + suc M) (omega arith) ∙ omega arith)) (read_finite true (suc M + 1) (omega arith))

rank_under : (y : Float) → T (fits binary64 y) → T (finite y) → rank y < 0xfff0_0000_0000_0000
rank_under nan p t = absurd t
rank_under (inf s) p t = absurd t
rank_under (fin false m e) p t = let l = mag_inf false m e p in omega arith
rank_under (fin true m e) p t = omega arith

rank_over : (y : Float) → T (fits binary64 y) → T (finite y) → 0x10_0000_0000_0000 < rank y
rank_over nan p t = absurd t
rank_over (inf s) p t = absurd t
rank_over (fin false m e) p t = omega arith
rank_over (fin true m e) p t = let l = mag_inf true m e p in omega arith

pub next_up_held : (x y : Float) → T (fits binary64 x) → T (finite x) → T (fits binary64 y) → T (finite y) → lt_f (val_f x) (val_f y) → T (finite (next_up x))
unfolding next_up
next_up_held nan y p t q u h = absurd t
next_up_held (inf s) y p t q u h = absurd t
next_up_held (fin s m e) y p t q u h =
    subst (λ (b : ℕ). T (finite (of_bits binary64 (step_up b)))) (sym (bits64 s m e))
    (stepped_up s (mag m e) (mag_inf s m e p) (near (place s (mag m e)) (rank y) (rank_lt (fin s m e) y p t q u h) (rank_under y q u)))
  where
    near : (a b : ℕ) → a < b → b < 0xfff0_0000_0000_0000 → a < 0xffef_ffff_ffff_ffff
    near a b h k = omega arith

pub next_down_held : (x y : Float) → T (fits binary64 x) → T (finite x) → T (fits binary64 y) → T (finite y) → lt_f (val_f y) (val_f x) → T (finite (next_down x))
unfolding next_down
next_down_held nan y p t q u h = absurd t
next_down_held (inf s) y p t q u h = absurd t
next_down_held (fin s m e) y p t q u h =
    subst (λ (b : ℕ). T (finite (of_bits binary64 (step_down b)))) (sym (bits64 s m e))
    (stepped_down s (mag m e) (mag_inf s m e p) (near (rank y) (place s (mag m e)) (rank_lt y (fin s m e) q u p t h) (rank_over y q u)))
  where
    near : (a b : ℕ) → a < b → 0x10_0000_0000_0000 < a → 0x10_0000_0000_0001 < b
    near a b h k = omega arith

-- ---- a float of the format that is no further from zero than B, and an interval of such ends
pub record Limit (B : Float) : Type 0 where
  pub is_finite : T (finite B)
  pub is_fitting : T (fits binary64 B)

pub record Within (B x : Float) : Type 0 where
  pub is_finite : T (finite x)
  pub is_fitting : T (fits binary64 x)
  pub over : le_f (neg_f (val_f B)) (val_f x)
  pub under : le_f (val_f x) (val_f B)

pub record Bounded (B : Float) (x : Interval) : Type 0 where
  pub is_sound : T x.sound
  pub at_lower : Within B x.lower
  pub at_upper : Within B x.upper

neg_lt : (x y : Frac) → lt_f x y → lt_f (neg_f y) (neg_f x)
neg_lt (frac p n d) (frac q m c) h = omega arith

pub both_true : (a b : Bool) → T a → T b → T (a && b)
both_true true true p q = tt
both_true true false p q = q
both_true false b p q = absurd p

-- ---- rounding
module _ (B : Float) (b : Limit B) where
  pub rounded : (r : Float) (q : Frac) → Rounds binary64 r q → Pos q → le_f (neg_f (val_f B)) q → le_f q (val_f B) → Within B r
  rounded r q x Q l u =
      let f = neg-fits binary64 B b.is_fitting in
      let n = neg_finite B b.is_finite in
      let l' = subst (λ (z : Frac). le_f z q) (sym (neg_val B)) l in
      let t = rounds_finite binary64 r (neg B) B q x f n b.is_fitting b.is_finite Q l' u in
      record {
        is_finite = t;
        is_fitting = rounds_fits binary64 r q x;
        over = subst (λ (z : Frac). le_f z (val_f r)) (neg_val B) (rounds_above binary64 r (neg B) q x t f n Q l');
        under = rounds_below binary64 r B q x t b.is_fitting b.is_finite Q u;
      }

-- ---- a larger bound
module _ (A B : Float) (h : le_f (val_f A) (val_f B)) where
  wider : (x : Float) → Within A x → Within B x
  wider x w =
      record {
        is_finite = w.is_finite;
        is_fitting = w.is_fitting;
        over = le_trans_f (neg_f (val_f B)) (neg_f (val_f A)) (val_f x) (neg_f_pos (val_f A) (val_f_pos A)) (neg_anti_f (val_f A) (val_f B) h) w.over;
        under = le_trans_f (val_f x) (val_f A) (val_f B) (val_f_pos A) w.under h;
      }

  pub widened : (x : Interval) → Bounded A x → Bounded B x
  widened x b = record { is_sound = b.is_sound; at_lower = wider x.lower b.at_lower; at_upper = wider x.upper b.at_upper }

-- ---- a step outward, from A to a larger B
module _ (A B : Float) (b : Limit B) (h : lt_f (val_f A) (val_f B)) where
  larger : (x : Float) → Within A x → Within B x
  larger x w = wider A B (lt_le_f (val_f A) (val_f B) h) x w

  steps_up : (x : Float) → Within A x → Within B (next_up x)
  steps_up x w =
      let l : lt_f (val_f x) (val_f B) = le_lt_trans_f (val_f x) (val_f A) (val_f B) (val_f_pos x) (val_f_pos A) w.under h in
      let t = next_up_held x B w.is_fitting w.is_finite b.is_fitting b.is_finite l in
      record {
        is_finite = t;
        is_fitting = next_up_fits x;
        over = le_trans_f (neg_f (val_f B)) (val_f x) (val_f (next_up x)) (val_f_pos x) (larger x w).over (lt_le_f (val_f x) (val_f (next_up x)) (next_up_lt x w.is_fitting w.is_finite t));
        under = next_up_least x w.is_fitting w.is_finite B b.is_fitting b.is_finite t l;
      }

  steps_down : (x : Float) → Within A x → Within B (next_down x)
  steps_down x w =
      let f = neg-fits binary64 B b.is_fitting in
      let n = neg_finite B b.is_finite in
      let l : lt_f (val_f (neg B)) (val_f x) = subst (λ (z : Frac). lt_f z (val_f x)) (sym (neg_val B)) (lt_le_trans_f (neg_f (val_f B)) (neg_f (val_f A)) (val_f x) (neg_f_pos (val_f A) (val_f_pos A)) (val_f_pos x) (neg_lt (val_f A) (val_f B) h) w.over) in
      let t = next_down_held x (neg B) w.is_fitting w.is_finite f n l in
      record {
        is_finite = t;
        is_fitting = next_down_fits x;
        over = subst (λ (z : Frac). le_f z (val_f (next_down x))) (neg_val B) (next_down_greatest x w.is_fitting w.is_finite (neg B) f n t l);
        under = le_trans_f (val_f (next_down x)) (val_f x) (val_f B) (val_f_pos x) (lt_le_f (val_f (next_down x)) (val_f x) (next_down_lt x w.is_fitting w.is_finite t)) (larger x w).under;
      }

  pub around_bounded : (g : Bool) (a c d e : Float) → T g → Within A a → Within A c → Within A d → Within A e → Bounded B (around g a c d e)
  unfolding around outward
  around_bounded g a c d e t p q r s =
      let P : Float → Type 0 = λ z. Within A z in
      let l = steps_down _ (pick_least P (least a c) (least d e) (pick_least P a c p q) (pick_least P d e r s)) in
      let u = steps_up _ (pick_greatest P (greatest a c) (greatest d e) (pick_greatest P a c p q) (pick_greatest P d e r s)) in
      record { is_sound = both_true (g && _) _ (both_true g _ t l.is_finite) u.is_finite; at_lower = l; at_upper = u }

-- ---- negation
turned_under : (b z : Frac) → le_f (neg_f b) z → le_f (neg_f z) b
turned_under (frac q m f) (frac p n e) l = omega arith

neg_within : (B x : Float) → Within B x → Within B (neg x)
neg_within B x w =
    record {
      is_finite = neg_finite x w.is_finite;
      is_fitting = neg-fits binary64 x w.is_fitting;
      over = subst (λ (z : Frac). le_f (neg_f (val_f B)) z) (sym (neg_val x)) (neg_anti_f (val_f x) (val_f B) w.under);
      under = subst (λ (z : Frac). le_f z (val_f B)) (sym (neg_val x)) (turned_under (val_f B) (val_f x) w.over);
    }

pub neg_bounded : (B : Float) (x : Interval) → Bounded B x → Bounded B (neg_i x)
unfolding neg_i
neg_bounded B x b = record { is_sound = b.is_sound; at_lower = neg_within B x.upper b.at_upper; at_upper = neg_within B x.lower b.at_lower }

-- ---- product: C bounds the four corners of A and B
pub record Corners (a b c : Frac) : Type 0 where
  pub under_mm : le_f (mul_f (neg_f a) (neg_f b)) c
  pub under_mp : le_f (mul_f (neg_f a) b) c
  pub under_pm : le_f (mul_f a (neg_f b)) c
  pub under_pp : le_f (mul_f a b) c
  pub over_mm : le_f (neg_f c) (mul_f (neg_f a) (neg_f b))
  pub over_mp : le_f (neg_f c) (mul_f (neg_f a) b)
  pub over_pm : le_f (neg_f c) (mul_f a (neg_f b))
  pub over_pp : le_f (neg_f c) (mul_f a b)

module _ (A B C D : Float) (c : Limit C) (d : Limit D) (h : lt_f (val_f C) (val_f D)) where
  module _ (k : Corners (val_f A) (val_f B) (val_f C)) where
    product_within : (x y : Float) → Within A x → Within B y → Within C (mul binary64 x y)
    product_within x y p q =
        let a = val_f A in let b = val_f B in let X = val_f x in let Y = val_f y in
        let P = val_f_pos A in let Q = val_f_pos B in
        rounded C c (mul binary64 x y) (mul_f X Y) (mul_rounds binary64 x y p.is_finite q.is_finite) (mul_f_pos X Y (val_f_pos x) (val_f_pos y))
        (mul_lower (neg_f (val_f C)) (neg_f a) X a (neg_f b) Y b (neg_f_pos a P) (val_f_pos x) P (neg_f_pos b Q) (val_f_pos y) Q p.over p.under q.over q.under k.over_mm k.over_mp k.over_pm k.over_pp)
        (mul_upper (val_f C) (neg_f a) X a (neg_f b) Y b (neg_f_pos a P) (val_f_pos x) P (neg_f_pos b Q) (val_f_pos y) Q p.over p.under q.over q.under k.under_mm k.under_mp k.under_pm k.under_pp)

    pub mul_bounded : (x y : Interval) → Bounded A x → Bounded B y → Bounded D (mul_i x y)
    unfolding mul_i
    mul_bounded x y p q =
        let m = product_within in
        around_bounded C D d h _ _ _ _ _ (both_true x.sound y.sound p.is_sound q.is_sound)
        (m _ _ p.at_lower q.at_lower) (m _ _ p.at_lower q.at_upper) (m _ _ p.at_upper q.at_lower) (m _ _ p.at_upper q.at_upper)

  -- ---- sum and difference
  module _ (under : le_f (add_f (val_f A) (val_f B)) (val_f C)) (over : le_f (neg_f (val_f C)) (add_f (neg_f (val_f A)) (neg_f (val_f B)))) where
    sum_over : (p q : Frac) → le_f (neg_f (val_f A)) p → le_f (neg_f (val_f B)) q → le_f (neg_f (val_f C)) (add_f p q)
    sum_over p q l m =
        let a = neg_f (val_f A) in let b = neg_f (val_f B) in
        le_trans_f (neg_f (val_f C)) (add_f a b) (add_f p q) (add_f_pos a b (neg_f_pos (val_f A) (val_f_pos A)) (neg_f_pos (val_f B) (val_f_pos B))) over (add_mono_f a p b q l m)

    sum_under : (p q : Frac) → le_f p (val_f A) → le_f q (val_f B) → le_f (add_f p q) (val_f C)
    sum_under p q l m = le_trans_f (add_f p q) (add_f (val_f A) (val_f B)) (val_f C) (add_f_pos (val_f A) (val_f B) (val_f_pos A) (val_f_pos B)) (add_mono_f p (val_f A) q (val_f B) l m) under

    sum_within : (x y : Float) → Within A x → Within B y → Within C (add binary64 x y)
    sum_within x y p q =
        rounded C c (add binary64 x y) (add_f (val_f x) (val_f y)) (add_rounds binary64 x y p.is_finite q.is_finite) (add_f_pos (val_f x) (val_f y) (val_f_pos x) (val_f_pos y))
        (sum_over (val_f x) (val_f y) p.over q.over) (sum_under (val_f x) (val_f y) p.under q.under)

    difference_within : (x y : Float) → Within A x → Within B y → Within C (sub binary64 x y)
    difference_within x y p q =
        let n = neg_f (val_f y) in
        rounded C c (sub binary64 x y) (add_f (val_f x) n) (sub_rounds binary64 x y p.is_finite q.is_finite) (add_f_pos (val_f x) n (val_f_pos x) (neg_f_pos (val_f y) (val_f_pos y)))
        (sum_over (val_f x) n p.over (neg_anti_f (val_f y) (val_f B) q.under)) (sum_under (val_f x) n p.under (turned_under (val_f B) (val_f y) q.over))

    pub add_bounded : (x y : Interval) → Bounded A x → Bounded B y → Bounded D (add_i x y)
    unfolding add_i
    add_bounded x y p q =
        let m = sum_within in
        around_bounded C D d h _ _ _ _ _ (both_true x.sound y.sound p.is_sound q.is_sound)
        (m _ _ p.at_lower q.at_lower) (m _ _ p.at_lower q.at_upper) (m _ _ p.at_upper q.at_lower) (m _ _ p.at_upper q.at_upper)

    pub sub_bounded : (x y : Interval) → Bounded A x → Bounded B y → Bounded D (sub_i x y)
    unfolding sub_i
    sub_bounded x y p q =
        let m = difference_within in
        around_bounded C D d h _ _ _ _ _ (both_true x.sound y.sound p.is_sound q.is_sound)
        (m _ _ p.at_lower q.at_lower) (m _ _ p.at_lower q.at_upper) (m _ _ p.at_upper q.at_lower) (m _ _ p.at_upper q.at_upper)

-- ---- quotient: the divisor's ends are E or more, E above zero; C bounds A over E
pub record AtLeast (E x : Float) : Type 0 where
  pub is_finite : T (finite x)
  pub from : le_f (val_f E) (val_f x)

-- the corners of A and of what lies between 0 and 1 / E
pub record Ratios (a i c : Frac) : Type 0 where
  pub under_mz : le_f (mul_f (neg_f a) zero_f) c
  pub under_mi : le_f (mul_f (neg_f a) i) c
  pub under_pz : le_f (mul_f a zero_f) c
  pub under_pi : le_f (mul_f a i) c
  pub over_mz : le_f (neg_f c) (mul_f (neg_f a) zero_f)
  pub over_mi : le_f (neg_f c) (mul_f (neg_f a) i)
  pub over_pz : le_f (neg_f c) (mul_f a zero_f)
  pub over_pi : le_f (neg_f c) (mul_f a i)

inv_from_zero : (y : Frac) → lt_f zero_f y → le_f zero_f (inv_f y)
inv_from_zero (frac q m c) h = subst (λ (z : Frac). le_f zero_f z) (sym (inv_above q m c (more q m c h))) (omega arith)
  where
    more : (q m c : ℕ) → 0 * c + m * 1 < q * 1 + 0 * c → m < q
    more q m c h = omega arith

module _ (A E C D : Float) (c : Limit C) (d : Limit D) (h : lt_f (val_f C) (val_f D)) (some : lt_f zero_f (val_f E)) (k : Ratios (val_f A) (inv_f (val_f E)) (val_f C)) where
  module _ (y : Float) (w : AtLeast E y) where
    above : lt_f zero_f (val_f y)
    above = lt_le_trans_f zero_f (val_f E) (val_f y) (val_f_pos E) (val_f_pos y) some w.from

    quotient_within : (x : Float) → Within A x → Within C (div binary64 x y)
    quotient_within x p =
        let a = val_f A in let X = val_f x in let i = inv_f (val_f E) in let Y = inv_f (val_f y) in
        let P = val_f_pos A in let I = inv_f_pos_above (val_f E) some in let Q = inv_f_pos_above (val_f y) above in
        let lo = inv_from_zero (val_f y) above in
        let hi = inv_anti_above (val_f E) (val_f y) some above w.from in
        rounded C c (div binary64 x y) (mul_f X Y) (div_rounds binary64 x y p.is_finite (sign_nonzero y w.is_finite (inl above))) (mul_f_pos X Y (val_f_pos x) Q)
        (mul_lower (neg_f (val_f C)) (neg_f a) X a zero_f Y i (neg_f_pos a P) (val_f_pos x) P (omega arith) Q I p.over p.under lo hi k.over_mz k.over_mi k.over_pz k.over_pi)
        (mul_upper (val_f C) (neg_f a) X a zero_f Y i (neg_f_pos a P) (val_f_pos x) P (omega arith) Q I p.over p.under lo hi k.under_mz k.under_mi k.under_pz k.under_pi)

  first : (a b : Bool) → T a → T (a || b)
  first true b t = tt
  first false b t = absurd t

  pub div_bounded : (x y : Interval) → Bounded A x → T y.sound → AtLeast E y.lower → AtLeast E y.upper → Bounded D (div_i x y)
  unfolding div_i one_sign of_bits
  div_bounded x y p s l u =
      let m : (y : Float) (w : AtLeast E y) (x : Float) → Within A x → Within C (div binary64 x y) = quotient_within in
      let z : T (lt zero64 y.lower) = lt_from zero64 y.lower tt l.is_finite (above y.lower l) in
      around_bounded C D d h _ _ _ _ _ (both_true (x.sound && y.sound) (one_sign y) (both_true x.sound y.sound p.is_sound s) (first (lt zero64 y.lower) (lt y.upper zero64) z))
      (m _ l _ p.at_lower) (m _ u _ p.at_lower) (m _ l _ p.at_upper) (m _ u _ p.at_upper)

-- ---- the square of an interval from E to B: from H on, H below what bounds its corners
module _ (E B G H C D : Float) (g : Limit G) (h : Limit H) (c : Limit C) (d : Limit D) (H<G : lt_f (val_f H) (val_f G)) (C<D : lt_f (val_f C) (val_f D)) (k : Corners (val_f B) (val_f B) (val_f C)) (least_is : le_f (val_f G) (mul_f (val_f E) (val_f E))) (other : le_f (val_f G) (mul_f (val_f E) (val_f B))) (turned : le_f (val_f G) (mul_f (val_f B) (val_f E))) (most : le_f (val_f G) (mul_f (val_f B) (val_f B))) where
  record From (z : Float) : Type 0 where
    is_finite : T (finite z)
    is_fitting : T (fits binary64 z)
    from : le_f (val_f G) (val_f z)

  corner_from : (x y : Float) → Within B x → AtLeast E x → Within B y → AtLeast E y → From (mul binary64 x y)
  corner_from x y p p' q q' =
      let X = val_f x in let Y = val_f y in let e = val_f E in let b = val_f B in
      let r = mul_rounds binary64 x y p.is_finite q.is_finite in
      let w = product_within B B C D c d C<D k x y p q in
      record {
        is_finite = w.is_finite;
        is_fitting = w.is_fitting;
        from = rounds_above binary64 (mul binary64 x y) G (mul_f X Y) r w.is_finite g.is_fitting g.is_finite (mul_f_pos X Y (val_f_pos x) (val_f_pos y))
            (mul_lower (val_f G) e X b e Y b (val_f_pos E) (val_f_pos x) (val_f_pos B) (val_f_pos E) (val_f_pos y) (val_f_pos B) p'.from p.under q'.from q.under least_is other turned most);
      }

  pub square_bounded : (x : Interval) → Bounded B x → AtLeast E x.lower → AtLeast E x.upper → Bounded D (mul_i x x) × AtLeast H (mul_i x x).lower × AtLeast H (mul_i x x).upper
  unfolding mul_i around outward
  square_bounded x p l u =
      let w = mul_bounded B B C D c d C<D k x x p p in
      let ll = corner_from _ _ p.at_lower l p.at_lower l in
      let lu = corner_from _ _ p.at_lower l p.at_upper u in
      let ul = corner_from _ _ p.at_upper u p.at_lower l in
      let uu = corner_from _ _ p.at_upper u p.at_upper u in
      let a = mul binary64 x.lower x.lower in let b = mul binary64 x.lower x.upper in
      let a' = mul binary64 x.upper x.lower in let b' = mul binary64 x.upper x.upper in
      let L = least (least a b) (least a' b') in
      let U = greatest (greatest a b) (greatest a' b') in
      let m = pick_least From (least a b) (least a' b') (pick_least From a b ll lu) (pick_least From a' b' ul uu) in
      let n = pick_greatest From (greatest a b) (greatest a' b') (pick_greatest From a b ll lu) (pick_greatest From a' b' ul uu) in
      let tm = w.at_lower.is_finite in
      let tn = w.at_upper.is_finite in (
        w,
        record { is_finite = tm; from = next_down_greatest L m.is_fitting m.is_finite H h.is_fitting h.is_finite tm (lt_le_trans_f (val_f H) (val_f G) (val_f L) (val_f_pos G) (val_f_pos L) H<G m.from) },
        record {
          is_finite = tn;
          from = le_trans_f (val_f H) (val_f U) (val_f (next_up U)) (val_f_pos U) (le_trans_f (val_f H) (val_f G) (val_f U) (val_f_pos G) (lt_le_f (val_f H) (val_f G) H<G) n.from) (lt_le_f (val_f U) (val_f (next_up U)) (next_up_lt U n.is_fitting n.is_finite tn));
        },
      )
