-- The slopes of the dividends of i and, of finite ends, of j: operations on the floats next to zero, one after another. Assumes nothing.
use mathlib.Core.Path.{◌≡◌, refl}
use mathlib.Core.Bool.{Bool, true, false, ◌&&◌}
use Prim.Native.Nat.{ℕ, ◌+◌, ◌^◌}
use lib.Ieee as Ieee
use lib.Ieee.{binary64, of_bits, to_bits, lt, sum, round, fits}
use Rattle.number.specs.Arith.{zero64}
use Rattle.number.specs.Neighbour.{next_up, next_down, step_up, step_down, least, greatest}
use Rattle.interval.specs.Interval as Interval
use Rattle.interval.specs.Interval.{add_i, sub_i, neg_i, around, outward}
use Rattle.interval.specs.declared.Interval.{Interval}
use Rattle.enclosure.specs.declared.Enclosure.{Enclosure}
use Rattle.enclosure.specs.Enclosure.{point, add_e, sub_e, neg_e}
use Rattle.enclosure_dual.specs.Value.{about_zero}
use Rattle.enclosure_dual.proofs.Zero.{right_is, left_is}
use Rattle.saftvrmie_dispersion.specs.Slope.{finite_ends, i_slope, j_slope}

-- the floats k steps from zero
abbrev about : ℕ → Bool → Interval
about k g = record { lower = of_bits binary64 (2 ^ 63 + k); upper = of_bits binary64 k; sound = g }

pub i_slope_is : ◌≡◌ {A = Enclosure} (record { value = Ieee.neg zero64; ends = about 1 true }) i_slope
unfolding i_slope neg_e sub_e point neg_i sub_i Interval.point around outward least greatest lt next_up next_down step_up step_down to_bits of_bits Ieee.sub Ieee.add Ieee.neg sum round fits
i_slope_is = refl

third : (g h : Bool) → add_i (about_zero g) (about_zero h) ≡ about 3 (g && h)
unfolding add_i about_zero around outward least greatest lt next_up next_down step_up step_down to_bits of_bits Ieee.add sum round
third true true = refl
third true false = refl
third false true = refl
third false false = refl

seventh : (g h : Bool) → sub_i (about 3 g) (about 3 h) ≡ about 7 (g && h)
unfolding sub_i around outward least greatest lt next_up next_down step_up step_down to_bits of_bits Ieee.sub Ieee.add Ieee.neg sum round
seventh true true = refl
seventh true false = refl
seventh false true = refl
seventh false false = refl

eighth : (g : Bool) → sub_i (about 7 g) (Interval.point zero64) ≡ about 8 g
unfolding sub_i Interval.point around outward least greatest lt next_up next_down step_up step_down to_bits of_bits Ieee.sub Ieee.add Ieee.neg sum round fits
eighth true = refl
eighth false = refl

turned : (g : Bool) → neg_i (about 8 g) ≡ about 8 g
unfolding neg_i of_bits Ieee.neg
turned g = refl

module _ (a b c d : Bool) where
  ends : neg_i (sub_i (sub_i (add_i (about_zero a) (about_zero b)) (add_i (about_zero c) (about_zero d))) (Interval.point zero64)) ≡ about 8 ((a && b) && (c && d))
  ends = rw (third a b, third c d, seventh (a && b) (c && d), eighth ((a && b) && (c && d)), turned ((a && b) && (c && d)))

split_l : (g h : Bool) → (g && h) ≡ true → g ≡ true
split_l true h p = refl
split_l false h p = p

split_r : (g h : Bool) → (g && h) ≡ true → h ≡ true
split_r true h p = p
split_r false true p = refl
split_r false false p = p

module _ (p4 p3 l3 l4 : Enclosure) where
  pub slope_is : {f4 f3 e3 e4 : Bool} → f4 ≡ finite_ends p4 → f3 ≡ finite_ends p3 → e3 ≡ finite_ends l3 → e4 ≡ finite_ends l4
      → (f4 && (f3 && (e3 && e4))) ≡ true
      → record {
        value = Ieee.neg (Ieee.sub binary64 (Ieee.sub binary64 (Ieee.add binary64 (Ieee.mul binary64 zero64 l3.value) (Ieee.mul binary64 p4.value zero64)) (Ieee.add binary64 (Ieee.mul binary64 zero64 l4.value) (Ieee.mul binary64 p3.value zero64))) zero64);
        ends = about 8 ((l3.ends.sound && p4.ends.sound) && (l4.ends.sound && p3.ends.sound));
      } ≡ j_slope p4 p3 l3 l4
  unfolding j_slope neg_e sub_e add_e point
  slope_is {f4} {f3} {e3} {e4} q4 q3 r3 r4 h =
      let h4 = rw q4 at (split_l f4 (f3 && (e3 && e4)) h) in
      let k3 = split_r f4 (f3 && (e3 && e4)) h in
      let h3 = rw q3 at (split_l f3 (e3 && e4) k3) in
      let k = split_r f3 (e3 && e4) k3 in
      let g3 = rw r3 at (split_l e3 e4 k) in
      let g4 = rw r4 at (split_r e3 e4 k) in
      rw (
        ← left_is l3 refl refl g3 refl,
        ← right_is p4 refl refl h4 refl,
        ← left_is l4 refl refl g4 refl,
        ← right_is p3 refl refl h3 refl,
        ends l3.ends.sound p4.ends.sound l4.ends.sound p3.ends.sound,
      )
