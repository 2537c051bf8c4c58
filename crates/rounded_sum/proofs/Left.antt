-- The remainder of a rounded sum: the two differences are exact, for every finite sum. Assumes nothing.
use mathlib.Core.Path.{◌≡◌, sym, subst}
use mathlib.Core.Bool.{Bool, true, false, not}
use Prim.Native.Nat.{ℕ, ◌+◌, ◌-◌, ◌*◌, ◌≤◌, ◌<◌}
use native.Mathlib.Nat.{lt_of_le_of_lt}
use native.Mathlib.Omega.{arith}
use lib.Dec.{T}
use lib.Pow.{pow_pos}
use lib.Ieee.{Float, nan, inf, fin, Format, low, up, down, sub, fits}
use lib.Ieee.Scale.{finite, grid}
use Rattle.number.specs.Frac.{Frac, frac, Pos, le_f, add_f, sub_f, neg_f, sgn, val_f}
use Rattle.number.specs.Neighbour.{absolute}
use Rattle.number.proofs.Frac.{ring, val_f_pos, add_f_pos, neg_f_pos, lt_le_f}
use Rattle.number.proofs.Round.{Rounds, has_le, has_ge, worth, signed_mono, grid_pos}
use Rattle.number.proofs.Ops.{sub_rounds}
use Rattle.number.proofs.Units.{in_units, known}
use Rattle.rounded_sum.specs.RoundedSum.{Same, left_of}
use Rattle.rounded_sum.proofs.Multiples.{Digits}
use Rattle.rounded_sum.proofs.Nearest.{L, p, rounded}
use Rattle.rounded_sum.proofs.Parts.{Parts, parts_added, parts_taken}
use Rattle.rounded_sum.proofs.Same.{same_refl, same_sym, same_trans, same_add, same_sub}
use Rattle.rounded_sum.proofs.Held.{Under, digits_of, units_of, units_order, Stands, stands, Exactly, exactly}

-- ± (a - b) / l: `true` is minus
abbrev side : ℕ → Bool → ℕ → ℕ → Frac
side l false a b = frac a b l
side l true a b = frac b a l

side_pos : (l : ℕ) (s : Bool) (a b : ℕ) → 0 < l → Pos (side l s a b)
side_pos l false a b h = h
side_pos l true a b h = h

side_own : (l : ℕ) (s : Bool) (a : ℕ) → Same (sgn s a l) (side l s a 0)
side_own l false a = same_refl (frac a 0 l)
side_own l true a = same_refl (frac 0 a l)

less_larger : (l : ℕ) (s : Bool) (a b : ℕ) → Same (sub_f (side l s a 0) (side l s b 0)) (side l s a b)
less_larger l false a b = (simp ring (omega arith), simp ring (omega arith))
less_larger l true a b = (simp ring (omega arith), simp ring (omega arith))

less_moved : (l : ℕ) (s : Bool) (n a b : ℕ) → Same (sub_f (side l s n a) (side l s b a)) (side l s n b)
less_moved l false n a b = (simp ring (omega arith), simp ring (omega arith))
less_moved l true n a b = (simp ring (omega arith), simp ring (omega arith))

with_larger : (l : ℕ) (s : Bool) (n a : ℕ) → Same (add_f (side l s a 0) (side l s n a)) (side l s n 0)
with_larger l false n a = (simp ring (omega arith), simp ring (omega arith))
with_larger l true n a = (simp ring (omega arith), simp ring (omega arith))

smaller_added : (l : ℕ) (s : Bool) (a b : ℕ) → Same (sgn s b l) (side l s (a + b) a)
smaller_added l false a b = (simp ring (omega arith), simp ring (omega arith))
smaller_added l true a b = (simp ring (omega arith), simp ring (omega arith))

smaller_taken : (l : ℕ) (s : Bool) (a b : ℕ) → b ≤ a → Same (sgn (not s) b l) (side l s (a - b) a)
smaller_taken l s a b h = subst (λ (x : ℕ). Same (sgn (not s) b l) (side l s (a - b) x)) (sym (split a b h)) (go s (a - b))
  where
    split : (a b : ℕ) → b ≤ a → a ≡ a - b + b
    split a b h = omega arith

    go : (s : Bool) (m : ℕ) → Same (sgn (not s) b l) (side l s m (m + b))
    go false m = (simp ring (omega arith), simp ring (omega arith))
    go true m = (simp ring (omega arith), simp ring (omega arith))

module _ (f : Format) where
  l_pos : 0 < L f
  l_pos = pow_pos (low f)

  stands_as : (q q' : Frac) → Pos q → Same q q' → Stands f q → Stands f q'
  stands_as q q' Q h s = record { float = s.float; held = s.held; whole = s.whole; same = same_trans (val_f s.float) q q' Q s.same h }

  -- what a finite sum is worth, in units
  sum_worth : (s : Float) (q : Frac) (g : Bool) (n : ℕ) → Rounds f s q → T (finite s) → Pos q → Same q (sgn g n (L f)) → Same (val_f s) (sgn g (rounded f n) (L f))
  sum_worth s q g n x t Q h =
      let i = x.sign in let a = x.top in let c = x.bottom in
      let k : Same (sgn i a c) (sgn g n (L f)) = same_trans (sgn i a c) q (sgn g n (L f)) Q (x.le, x.ge) h in
      let w = worth f s i a c x.is t in
      same_trans (val_f s) (sgn i (grid f a c) (L f)) (sgn g (rounded f n) (L f)) (grid_pos f i a c)
      (has_le s i (grid f a c) (L f) w, has_ge s i (grid f a c) (L f) w)
      (signed_mono f i g a c n (L f) x.above l_pos k.0, signed_mono f g i n (L f) a c l_pos x.above k.1)

  core : (g : Bool) (A B n : ℕ) (s a b : Float) → T (finite a) → T (finite b) → Parts (p f) A B n (rounded f n) → Under f A → Under f B
      → Same (val_f a) (side (L f) g A 0) → Same (val_f b) (side (L f) g n A) → Rounds f s (add_f (val_f a) (val_f b)) → T (finite s)
      → Exactly f (sub f b (sub f s a)) (left_of a b s)
  core g A B n s a b ta tb k uA uB ha hb x t =
      let S = rounded f n in
      let l = L f in
      let q = add_f (val_f a) (val_f b) in
      let Q = add_f_pos (val_f a) (val_f b) (val_f_pos a) (val_f_pos b) in
      let hq : Same q (side l g n 0) = same_trans q (add_f (side l g A 0) (side l g n A)) (side l g n 0) (add_f_pos (side l g A 0) (side l g n A) (side_pos l g A 0 l_pos) (side_pos l g n A l_pos)) (same_add (val_f a) (side l g A 0) (val_f b) (side l g n A) ha hb) (with_larger l g n A) in
      let hs : Same (val_f s) (side l g S 0) = same_trans (val_f s) (sgn g S l) (side l g S 0) (grid_pos f g n l) (sum_worth s q g n x t Q (same_trans q (side l g n 0) (sgn g n l) (side_pos l g n 0 l_pos) hq (same_sym (sgn g n l) (side l g n 0) (side_own l g n)))) (side_own l g S) in
      let d = sub f s a in
      let qd = sub_f (val_f s) (val_f a) in
      let Qd = add_f_pos (val_f s) (neg_f (val_f a)) (val_f_pos s) (neg_f_pos (val_f a) (val_f_pos a)) in
      let hd : Same qd (side l g S A) = same_trans qd (sub_f (side l g S 0) (side l g A 0)) (side l g S A) (sub_pos (side l g S 0) (side l g A 0) (side_pos l g S 0 l_pos) (side_pos l g A 0 l_pos)) (same_sub (val_f s) (side l g S 0) (val_f a) (side l g A 0) hs ha) (less_larger l g S A) in
      let ed = exactly f d qd Qd (sub_rounds f s a t ta) (stands_as (side l g S A) qd (side_pos l g S A l_pos) (same_sym qd (side l g S A) hd) (either g S A k.beyond k.short (under (S - A) A k.beyond_le uA) (under (A - S) A k.short_le uA))) in
      let hd' : Same (val_f d) (side l g S A) = same_trans (val_f d) qd (side l g S A) Qd ed.same hd in
      let qr = sub_f (val_f b) (val_f d) in
      let Qr = add_f_pos (val_f b) (neg_f (val_f d)) (val_f_pos b) (neg_f_pos (val_f d) (val_f_pos d)) in
      let hr : Same qr (side l g n S) = same_trans qr (sub_f (side l g n A) (side l g S A)) (side l g n S) (sub_pos (side l g n A) (side l g S A) (side_pos l g n A l_pos) (side_pos l g S A l_pos)) (same_sub (val_f b) (side l g n A) (val_f d) (side l g S A) hb hd') (less_moved l g n A S) in
      let er = exactly f (sub f b d) qr Qr (sub_rounds f b d tb ed.whole) (stands_as (side l g n S) qr (side_pos l g n S l_pos) (same_sym qr (side l g n S) hr) (either g n S k.left k.over (under (n - S) B k.left_le uB) (under (S - n) B k.over_le uB))) in
      let hl : Same (left_of a b s) (side l g n S) = same_trans (left_of a b s) (sub_f (side l g n 0) (side l g S 0)) (side l g n S) (sub_pos (side l g n 0) (side l g S 0) (side_pos l g n 0 l_pos) (side_pos l g S 0 l_pos)) (same_sub q (side l g n 0) (val_f s) (side l g S 0) hq hs) (less_larger l g n S) in
      record {
        held = er.held;
        whole = er.whole;
        same = same_trans (val_f (sub f b d)) qr (left_of a b s) Qr er.same (same_trans qr (side l g n S) (left_of a b s) (side_pos l g n S l_pos) hr (same_sym (left_of a b s) (side l g n S) hl));
      }
    where
      sub_pos : (x y : Frac) → Pos x → Pos y → Pos (sub_f x y)
      sub_pos x y h k = add_f_pos x (neg_f y) h (neg_f_pos y k)

      under : (x c : ℕ) → x ≤ c → Under f c → Under f x
      under x c h k = lt_of_le_of_lt h k

      either : (g : Bool) (x y : ℕ) → Digits (p f) (x - y) → Digits (p f) (y - x) → Under f (x - y) → Under f (y - x) → Stands f (side (L f) g x y)
      either false x y d e u v = stands f x y d e u v
      either true x y d e u v = stands f y x e d v u

  -- the larger first
  pub left_exact : (s a b : Float) → T (fits f a) → T (fits f b) → T (finite a) → T (finite b) → le_f (val_f (absolute b)) (val_f (absolute a)) → Rounds f s (add_f (val_f a) (val_f b)) → T (finite s)
      → Exactly f (sub f b (sub f s a)) (left_of a b s)
  unfolding absolute
  left_exact s nan b fa fb ta tb h x t = absurd ta
  left_exact s (inf i) b fa fb ta tb h x t = absurd ta
  left_exact s (fin i m e) nan fa fb ta tb h x t = absurd tb
  left_exact s (fin i m e) (inf k) fa fb ta tb h x t = absurd tb
  left_exact s (fin i m e) (fin k n d) fa fb ta tb h x t = go i k fa fb x
    where
      A : ℕ
      A = in_units f m e

      B : ℕ
      B = in_units f n d

      order : (i k : Bool) → T (fits f (fin i m e)) → T (fits f (fin k n d)) → B ≤ A
      order i k fa fb = units_order f i k m n e d fa fb (cross (n * up d) (m * up e) (down e) (down d) h)
        where
          cross : (Y X c b : ℕ) → Y * c + 0 * b ≤ X * b + 0 * c → Y * c ≤ X * b
          cross Y X c b h = omega arith

      go : (i k : Bool) → T (fits f (fin i m e)) → T (fits f (fin k n d)) → Rounds f s (add_f (val_f (fin i m e)) (val_f (fin k n d)))
          → Exactly f (sub f (fin k n d) (sub f s (fin i m e))) (left_of (fin i m e) (fin k n d) s)
      go i k fa fb x = by_signs i k fa fb x (known f i m e fa).under (known f k n d fb).under (digits_of f i m e fa) (digits_of f k n d fb) (units_of f i m e fa) (units_of f k n d fb) (order i k fa fb)
        where
          own : (i : Bool) → Same (val_f (fin i m e)) (sgn i A (L f)) → Same (val_f (fin i m e)) (side (L f) i A 0)
          own i h = same_trans (val_f (fin i m e)) (sgn i A (L f)) (side (L f) i A 0) (Rattle.number.proofs.Frac.sgn_pos i A (L f) l_pos) h (side_own (L f) i A)

          other : (k i : Bool) (n' : ℕ) → Same (val_f (fin k n d)) (sgn k B (L f)) → Same (sgn k B (L f)) (side (L f) i n' A) → Same (val_f (fin k n d)) (side (L f) i n' A)
          other k i n' h g = same_trans (val_f (fin k n d)) (sgn k B (L f)) (side (L f) i n' A) (Rattle.number.proofs.Frac.sgn_pos k B (L f) l_pos) h g

          by_signs : (i k : Bool) → T (fits f (fin i m e)) → T (fits f (fin k n d)) → Rounds f s (add_f (val_f (fin i m e)) (val_f (fin k n d))) → Under f A → Under f B → Digits (p f) A → Digits (p f) B
              → Same (val_f (fin i m e)) (sgn i A (L f)) → Same (val_f (fin k n d)) (sgn k B (L f)) → B ≤ A → Exactly f (sub f (fin k n d) (sub f s (fin i m e))) (left_of (fin i m e) (fin k n d) s)
          by_signs false false fa fb x uA uB dA dB hA hB o = core false A B (A + B) s (fin false m e) (fin false n d) tt tt (parts_added f A B dA dB o) uA uB (own false hA) (other false false (A + B) hB (smaller_added (L f) false A B)) x t
          by_signs true true fa fb x uA uB dA dB hA hB o = core true A B (A + B) s (fin true m e) (fin true n d) tt tt (parts_added f A B dA dB o) uA uB (own true hA) (other true true (A + B) hB (smaller_added (L f) true A B)) x t
          by_signs false true fa fb x uA uB dA dB hA hB o = core false A B (A - B) s (fin false m e) (fin true n d) tt tt (parts_taken f A B dA dB o) uA uB (own false hA) (other true false (A - B) hB (smaller_taken (L f) false A B o)) x t
          by_signs true false fa fb x uA uB dA dB hA hB o = core true A B (A - B) s (fin true m e) (fin false n d) tt tt (parts_taken f A B dA dB o) uA uB (own true hA) (other false true (A - B) hB (smaller_taken (L f) true A B o)) x t
