-- Of a tame pair, at a sound radius from 1 on, both derivatives of the potential are sound: u after both is u, and up to 32 it is held, with the radius' flag. Assumes nothing.
use mathlib.Core.Path.{◌≡◌, refl, sym, ap, ◌∙◌, subst}
use mathlib.Core.Bool.{Bool, true, false, ◌&&◌, cond, not}
use Prim.Native.Nat.{ℕ, suc, ◌+◌, ◌*◌, ◌^◌, ◌≤◌, ◌<◌}
use native.Mathlib.Omega.{arith}
use lib.IntN.{pos}
use lib.Dec.{T, lit<, lit≤}
use lib.Ieee.{Float, fin, binary64, up, down, fits, le, lt, neg, add, of_bits}
use lib.Ieee.Fits.{and_l, and_r}
use lib.Ieee.Bits.{is_true}
use lib.Ieee.Scale.{finite}
use Rattle.number.specs.Ans.{Ans, held, refused, ◌>>=◌, demand}
use Rattle.number.specs.Arith.{one64, decimal, whole}
use Rattle.number.specs.Functions.{calls, answered₂}
use Rattle.number.specs.Domain.{base_inside, exponent_inside}
use Rattle.number.proofs.Walk.{held_inj}
use Rattle.elementary.specs.Port.{port}
use Rattle.exponential.proofs.Decode.{inside_is}
use Rattle.binary_log.specs.declared.Log.{Log}
use Rattle.binary_log.specs.BinaryLog.{log_of}
use Rattle.power.specs.Power.{exponent_of, power_of}
use Rattle.interval.specs.Interval as I
use Rattle.interval.specs.Interval.{div_i, after_i}
use Rattle.interval.proofs.Encloses.{add_sound, sub_sound, mul_sound, div_sound}
use Rattle.interval.proofs.Bounded.{both_true}
use Rattle.enclosure.specs.declared.Enclosure.{Enclosure}
use Rattle.enclosure.specs.Enclosure.{enclosures, point, add_e, sub_e, mul_e, div_e, neg_e, pow_e, after_e}
use Rattle.dual_num.specs.declared.EnclosureBase.{EnclosureBase}
use Rattle.dual_num.specs.declared.EnclosureExponent.{EnclosureExponent}
use Rattle.dual_num.specs.Base.{float_base_of, float_exponent_of, float_power, enclosure_power, enclosure_power_by, enclosure_raised}
use Rattle.dual_num.specs.Laws.{enclosure_is, enclosure_power_is}
use Rattle.saftvrqmie_potential.specs.Potential.{PairIn, PotentialIn, first_order, second_order, quantum_d, q1, q2, recip, u_mie, u_quantum, scaled, after_shared, potential}
use Rattle.saftvrqmie_potential.specs.Shared.{Stands, alone, exponents_inside}
use Rattle.saftvrqmie_potential.proofs.Orders.{not_first}
use Rattle.saftvrqmie_potential.proofs.Alone as W
use Rattle.saftvrqmie_potential.proofs.Alone.{potential_tested, base_outside}
use Rattle.saftvrqmie_alone_ends.specs.Alone.{EnclosureTerm, EnclosureShared, EnclosureSharing, big, within_of, from_one, small_ends, plain_of, tame_term, tame_of, plain_number, plain_from, tame_numbers, sound_of, power_point, u_alone, u_after}
use Rattle.saftvrqmie_alone_ends.proofs.Tame.{Within, Tame, FromOne, top, mul_tame, add_tame, sub_tame, neg_tame, recip_tame, widened}
use Rattle.saftvrqmie_alone_ends.proofs.Same.{Same, same, add_same, sub_same, mul_same, div_same, one_flag, flags}
use Rattle.saftvrqmie_alone_ends.proofs.Raised.{power_from_one, above_one, upward}

-- ---- what the tests tell
within_100 : (x : Float) → T (le (neg big) x && le x big) → T (fits binary64 x) → Within 100 x
unfolding of_bits neg
within_100 x t f = go (inside_is x 1 (pos 100) t)
  where
    both : (s : Bool) (m : ℕ) (e : lib.IntN.ℤ) → x ≡ fin s m e → m * up e * 1 ≤ 1 * 2 ^ 100 * down e → Within 100 x
    both false m e q h = record { is_finite = subst (λ (z : Float). T (finite z)) (sym q) tt; is_fitting = f; over = rw q (omega arith); under = rw q (omega arith) }
    both true m e q h = record { is_finite = subst (λ (z : Float). T (finite z)) (sym q) tt; is_fitting = f; over = rw q (omega arith); under = rw q (omega arith) }

    go : ((s : Bool) × (m : ℕ) × (e : lib.IntN.ℤ) × (x ≡ fin s m e) × (m * up e * down (pos 100) ≤ 1 * up (pos 100) * down e)) → Within 100 x
    go (s, m, e, q, h) = both s m e q h

record TameE (k : ℕ) (x : Enclosure) : Type 0 where
  size : Tame k x.ends

small_tame : (x : Enclosure) → T (small_ends x) → TameE 100 x
unfolding small_ends within_of
small_tame x t =
    let g = x.ends.sound in
    let l = le (neg big) x.ends.lower && le x.ends.lower big in
    let u = le (neg big) x.ends.upper && le x.ends.upper big in
    let fl = fits binary64 x.ends.lower in
    let fu = fits binary64 x.ends.upper in
    let s = and_l (g && (l && fl)) (u && fu) t in
    let p = and_r g (l && fl) s in
    let q = and_r (g && (l && fl)) (u && fu) t in
    record {
      size = record { is_sound = and_l g (l && fl) s; at_lower = within_100 x.ends.lower (and_l l fl p) (and_r l fl p); at_upper = within_100 x.ends.upper (and_l u fu q) (and_r u fu q) };
    }

-- an exponent whose power of the radius is from 1 on
record Raised (r : Enclosure) (n : EnclosureExponent) : Type 0 where
  is_sound : T n.x.ends.sound
  inside : n.at.inside ≡ true
  from : FromOne (power_of (log_of r.value) n.at.fixed)

no : (b : Bool) → T (not b) → b ≡ false
no false t = refl
no true t = absurd t

record TameT (r : Enclosure) (t : EnclosureTerm) : Type 0 where
  lambda : TameE 100 t.lambda
  q1 : TameE 100 t.q1
  q2 : TameE 100 t.q2
  power : TameE 100 t.power
  p0 : Raised r t.e0
  p1 : Raised r t.e1
  p2 : Raised r t.e2
  p3 : Raised r t.e3
  p4 : Raised r t.e4
  p5 : Raised r t.e5
  p6 : Raised r t.e6

record Tamed (r0 : Enclosure) (s : EnclosureShared) : Type 0 where
  r : TameT r0 s.r
  a : TameT r0 s.a
  d : TameE 100 s.d
  d2 : TameE 100 s.d2
  ce : TameE 100 s.ce

-- what the code asks, at a radius from 1 on
module _ (r : Enclosure) (up : (log_of r.value).negative ≡ false) where
  plain_is : (n : EnclosureExponent) → T (plain_of n) → Raised r n
  unfolding plain_of
  plain_is n t =
      let a = n.x.ends.sound in
      let b = n.at.inside in
      let c = not n.at.fixed.negative in
      let s = and_l (a && b && c) (not n.at.fixed.one) t in
      let q = and_l (a && b) c s in
      record {
        is_sound = and_l a b q;
        inside = is_true b (and_r a b q);
        from = power_from_one (log_of r.value) n.at.fixed up (no n.at.fixed.negative (and_r (a && b) c s)) (no n.at.fixed.one (and_r (a && b && c) (not n.at.fixed.one) t));
      }

  term_is : (t : EnclosureTerm) → T (tame_term t) → TameT r t
  unfolding tame_term
  term_is t h =
      let l = small_ends t.lambda in let q1 = small_ends t.q1 in let q2 = small_ends t.q2 in let s = small_ends t.power in
      let p : EnclosureExponent → Bool = λ n. plain_of n in
      let A = l && q1 && q2 && s in
      let B = p t.e0 && p t.e1 && p t.e2 && p t.e3 in
      let h5 = and_l (A && B && p t.e4 && p t.e5) (p t.e6) h in
      let h4 = and_l (A && B && p t.e4) (p t.e5) h5 in
      let h3 = and_l (A && B) (p t.e4) h4 in
      let a = and_l A B h3 in
      let a3 = and_l (l && q1 && q2) s a in
      let a2 = and_l (l && q1) q2 a3 in
      let b = and_r A B h3 in
      let b3 = and_l (p t.e0 && p t.e1 && p t.e2) (p t.e3) b in
      let b2 = and_l (p t.e0 && p t.e1) (p t.e2) b3 in
      record {
        lambda = small_tame _ (and_l l q1 a2);
        q1 = small_tame _ (and_r l q1 a2);
        q2 = small_tame _ (and_r (l && q1) q2 a3);
        power = small_tame _ (and_r (l && q1 && q2) s a);
        p0 = plain_is _ (and_l (p t.e0) (p t.e1) b2);
        p1 = plain_is _ (and_r (p t.e0) (p t.e1) b2);
        p2 = plain_is _ (and_r (p t.e0 && p t.e1) (p t.e2) b3);
        p3 = plain_is _ (and_r (p t.e0 && p t.e1 && p t.e2) (p t.e3) b);
        p4 = plain_is _ (and_r (A && B) (p t.e4) h4);
        p5 = plain_is _ (and_r (A && B && p t.e4) (p t.e5) h5);
        p6 = plain_is _ (and_r (A && B && p t.e4 && p t.e5) (p t.e6) h);
      }

  tamed : (s : EnclosureShared) → T (tame_of s) → Tamed r s
  unfolding tame_of
  tamed s t =
      let b = tame_term s.r in
      let a = tame_term s.a in
      let d = small_ends s.d in
      let d2 = small_ends s.d2 in
      let ce = small_ends s.ce in
      let t3 = and_l (b && a && d && d2) ce t in
      let t2 = and_l (b && a && d) d2 t3 in
      let t1 = and_l (b && a) d t2 in
      record {
        r = term_is _ (and_l b a t1);
        a = term_is _ (and_r b a t1);
        d = small_tame _ (and_r (b && a) d t2);
        d2 = small_tame _ (and_r (b && a && d) d2 t3);
        ce = small_tame _ (and_r (b && a && d && d2) ce t);
      }

-- l plus k
abbrev up_by : Enclosure → ℕ → Enclosure
up_by l k = add_e l (whole enclosures k)

-- ---- the laws of size on enclosures
module _ (j k : ℕ) (h : suc (j + k) < 1024) {x y : Enclosure} where
  times : TameE j x → TameE k y → TameE (suc (j + k)) (mul_e x y)
  unfolding mul_e
  times p q = record { size = mul_tame j k h x.ends y.ends p.size q.size }

module _ (k : ℕ) (h : suc (suc k) < 1024) {x y : Enclosure} where
  sum : TameE k x → TameE k y → TameE (suc (suc k)) (add_e x y)
  unfolding add_e
  sum p q = record { size = add_tame k h x.ends y.ends p.size q.size }

  difference : TameE k x → TameE k y → TameE (suc (suc k)) (sub_e x y)
  unfolding sub_e
  difference p q = record { size = sub_tame k h x.ends y.ends p.size q.size }

turned : {k : ℕ} {x : Enclosure} → TameE k x → TameE k (neg_e x)
unfolding neg_e
turned {k} {x} p = record { size = neg_tame k x.ends p.size }

wide : (j k : ℕ) → j ≤ k → {x : Enclosure} → TameE j x → TameE k x
wide j k h {x} p = record { size = widened j k h x.ends p.size }

literal : (x : Float) → T (le (neg big) x && le x big) → T (fits binary64 x) → TameE 100 (point x)
unfolding point I.point
literal x t f =
    let b = within_100 x t f in
    record { size = record { is_sound = both_true (finite x) (fits binary64 x) b.is_finite f; at_lower = b; at_upper = b } }

whole_tame : (k : ℕ) → T (le (neg big) (decimal false k 0) && le (decimal false k 0) big) → T (fits binary64 (decimal false k 0)) → {l : Enclosure} → TameE 100 l → TameE 102 (up_by l k)
whole_tame k t f p = sum 100 (lit< tt) p (literal (decimal false k 0) t f)

record Plus (l : Enclosure) : Type 0 where
  l1 : TameE 102 (up_by l 1)
  l2 : TameE 102 (up_by l 2)
  l3 : TameE 102 (up_by l 3)
  l4 : TameE 102 (up_by l 4)
  l5 : TameE 102 (up_by l 5)
  l6 : TameE 102 (up_by l 6)

plus_tame : {l : Enclosure} → TameE 100 l → Plus l
unfolding decimal of_bits neg le fits
plus_tame p = record { l1 = whole_tame 1 tt tt p; l2 = whole_tame 2 tt tt p; l3 = whole_tame 3 tt tt p; l4 = whole_tame 4 tt tt p; l5 = whole_tame 5 tt tt p; l6 = whole_tame 6 tt tt p }

-- 1 / x and its factors
module _ {x s : Enclosure} (p : TameE 1 x) (q : TameE 100 s) where
  no_factor : TameE 102 (mul_e x s)
  no_factor = times 1 100 (lit< tt) p q

  module _ {a : Enclosure} (i : TameE 100 a) where
    one_factor : TameE 203 (mul_e (mul_e x a) s)
    one_factor = times 102 100 (lit< tt) (times 1 100 (lit< tt) p i) q

    module _ {b : Enclosure} (j : TameE 102 b) where
      two_factors : TameE 306 (mul_e (mul_e (mul_e x a) b) s)
      two_factors = times 205 100 (lit< tt) (times 102 102 (lit< tt) (times 1 100 (lit< tt) p i) j) q

      three_factors : {c : Enclosure} → TameE 102 c → TameE 409 (mul_e (mul_e (mul_e (mul_e x a) b) c) s)
      three_factors k = times 308 100 (lit< tt) (times 205 102 (lit< tt) (times 102 102 (lit< tt) (times 1 100 (lit< tt) p i) j) k) q

record Sizes (a b c : ℕ) (v : PotentialIn Enclosure) : Type 0 where
  u : TameE a v.u
  u_r : TameE b v.u_r
  u_rr : TameE c v.u_rr

one_is : decimal false 1 0 ≡ top 0
unfolding decimal of_bits
one_is = refl

-- x after a number that is sound where x is
and_known : (a b : Bool) → (T b → T a) → (a && b) ≡ b
and_known true b h = refl
and_known false true h = absurd (h tt)
and_known false false h = refl

after_known : (u x : Enclosure) → (T x.ends.sound → T u.ends.sound) → after_e u x ≡ x
unfolding after_e after_i
after_known u x h = ap (λ (g : Bool). record { value = x.value; ends = record { lower = x.ends.lower; upper = x.ends.upper; sound = g } }) (and_known u.ends.sound x.ends.sound h)

-- what is after a number is sound where both are
after_both : (u x : Enclosure) → T u.ends.sound → T x.ends.sound → T (after_e u x).ends.sound
unfolding after_e after_i
after_both u x p q = both_true u.ends.sound x.ends.sound p q

before : (u x : Enclosure) → T (after_e u x).ends.sound → T x.ends.sound
unfolding after_e after_i
before u x t = and_r u.ends.sound x.ends.sound t

added : (x y : Enclosure) → T (add_e x y).ends.sound → T x.ends.sound
unfolding add_e
added x y t = and_l x.ends.sound y.ends.sound (add_sound x.ends y.ends t)

multiplied : (x y : Enclosure) → T (mul_e x y).ends.sound → T x.ends.sound
unfolding mul_e
multiplied x y t = and_l x.ends.sound y.ends.sound (mul_sound x.ends y.ends t)

-- ---- an exponent that stands for a number
none : {S : Type 0} (x y : S) (n : ℕ) → held x ≡ refused n → x ≡ y
none x y n h = cc

never : {S : Type 0} (x : S) (n : ℕ) → refused n ≡ held x → {a b : Bool} → a ≡ b
never x n h = cc

both_tests : (x y u : Bool) (v : Enclosure) → x ≡ true → y ≡ u → cond (x && y) (held v) (refused 6) ≡ cond u (held v) (refused 6)
both_tests x y u v p q = rw (p, q)

module _ (b : EnclosureBase) (n : EnclosureExponent) (e : Enclosure) (base : b.base.inside ≡ true) (is : enclosure_power_by b n ≡ enclosure_power b e) where
  abbrev at_number : Enclosure
  at_number = after_e b.x (after_e e (point (power_of b.base.log (exponent_of e.value))))

  power_tested : (t : Bool) → exponent_inside e.value ≡ t → enclosure_power b e ≡ cond t (held at_number) (refused 6)
  unfolding enclosure_power float_power answered₂ demand ◌>>=◌
  power_tested true q = rw (base, q)
  power_tested false q = rw (base, q)

  by_tests : (u t : Bool) → n.at.inside ≡ u → exponent_inside e.value ≡ t → cond u (held (enclosure_raised b n)) (refused 6) ≡ cond t (held at_number) (refused 6)
  by_tests u t i q = sym (enclosure_power_is b n ∙ both_tests b.base.inside n.at.inside u (enclosure_raised b n) base i) ∙ is ∙ power_tested t q

  raised_is : n.at.inside ≡ true → enclosure_raised b n ≡ at_number
  raised_is i = by (exponent_inside e.value) refl
    where
      by : (t : Bool) → exponent_inside e.value ≡ t → enclosure_raised b n ≡ at_number
      by true q = held_inj _ _ (by_tests true true i q)
      by false q = none _ _ 6 (by_tests true false i q)

  stands_inside : exponent_inside e.value ≡ true → n.at.inside ≡ true
  stands_inside q = by n.at.inside refl
    where
      by : (u : Bool) → n.at.inside ≡ u → n.at.inside ≡ true
      by true i = i
      by false i = never _ 6 (by_tests false true i q)

-- ---- at a radius
module _ {p : PairIn Enclosure} {s : EnclosureShared} (h : EnclosureSharing p s) (r : Enclosure) (z : Tamed r s) (base : base_inside r.value ≡ true) where
  abbrev b : EnclosureBase
  b = record { x = r; base = float_base_of r.value }

  abbrev power : EnclosureExponent → Enclosure
  power n = enclosure_raised b n

  abbrev v₀ : PotentialIn Enclosure
  v₀ = W.v₀ (λ b. b.base.inside) enclosure_raised enclosure_power_is h (enclosure_is r) base

  abbrev first_at : PotentialIn Enclosure → PotentialIn Enclosure
  first_at = W.first_at (λ b. b.base.inside) enclosure_raised enclosure_power_is h (enclosure_is r) base

  abbrev second_at : PotentialIn Enclosure → PotentialIn Enclosure
  second_at = W.second_at (λ b. b.base.inside) enclosure_raised enclosure_power_is h (enclosure_is r) base

  abbrev v₁ : PotentialIn Enclosure
  v₁ = cond (first_order p.order) (first_at v₀) v₀

  abbrev v₂ : PotentialIn Enclosure
  v₂ = cond (second_order p.order) (second_at v₁) v₁

  inside : s.inside ≡ true
  unfolding exponents_inside
  inside = rw (h.inside, z.r.p0.inside, z.r.p1.inside, z.r.p2.inside, z.r.p3.inside, z.r.p4.inside, z.r.p5.inside, z.r.p6.inside, z.a.p0.inside, z.a.p1.inside, z.a.p2.inside, z.a.p3.inside, z.a.p4.inside, z.a.p5.inside, z.a.p6.inside) (wanted (first_order s.order) (second_order s.order))
    where
      wanted : (first second : Bool) → (cond first true true && cond second true true) ≡ true
      wanted true true = refl
      wanted true false = refl
      wanted false true = refl
      wanted false false = refl

  potential_held : potential enclosures (calls enclosures port) p r ≡ held (after_shared enclosures (calls enclosures port) p (scaled enclosures (mul_e p.c p.epsilon_k) v₂))
  potential_held = potential_tested (λ b. b.base.inside) enclosure_raised enclosure_power_is h (enclosure_is r) base true inside

  -- ---- the pair's numbers
  lr : TameE 100 p.lr
  lr = rw h.r.lambda at z.r.lambda

  la : TameE 100 p.la
  la = rw h.a.lambda at z.a.lambda

  q1r : TameE 100 (q1 enclosures p.lr)
  q1r = rw h.r.q1 at z.r.q1

  q1a : TameE 100 (q1 enclosures p.la)
  q1a = rw h.a.q1 at z.a.q1

  q2r : TameE 100 (q2 enclosures p.lr)
  q2r = rw h.r.q2 at z.r.q2

  q2a : TameE 100 (q2 enclosures p.la)
  q2a = rw h.a.q2 at z.a.q2

  d : TameE 100 (quantum_d enclosures (calls enclosures port) p.mass p.temperature)
  d = rw h.d at z.d

  d2 : TameE 100 (pow_e (quantum_d enclosures (calls enclosures port) p.mass p.temperature) 2)
  d2 = rw h.d2 at z.d2

  ce : TameE 100 (mul_e p.c p.epsilon_k)
  ce = rw h.ce at z.ce

  abbrev R : Plus p.lr
  R = plus_tame lr

  abbrev A : Plus p.la
  A = plus_tame la

  -- ---- sizes where the radius is sound
  module _ (held-r : T r.ends.sound) where
    recip_size : (n : EnclosureExponent) → Raised r n → TameE 1 (recip enclosures (power n))
    unfolding div_e after_e point after_i I.point
    recip_size n k =
        let y = power_of (log_of r.value) n.at.fixed in
        let f = k.from in
        let g = finite y && fits binary64 y in
        let t : T (r.ends.sound && (n.x.ends.sound && g)) = both_true r.ends.sound (n.x.ends.sound && g) held-r (both_true n.x.ends.sound g k.is_sound (both_true (finite y) (fits binary64 y) f.is_finite f.is_fitting)) in
        record { size = subst (λ (o : Float). Tame 1 (div_i (I.point o) (power n).ends)) (sym one_is) (recip_tame (power n).ends t f f) }

    mie_sizes : Sizes 104 205 308 v₀
    mie_sizes =
        let r0 = recip_size s.r.e0 z.r.p0 in
        let a0 = recip_size s.a.e0 z.a.p0 in
        let r1 = recip_size s.r.e1 z.r.p1 in
        let a1 = recip_size s.a.e1 z.a.p1 in
        let r2 = recip_size s.r.e2 z.r.p2 in
        let a2 = recip_size s.a.e2 z.a.p2 in
        record {
          u = difference 102 (lit< tt) (no_factor r0 z.r.power) (no_factor a0 z.a.power);
          u_r = sum 203 (lit< tt) (one_factor (turned r1) z.r.power lr) (one_factor a1 z.a.power la);
          u_rr = difference 306 (lit< tt) (two_factors r2 z.r.power lr R.l1) (two_factors a2 z.a.power la A.l1);
        }

    first_sizes : (v : PotentialIn Enclosure) → Sizes 104 205 308 v → Sizes 308 411 514 (first_at v)
    first_sizes v x =
        let r2 = recip_size s.r.e2 z.r.p2 in
        let a2 = recip_size s.a.e2 z.a.p2 in
        let r3 = recip_size s.r.e3 z.r.p3 in
        let a3 = recip_size s.a.e3 z.a.p3 in
        let r4 = recip_size s.r.e4 z.r.p4 in
        let a4 = recip_size s.a.e4 z.a.p4 in
        record {
          u = sum 306 (lit< tt) (wide 104 306 (lit≤ tt) x.u) (times 100 205 (lit< tt) d (difference 203 (lit< tt) (one_factor r2 z.r.power q1r) (one_factor a2 z.a.power q1a)));
          u_r = sum 409 (lit< tt) (wide 205 409 (lit≤ tt) x.u_r) (times 100 308 (lit< tt) d (sum 306 (lit< tt) (two_factors r3 z.r.power (turned q1r) R.l2) (two_factors a3 z.a.power q1a A.l2)));
          u_rr = sum 512 (lit< tt) (wide 308 512 (lit≤ tt) x.u_rr) (times 100 411 (lit< tt) d (difference 409 (lit< tt) (three_factors r4 z.r.power q1r R.l2 R.l3) (three_factors a4 z.a.power q1a A.l2 A.l3)));
        }

    second_sizes : (v : PotentialIn Enclosure) → Sizes 308 411 514 v → Sizes 310 413 516 (second_at v)
    second_sizes v x =
        let r4 = recip_size s.r.e4 z.r.p4 in
        let a4 = recip_size s.a.e4 z.a.p4 in
        let r5 = recip_size s.r.e5 z.r.p5 in
        let a5 = recip_size s.a.e5 z.a.p5 in
        let r6 = recip_size s.r.e6 z.r.p6 in
        let a6 = recip_size s.a.e6 z.a.p6 in
        record {
          u = sum 308 (lit< tt) x.u (wide 306 308 (lit≤ tt) (times 100 205 (lit< tt) d2 (difference 203 (lit< tt) (one_factor r4 z.r.power q2r) (one_factor a4 z.a.power q2a))));
          u_r = sum 411 (lit< tt) x.u_r (wide 409 411 (lit≤ tt) (times 100 308 (lit< tt) d2 (sum 306 (lit< tt) (two_factors (turned r5) z.r.power q2r R.l4) (two_factors a5 z.a.power q2a A.l4))));
          u_rr = sum 514 (lit< tt) x.u_rr (wide 512 514 (lit≤ tt) (times 100 411 (lit< tt) d2 (difference 409 (lit< tt) (three_factors r6 z.r.power q2r R.l4 R.l5) (three_factors a6 z.a.power q2a A.l4 A.l5))));
        }

    -- with or without an order
    sizes₁ : (t : Bool) → Sizes 308 411 514 (cond t (first_at v₀) v₀)
    sizes₁ true = first_sizes v₀ mie_sizes
    sizes₁ false = record { u = wide 104 308 (lit≤ tt) mie_sizes.u; u_r = wide 205 411 (lit≤ tt) mie_sizes.u_r; u_rr = wide 308 514 (lit≤ tt) mie_sizes.u_rr }

    sizes₂ : (t : Bool) (v : PotentialIn Enclosure) → Sizes 308 411 514 v → Sizes 310 413 516 (cond t (second_at v) v)
    sizes₂ true v x = second_sizes v x
    sizes₂ false v x = record { u = wide 308 310 (lit≤ tt) x.u; u_r = wide 411 413 (lit≤ tt) x.u_r; u_rr = wide 514 516 (lit≤ tt) x.u_rr }

    sizes : Sizes 310 413 516 v₂
    sizes = sizes₂ (second_order p.order) v₁ (sizes₁ (first_order p.order))

  -- ---- a sound u had a sound radius
  from₀ : T v₀.u.ends.sound → T r.ends.sound
  unfolding sub_e mul_e div_e after_e after_i
  from₀ t =
      let a = mul_e (recip enclosures (power s.r.e0)) s.r.power in
      let c = mul_e (recip enclosures (power s.a.e0)) s.a.power in
      let i = and_l a.ends.sound c.ends.sound (sub_sound a.ends c.ends t) in
      let x = power s.r.e0 in
      let one = whole enclosures 1 in
      let j = multiplied (recip enclosures x) s.r.power i in
      and_l r.ends.sound _ (and_r one.ends.sound x.ends.sound (div_sound one.ends x.ends j))

  from₁ : (t : Bool) → T (cond t (first_at v₀) v₀).u.ends.sound → T v₀.u.ends.sound
  from₁ true g = added _ _ g
  from₁ false g = g

  from₂ : (t : Bool) (v : PotentialIn Enclosure) → T (cond t (second_at v) v).u.ends.sound → T v.u.ends.sound
  from₂ true v g = added _ _ g
  from₂ false v g = g

  from : T v₂.u.ends.sound → T r.ends.sound
  from g = from₀ (from₁ (first_order p.order) (from₂ (second_order p.order) v₁ g))

  -- u and its factors
  abbrev last : Enclosure
  last = (after_shared enclosures (calls enclosures port) p (scaled enclosures (mul_e p.c p.epsilon_k) v₂)).u

  worked : T last.ends.sound → T r.ends.sound
  unfolding after_shared scaled
  worked t = from (multiplied v₂.u (mul_e p.c p.epsilon_k) (before _ _ (before _ _ (before _ _ (before _ _ (before _ _ t))))))

  held_alone : u_after (potential enclosures (calls enclosures port) p r) ≡ alone (potential enclosures (calls enclosures port) p r)
  unfolding u_after after_shared scaled ◌>>=◌
  held_alone =
      let ur = mul_e v₂.u_r (mul_e p.c p.epsilon_k) in
      let urr = mul_e v₂.u_rr (mul_e p.c p.epsilon_k) in
      rw potential_held (ap held (ap (after_e ur) (after_known urr last (λ t. (times 516 100 (lit< tt) (sizes (worked t)).u_rr ce).size.is_sound)) ∙ after_known ur last (λ t. (times 413 100 (lit< tt) (sizes (worked t)).u_r ce).size.is_sound)))

  -- ---- u alone has the value and the ends of u by the radius' logarithm, and the radius' flag
  abbrev L : Log
  L = log_of r.value

  at_power : (n : EnclosureExponent) (e : Enclosure) → Stands enclosure_power enclosure_power_by n e → n.at.inside ≡ true → Same (power_point L e.value) (power n)
  unfolding after_e after_i
  at_power n e k i = record { is = ap sound_of (sym (raised_is b n e base (k b) i)) }

  at_recip : (n : EnclosureExponent) (e : Enclosure) → Stands enclosure_power enclosure_power_by n e → n.at.inside ≡ true → Same (recip enclosures (power_point L e.value)) (recip enclosures (power n))
  at_recip n e k i = div_same same (at_power n e k i)

  same_mie : Same (u_mie enclosures (power_point L p.lr.value) s.r.power (power_point L p.la.value) s.a.power) v₀.u
  same_mie = sub_same (mul_same (at_recip _ p.lr h.r.e0 z.r.p0.inside) same) (mul_same (at_recip _ p.la h.a.e0 z.a.p0.inside) same)

  same_line : (n m : EnclosureExponent) (er ea : Enclosure) → Stands enclosure_power enclosure_power_by n er → Stands enclosure_power enclosure_power_by m ea → n.at.inside ≡ true → m.at.inside ≡ true → (c qr qa u v : Enclosure) → Same u v
      → Same (add_e u (mul_e c (u_quantum enclosures qr qa (power_point L er.value) s.r.power (power_point L ea.value) s.a.power))) (add_e v (mul_e c (u_quantum enclosures qr qa (power n) s.r.power (power m) s.a.power)))
  same_line n m er ea k l i j c qr qa u v q = add_same q (mul_same same (sub_same (mul_same (mul_same (at_recip n er k i) same) same) (mul_same (mul_same (at_recip m ea l j) same) same)))

  same_first : Same (add_e (u_mie enclosures (power_point L p.lr.value) s.r.power (power_point L p.la.value) s.a.power) (mul_e (quantum_d enclosures (calls enclosures port) p.mass p.temperature) (u_quantum enclosures (q1 enclosures p.lr) (q1 enclosures p.la) (power_point L (up_by p.lr 2).value) s.r.power (power_point L (up_by p.la 2).value) s.a.power))) (first_at v₀).u
  same_first = same_line _ _ (up_by p.lr 2) (up_by p.la 2) h.r.e2 h.a.e2 z.r.p2.inside z.a.p2.inside _ _ _ _ _ same_mie

  same_u : (i j : Bool) → first_order p.order ≡ i → second_order p.order ≡ j → Same (u_alone s L) (mul_e v₂.u (mul_e p.c p.epsilon_k))
  unfolding u_alone add_e point
  same_u false j e f = rw (h.order, h.r.lambda, h.a.lambda, h.r.q1, h.a.q1, h.r.q2, h.a.q2, h.d, h.d2, h.ce, e, not_first p.order e) (mul_same same_mie same)
  same_u true false e f = rw (h.order, h.r.lambda, h.a.lambda, h.r.q1, h.a.q1, h.r.q2, h.a.q2, h.d, h.d2, h.ce, e, f) (mul_same same_first same)
  same_u true true e f = rw (h.order, h.r.lambda, h.a.lambda, h.r.q1, h.a.q1, h.r.q2, h.a.q2, h.d, h.d2, h.ce, e, f) (mul_same (same_line _ _ (up_by p.lr 4) (up_by p.la 4) h.r.e4 h.a.e4 z.r.p4.inside z.a.p4.inside _ _ _ _ _ same_first) same)

  known : T r.ends.sound → T last.ends.sound
  unfolding after_shared scaled
  known t = after_both _ _ q1r.size.is_sound (after_both _ _ q1a.size.is_sound (after_both _ _ q2r.size.is_sound (after_both _ _ q2a.size.is_sound (after_both _ _ d.size.is_sound (times 310 100 (lit< tt) (sizes t).u ce).size.is_sound))))

  last_same : Same last (after_e r (sound_of (u_alone s L)))
  unfolding after_shared scaled after_e after_i
  last_same = record { is = sym (same_u (first_order p.order) (second_order p.order) refl refl).is }

  last_is : last ≡ after_e r (sound_of (u_alone s L))
  unfolding after_e after_i
  last_is = one_flag _ _ last_same (flags last.ends.sound (r.ends.sound && true) (λ t. both_true r.ends.sound true (worked t) tt) (λ t. known (and_l r.ends.sound true t)))

  held_sound : u_after (potential enclosures (calls enclosures port) p r) ≡ held (after_e r (sound_of (u_alone s L)))
  unfolding ◌>>=◌
  held_sound = held_alone ∙ rw potential_held (ap held last_is)

-- ---- a pair that is tame by its numbers
record Number (y : Float) : Type 0 where
  inside : exponent_inside y ≡ true
  from_zero : (exponent_of y).negative ≡ false
  not_one : (exponent_of y).one ≡ false

number_is : (y : Float) → T (plain_number y) → Number y
unfolding plain_number
number_is y t =
    let a = exponent_inside y in
    let b = lt one64 y in
    let c = fits binary64 y in
    let s = and_l (a && b) c t in
    let k = above_one y (and_l a b s) (and_r (a && b) c t) (and_r a b s) in
    record { inside = is_true a (and_l a b s); from_zero = k.0; not_one = k.1 }

-- the exponent that the code works of such a number is plain: `tame_of` asks no more of a pair than `tame_numbers` does
pub number_plain : (y : Enclosure) → T y.ends.sound → T (plain_number y.value) → T (plain_of (record { x = y; at = float_exponent_of y.value }))
unfolding plain_of
number_plain y s t =
    let k = number_is y.value t in
    let g = y.ends.sound in
    rw (k.inside, k.from_zero, k.not_one) (both_true (g && true && true) true (both_true (g && true) true (both_true g true s tt) tt) tt)

record Numbers (l : Enclosure) : Type 0 where
  p0 : Number l.value
  p1 : Number (up_by l 1).value
  p2 : Number (up_by l 2).value
  p3 : Number (up_by l 3).value
  p4 : Number (up_by l 4).value
  p5 : Number (up_by l 5).value
  p6 : Number (up_by l 6).value

numbers_are : (l : Enclosure) → T (plain_from l.value) → Numbers l
unfolding plain_from add_e point
numbers_are l t =
    let at : ℕ → Bool = λ k. plain_number (add binary64 l.value (decimal false k 0)) in
    let a0 = plain_number l.value in
    let s5 = and_l (a0 && at 1 && at 2 && at 3 && at 4 && at 5) (at 6) t in
    let s4 = and_l (a0 && at 1 && at 2 && at 3 && at 4) (at 5) s5 in
    let s3 = and_l (a0 && at 1 && at 2 && at 3) (at 4) s4 in
    let s2 = and_l (a0 && at 1 && at 2) (at 3) s3 in
    let s1 = and_l (a0 && at 1) (at 2) s2 in
    record {
      p0 = number_is _ (and_l a0 (at 1) s1);
      p1 = number_is _ (and_r a0 (at 1) s1);
      p2 = number_is _ (and_r (a0 && at 1) (at 2) s2);
      p3 = number_is _ (and_r (a0 && at 1 && at 2) (at 3) s3);
      p4 = number_is _ (and_r (a0 && at 1 && at 2 && at 3) (at 4) s4);
      p5 = number_is _ (and_r (a0 && at 1 && at 2 && at 3 && at 4) (at 5) s5);
      p6 = number_is _ (and_r (a0 && at 1 && at 2 && at 3 && at 4 && at 5) (at 6) t);
    }

module _ {p : PairIn Enclosure} {s : EnclosureShared} (h : EnclosureSharing p s) (r : Enclosure) (base : base_inside r.value ≡ true) (up : (log_of r.value).negative ≡ false) where
  abbrev at_r : Enclosure → EnclosureBase
  at_r x = record { x = x; base = float_base_of r.value }

  number_raised : (n : EnclosureExponent) (e : Enclosure) → Stands enclosure_power enclosure_power_by n e → T e.ends.sound → Number e.value → Raised r n
  unfolding after_e after_i point I.point
  number_raised n e k t v =
      let i = stands_inside (at_r e) n e base (k (at_r e)) v.inside in
      let q = raised_is (at_r e) n e base (k (at_r e)) i in
      let f = power_from_one (log_of r.value) (exponent_of e.value) up v.from_zero v.not_one in
      let y = power_of (log_of r.value) n.at.fixed in
      let y' = power_of (log_of r.value) (exponent_of e.value) in
      let g : T (e.ends.sound && (e.ends.sound && (finite y' && fits binary64 y'))) = both_true e.ends.sound _ t (both_true e.ends.sound _ t (both_true (finite y') (fits binary64 y') f.is_finite f.is_fitting)) in
      let g' : T (e.ends.sound && (n.x.ends.sound && (finite y && fits binary64 y))) = subst (λ (x : Enclosure). T x.ends.sound) (sym q) g in
      record {
        is_sound = and_l n.x.ends.sound (finite y && fits binary64 y) (and_r e.ends.sound (n.x.ends.sound && (finite y && fits binary64 y)) g');
        inside = i;
        from = subst (λ (x : Enclosure). FromOne x.value) (sym q) f;
      }

  tame_is : T (tame_numbers s) → Tamed r s
  unfolding tame_numbers
  tame_is t =
      let i : Enclosure → Bool = λ x. small_ends x in
      let lr = i s.r.lambda in let la = i s.a.lambda in let sr = i s.r.power in let sa = i s.a.power in
      let q1r = i s.r.q1 in let q1a = i s.a.q1 in let q2r = i s.r.q2 in let q2a = i s.a.q2 in
      let d = i s.d in let d2 = i s.d2 in let ce = i s.ce in
      let A = lr && la && sr && sa in
      let B = q1r && q1a && q2r && q2a in
      let C = d && d2 && ce in
      let R = plain_from s.r.lambda.value in
      let L = plain_from s.a.lambda.value in
      let t3 = and_l (A && B && C && R) L t in
      let t2 = and_l (A && B && C) R t3 in
      let t1 = and_l (A && B) C t2 in
      let a = and_l A B t1 in
      let b = and_r A B t1 in
      let c = and_r (A && B) C t2 in
      let r-small = small_tame _ (and_l lr la (and_l (lr && la) sr (and_l (lr && la && sr) sa a))) in
      let a-small = small_tame _ (and_r lr la (and_l (lr && la) sr (and_l (lr && la && sr) sa a))) in
      let lr-tame : TameE 100 p.lr = rw h.r.lambda at r-small in
      let la-tame : TameE 100 p.la = rw h.a.lambda at a-small in
      let u : Numbers p.lr = rw h.r.lambda at (numbers_are s.r.lambda (and_r (A && B && C) R t3)) in
      let v : Numbers p.la = rw h.a.lambda at (numbers_are s.a.lambda (and_r (A && B && C && R) L t)) in
      let x = plus_tame lr-tame in
      let y = plus_tame la-tame in
      record {
        r = record {
          lambda = r-small;
          q1 = small_tame _ (and_l q1r q1a (and_l (q1r && q1a) q2r (and_l (q1r && q1a && q2r) q2a b)));
          q2 = small_tame _ (and_r (q1r && q1a) q2r (and_l (q1r && q1a && q2r) q2a b));
          power = small_tame _ (and_r (lr && la) sr (and_l (lr && la && sr) sa a));
          p0 = number_raised _ p.lr h.r.e0 lr-tame.size.is_sound u.p0;
          p1 = number_raised _ (up_by p.lr 1) h.r.e1 x.l1.size.is_sound u.p1;
          p2 = number_raised _ (up_by p.lr 2) h.r.e2 x.l2.size.is_sound u.p2;
          p3 = number_raised _ (up_by p.lr 3) h.r.e3 x.l3.size.is_sound u.p3;
          p4 = number_raised _ (up_by p.lr 4) h.r.e4 x.l4.size.is_sound u.p4;
          p5 = number_raised _ (up_by p.lr 5) h.r.e5 x.l5.size.is_sound u.p5;
          p6 = number_raised _ (up_by p.lr 6) h.r.e6 x.l6.size.is_sound u.p6;
        };
        a = record {
          lambda = a-small;
          q1 = small_tame _ (and_r q1r q1a (and_l (q1r && q1a) q2r (and_l (q1r && q1a && q2r) q2a b)));
          q2 = small_tame _ (and_r (q1r && q1a && q2r) q2a b);
          power = small_tame _ (and_r (lr && la && sr) sa a);
          p0 = number_raised _ p.la h.a.e0 la-tame.size.is_sound v.p0;
          p1 = number_raised _ (up_by p.la 1) h.a.e1 y.l1.size.is_sound v.p1;
          p2 = number_raised _ (up_by p.la 2) h.a.e2 y.l2.size.is_sound v.p2;
          p3 = number_raised _ (up_by p.la 3) h.a.e3 y.l3.size.is_sound v.p3;
          p4 = number_raised _ (up_by p.la 4) h.a.e4 y.l4.size.is_sound v.p4;
          p5 = number_raised _ (up_by p.la 5) h.a.e5 y.l5.size.is_sound v.p5;
          p6 = number_raised _ (up_by p.la 6) h.a.e6 y.l6.size.is_sound v.p6;
        };
        d = small_tame _ (and_l d d2 (and_l (d && d2) ce c));
        d2 = small_tame _ (and_r d d2 (and_l (d && d2) ce c));
        ce = small_tame _ (and_r (d && d2) ce c);
      }

  -- u after both derivatives is held, with the value and the ends of u worked alone by the radius' logarithm, and the radius' flag
  pub sound_is : T (tame_of s) → u_after (potential enclosures (calls enclosures port) p r) ≡ held (after_e r (sound_of (u_alone s (log_of r.value))))
  sound_is t = held_sound h r (tamed r up s t) base

  pub numbers_sound : T (tame_numbers s) → u_after (potential enclosures (calls enclosures port) p r) ≡ held (after_e r (sound_of (u_alone s (log_of r.value))))
  numbers_sound t = held_sound h r (tame_is t) base

-- u alone is u after both derivatives
module _ {p : PairIn Enclosure} {s : EnclosureShared} (h : EnclosureSharing p s) (r : Enclosure) where
  by_base : T (tame_of s) → T (from_one r.value) → (t : Bool) → base_inside r.value ≡ t → u_after (potential enclosures (calls enclosures port) p r) ≡ alone (potential enclosures (calls enclosures port) p r)
  unfolding u_after from_one ◌>>=◌
  by_base t from true e = held_alone h r (tamed r (upward r.value e (and_r (le one64 r.value) (fits binary64 r.value) from) (and_l (le one64 r.value) (fits binary64 r.value) from)) s t) e
  by_base t from false e = rw (base_outside (λ b. b.base.inside) enclosure_raised enclosure_power_is h (enclosure_is r) e)

  pub alone_is : T (tame_of s) → T (from_one r.value) → u_after (potential enclosures (calls enclosures port) p r) ≡ alone (potential enclosures (calls enclosures port) p r)
  alone_is t from = by_base t from (base_inside r.value) refl

  -- the code's way
  pub worked_alone : {tame from : Bool} → tame ≡ tame_of s → from ≡ from_one r.value → (tame && from) ≡ true → {a : Ans Enclosure} → a ≡ alone (potential enclosures (calls enclosures port) p r) → a ≡ u_after (potential enclosures (calls enclosures port) p r)
  worked_alone {tame = tame} {from = from} e f t q =
      let k = subst T (sym t) tt in
      q ∙ sym (alone_is (subst T e (and_l tame from k)) (subst T f (and_r tame from k)))
