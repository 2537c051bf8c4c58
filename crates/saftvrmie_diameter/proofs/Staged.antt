-- The powers of one radius share its base, ln of EPSILON is a constant, and the nodes go stage by stage: the same values and refusals. Assumes nothing.
use Prim.Native.Nat.{ℕ, ◌+◌, ◌<◌}
use native.Mathlib.Omega.{arith}
use borrow.Author.Tests.{ltb-true, ltb-false}
use lib.Count.{count_leading_zeros}
use lib.Dec.{ltb}
use lib.ListN.{get_or, length, set}
use lib.Seq.{get_or-set_same, get_or-set_other}
use lib.Ieee.{of_bits, to_bits, le}
use mathlib.Core.Path.{◌≡◌, refl, sym, ap, ◌∙◌}
use mathlib.Core.Bool.{Bool, true, false, ◌&&◌, cond}
use mathlib.Core.List.{List, [], ◌∷◌}
use Rattle.std.proofs.lemmas.Bool.{and_parts}
use Rattle.std.specs.Prelude.{Result, Ok, Err}
use Rattle.number.specs.declared.refusal.Refusal.{Refusal}
use Rattle.number.specs.Answer.{answer, answer_by}
use Rattle.number.specs.Ans.{Ans, held, refused, ◌>>=◌, demand}
use Rattle.number.specs.Arith.{Arith, floats, bits}
use Rattle.number.specs.Functions.{Functions, calls, answered}
use Rattle.number.proofs.Walk.{walk_none, walk_stop}
use Rattle.elementary.specs.Port.{port}
use Rattle.fixed_point.specs.Horner.{horner}
use Rattle.fixed_point.specs.Quotient.{quotient}
use Rattle.fixed_point.specs.Pack.{packed}
use Rattle.logarithm.specs.Logarithm.{core, multiple, far, join, signed, reduced, ln_bits, ln_of}
use Rattle.saftvrmie_diameter.specs.Diameter.{beta_u_from, beta_u_mie, node_turn, diameter_from}
use Rattle.saftvrmie_diameter.specs.Staged.{Fixed, inverse_at, node_at}
use Rattle.saftvrmie_diameter.specs.declared.Exponents.{Exponents}

-- ---- numbers that a run holds as they are
pub as_it_is : {T : Type 0} (r : Result T Refusal) → answer r ≡ answer_by (λ x. x) r
as_it_is (Ok x) = refl
as_it_is (Err r) = refl

-- ---- ln of f64::EPSILON
pub ln_epsilon : (calls floats port).ln (bits 0x3cb0_0000_0000_0000) ≡ held (bits 0xc042_0596_6f2b_4f12)
unfolding answered ◌>>=◌ ln_of ln_bits reduced signed join far multiple core quotient horner packed of_bits to_bits le count_leading_zeros
ln_epsilon = refl

-- ---- a list's first
pub first : {S : Type 0} (l : List S) → 0 < length l → S
first [] h = absurd (omega (arith, h))
first (x ∷ l) h = x

-- ---- a list that is filled place by place, whatever is read beyond it
pub filled_next : {S : Type 0} (P : ℕ → S → Type 0) (k : ℕ) (l : List S) (x : S) → k < length l → ((j : ℕ) (z : S) → j < k → P j (get_or l j z)) → P k x
    → (j : ℕ) (z : S) → j < k + 1 → P j (get_or (set l k x) j z)
filled_next P k l x q h p j z i = ways (ltb j k) refl
  where
    ways : (t : Bool) → ltb j k ≡ t → P j (get_or (set l k x) j z)
    ways true e = let b = ltb-true j k e in rw (get_or-set_other l k j x z (λ (s : j ≡ k). omega (arith, s, b))) (h j z b)
    ways false e =
        let s : j ≡ k = (let b = ltb-false j k e in omega arith) in
        rw (s, get_or-set_same l k x z q) p

-- ---- a power where its base and its exponent were tested
exponent_tested : {N : Type 0} (b e : Bool) (x : N) (a : Ans N) → a ≡ cond (b && e) (held x) (refused 6) → e ≡ true → a ≡ cond b (held x) (refused 6)
exponent_tested true e x a p q = rw q at p
exponent_tested false e x a p q = p

module _ (A : Arith) (F : Functions A.Num) (la lr c r0 : A.Num) where
  open A use {Num}

  -- ---- a node, from its two powers
  module _ (k : ℕ) (base er ea : Bool) (plr pla : Num)
      (h : F.powf (inverse_at A F r0 k) lr ≡ cond (base && er) (held plr) (refused 6))
      (g : F.powf (inverse_at A F r0 k) la ≡ cond (base && ea) (held pla) (refused 6)) where
    node_is : (er && ea) ≡ true → (u d : Num) (a : Ans Num) → u ≡ beta_u_from A plr pla c → a ≡ node_at A F r0 k base u d → node_turn A F la lr c r0 k d ≡ a
    unfolding node_turn beta_u_mie inverse_at node_at demand ◌>>=◌
    node_is e u d a i j = ways base refl (exponent_tested base er plr _ h (and_parts er ea e).0) (exponent_tested base ea pla _ g (and_parts er ea e).1) j
      where
        ways : (b : Bool) → base ≡ b → F.powf (inverse_at A F r0 k) lr ≡ cond b (held plr) (refused 6) → F.powf (inverse_at A F r0 k) la ≡ cond b (held pla) (refused 6)
            → a ≡ node_at A F r0 k b u d → node_turn A F la lr c r0 k d ≡ a
        ways true p m n l = rw (m, n, l, i)
        ways false p m n l = rw (m, l)

    node_refused : (er && ea) ≡ false → (d : Num) → node_turn A F la lr c r0 k d ≡ refused 6
    unfolding node_turn beta_u_mie inverse_at ◌>>=◌
    node_refused e d = ways base er h g e
      where
        ways : (b t : Bool) → F.powf (inverse_at A F r0 k) lr ≡ cond (b && t) (held plr) (refused 6) → F.powf (inverse_at A F r0 k) la ≡ cond (b && ea) (held pla) (refused 6)
            → (t && ea) ≡ false → node_turn A F la lr c r0 k d ≡ refused 6
        ways false t m n p = rw m
        ways true false m n p = rw m
        ways true true m n p = let e : ea ≡ false = p in rw (m, n, e)

  -- the same from the base that was worked
  module _ {B E : Type 0} (power_at : B → Num → Ans Num) (power_by : B → E → Ans Num) (base_in : B → Bool) (exponent_in : E → Bool) (raised : B → E → Num)
      (law : (b : B) (n : E) → power_by b n ≡ cond (base_in b && exponent_in n) (held (raised b n)) (refused 6))
      (e : Exponents E) (fixed : Fixed power_by power_at e la lr) (k : ℕ) (b : B) (base : power_at b ≡ F.powf (inverse_at A F r0 k)) where
    of_lr : F.powf (inverse_at A F r0 k) lr ≡ cond (base_in b && exponent_in e.lr) (held (raised b e.lr)) (refused 6)
    of_lr = sym ((fixed b).0 ∙ ap (λ f. f lr) base) ∙ law b e.lr

    of_la : F.powf (inverse_at A F r0 k) la ≡ cond (base_in b && exponent_in e.la) (held (raised b e.la)) (refused 6)
    of_la = sym ((fixed b).1 ∙ ap (λ f. f la) base) ∙ law b e.la

    pub turn_is : (exponent_in e.lr && exponent_in e.la) ≡ true → (u d : Num) (a : Ans Num) → u ≡ beta_u_from A (raised b e.lr) (raised b e.la) c → a ≡ node_at A F r0 k (base_in b) u d
        → node_turn A F la lr c r0 k d ≡ a
    turn_is = node_is k (base_in b) (exponent_in e.lr) (exponent_in e.la) (raised b e.lr) (raised b e.la) of_lr of_la

    pub turn_refused : (exponent_in e.lr && exponent_in e.la) ≡ false → (d : Num) → node_turn A F la lr c r0 k d ≡ refused 6
    turn_refused = node_refused k (base_in b) (exponent_in e.lr) (exponent_in e.la) (raised b e.lr) (raised b e.la) of_lr of_la

  -- the first node refuses, so the diameter does
  pub from_refused : (sigma : Num) → node_turn A F la lr c r0 0 r0 ≡ refused 6 → refused 6 ≡ diameter_from A F la lr c sigma r0
  unfolding diameter_from ◌>>=◌
  from_refused sigma h = rw (← walk_stop (node_turn A F la lr c r0) r0 10 0 6 r0 (omega arith) (walk_none _ _) h)
