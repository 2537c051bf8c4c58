-- The potential, and u alone: refused where the base or an exponent of its order is outside, else worked from powers that are not tested. Assumes nothing.
use mathlib.Core.Path.{◌≡◌, refl, sym, ap, ◌∙◌}
use mathlib.Core.Bool.{Bool, true, false, ◌&&◌, cond}
use Rattle.std.proofs.lemmas.Bool.{and_parts}
use Rattle.number.specs.Ans.{Ans, held, refused, ◌>>=◌}
use Rattle.number.specs.Arith.{Arith}
use Rattle.number.specs.Functions.{Functions}
use Rattle.saftvrqmie_potential.specs.Potential.{PairIn, PotentialIn, first_order, second_order, quantum_d, q1, q2, u_mie, ur_mie, urr_mie, u_quantum, ur_first, urr_first, ur_second, urr_second, corrected, scaled, line, mie, add_first, add_second, after_shared, potential}
use Rattle.saftvrqmie_potential.specs.Shared.{Stands, Sharing, both_inside, exponents_inside, powers_by, alone, mie_from, first_from, second_from, after_factors, finished_from, potential_from}
use Rattle.saftvrqmie_potential.specs.declared.LinePowers.{LinePowers}
use Rattle.saftvrqmie_potential.specs.declared.Shared.{Shared}
use Rattle.saftvrqmie_potential.proofs.Lines.{both, line_by, line_refused}
use Rattle.saftvrqmie_potential.proofs.Orders.{not_first}

-- ---- an answer that holds x if t, and is refused with 6 otherwise
record Tested {S : Type 0} (t : Bool) (x : S) (a : Ans S) : Type 0 where
  is : a ≡ cond t (held x) (refused 6)

tested : {S : Type 0} (t : Bool) (x : S) (a : Ans S) → a ≡ cond t (held x) (refused 6) → Tested t x a
tested t x a e = record { is = e }

then_tested : {S T : Type 0} (t u : Bool) (x : S) (y : T) (a : Ans S) (f : S → Ans T) → Tested t x a → Tested u y (f x) → Tested (t && u) y (a >>= f)
unfolding ◌>>=◌
then_tested true u x y a f p q = tested u y _ (rw p.is q.is)
then_tested false u x y a f p q = tested false y _ (rw p.is)

then_value : {S T : Type 0} (t : Bool) (x : S) (y : T) (a : Ans S) (f : S → Ans T) → Tested t x a → f x ≡ held y → Tested t y (a >>= f)
unfolding ◌>>=◌
then_value true x y a f p q = tested true y _ (rw p.is q)
then_value false x y a f p q = tested false y _ (rw p.is)

choice_tested : {S : Type 0} (b t : Bool) (x y : S) (a : Ans S) → Tested t y a → Tested (cond b t true) (cond b y x) (cond b a (held x))
choice_tested true t x y a p = p
choice_tested false t x y a p = tested true x _ refl

-- ---- two powers of one base
module _ {N : Type 0} (v w : N) where
  of_tests : (s t u : Bool) → both (cond (s && t) (held v) (refused 6)) (cond (s && u) (held w) (refused 6)) ≡ cond s (cond (t && u) (held (v, w)) (refused 6)) (refused 6)
  unfolding ◌>>=◌
  of_tests true true true = refl
  of_tests true true false = refl
  of_tests true false u = refl
  of_tests false t u = refl

module _ {A : Arith} {F : Functions A.Num} {D P B E : Type 0} {plain : P → A.Num} {power_at : B → A.Num → Ans A.Num} {power_by : B → E → Ans A.Num} {of : D → A.Num} {exponent_in : E → Bool}
    (base_in : B → Bool) (raised : B → E → A.Num) (law : (b : B) (n : E) → power_by b n ≡ cond (base_in b && exponent_in n) (held (raised b n)) (refused 6))
    {p : PairIn A.Num} {s : Shared D P E} (h : Sharing A F plain power_at power_by of exponent_in p s) {r : A.Num} {b : B} (is-b : power_at b ≡ F.powf r) where
  abbrev sr : A.Num
  sr = plain s.r.power

  abbrev sa : A.Num
  sa = plain s.a.power

  both_is : (n m : E) → both (power_by b n) (power_by b m) ≡ cond (base_in b) (cond (both_inside exponent_in n m) (held (raised b n, raised b m)) (refused 6)) (refused 6)
  both_is n m = rw (law b n, law b m) (of_tests (raised b n) (raised b m) (base_in b) (exponent_in n) (exponent_in m))

  module _ (in-b : base_in b ≡ true) where
    abbrev pub value : E → E → (A.Num → A.Num → A.Num → A.Num → A.Num) → A.Num
    value n m f = f (raised b n) sr (raised b m) sa

    made : (t : Bool) (a : A.Num × A.Num) (f : A.Num → A.Num → A.Num → A.Num → A.Num) → (cond t (held a) (refused 6) >>= λ x. held (f x.0 sr x.1 sa)) ≡ cond t (held (f a.0 sr a.1 sa)) (refused 6)
    unfolding ◌>>=◌
    made true a f = refl
    made false a f = refl

    line_tested : {n m : E} {e e' : A.Num} → Stands power_at power_by n e → Stands power_at power_by m e' → (f : A.Num → A.Num → A.Num → A.Num → A.Num) → Tested (both_inside exponent_in n m) (value n m f) (line A F p r e e' f)
    line_tested {n = n} {m = m} k k' f = tested _ _ _ (line_by h is-b k k' _ (rw in-b at (both_is n m)) f ∙ made (both_inside exponent_in n m) (raised b n, raised b m) f)

    -- three lines, and what is made of them
    lines_tested : {S : Type 0} {t t' t'' : Bool} {x y z : A.Num} {a a' a'' : Ans A.Num} (g : A.Num → A.Num → A.Num → S) → Tested t x a → Tested t' y a' → Tested t'' z a''
        → Tested (t && (t' && t'')) (g x y z) (a >>= λ u. a' >>= λ v. a'' >>= λ w. held (g u v w))
    lines_tested g p q r = then_tested _ _ _ _ _ _ p (then_tested _ _ _ _ _ _ q (then_value _ _ _ _ _ r refl))

    abbrev pub v₀ : PotentialIn A.Num
    v₀ = record { u = value s.r.e0 s.a.e0 (u_mie A); u_r = value s.r.e1 s.a.e1 (ur_mie A p.lr p.la); u_rr = value s.r.e2 s.a.e2 (urr_mie A p.lr p.la) }

    abbrev pub first_at : PotentialIn A.Num → PotentialIn A.Num
    first_at v = corrected A (quantum_d A F p.mass p.temperature) v (value s.r.e2 s.a.e2 (u_quantum A (q1 A p.lr) (q1 A p.la))) (value s.r.e3 s.a.e3 (ur_first A p.lr p.la (q1 A p.lr) (q1 A p.la))) (value s.r.e4 s.a.e4 (urr_first A p.lr p.la (q1 A p.lr) (q1 A p.la)))

    abbrev pub second_at : PotentialIn A.Num → PotentialIn A.Num
    second_at v = corrected A (A.pow (quantum_d A F p.mass p.temperature) 2) v (value s.r.e4 s.a.e4 (u_quantum A (q2 A p.lr) (q2 A p.la))) (value s.r.e5 s.a.e5 (ur_second A p.lr p.la (q2 A p.lr) (q2 A p.la))) (value s.r.e6 s.a.e6 (urr_second A p.lr p.la (q2 A p.lr) (q2 A p.la)))

    abbrev pub v₁ : PotentialIn A.Num
    v₁ = cond (first_order p.order) (first_at v₀) v₀

    abbrev pub v₂ : PotentialIn A.Num
    v₂ = cond (second_order p.order) (second_at v₁) v₁

    mie_tested : Tested (both_inside exponent_in s.r.e0 s.a.e0 && (both_inside exponent_in s.r.e1 s.a.e1 && both_inside exponent_in s.r.e2 s.a.e2)) v₀ (mie A F p r)
    unfolding mie
    mie_tested = lines_tested (λ x y z. record { u = x; u_r = y; u_rr = z }) (line_tested h.r.e0 h.a.e0 _) (line_tested h.r.e1 h.a.e1 _) (line_tested h.r.e2 h.a.e2 _)

    first_tested : (v : PotentialIn A.Num) → Tested (both_inside exponent_in s.r.e2 s.a.e2 && (both_inside exponent_in s.r.e3 s.a.e3 && both_inside exponent_in s.r.e4 s.a.e4)) (first_at v) (add_first A F p r v)
    unfolding add_first
    first_tested v = lines_tested (corrected A _ v) (line_tested h.r.e2 h.a.e2 _) (line_tested h.r.e3 h.a.e3 _) (line_tested h.r.e4 h.a.e4 _)

    second_tested : (v : PotentialIn A.Num) → Tested (both_inside exponent_in s.r.e4 s.a.e4 && (both_inside exponent_in s.r.e5 s.a.e5 && both_inside exponent_in s.r.e6 s.a.e6)) (second_at v) (add_second A F p r v)
    unfolding add_second
    second_tested v = lines_tested (corrected A _ v) (line_tested h.r.e4 h.a.e4 _) (line_tested h.r.e5 h.a.e5 _) (line_tested h.r.e6 h.a.e6 _)

    whole_tested : Tested (exponents_inside exponent_in p.order s.r s.a) (after_shared A F p (scaled A (A.mul p.c p.epsilon_k) v₂)) (potential A F p r)
    unfolding potential exponents_inside
    whole_tested =
        then_tested _ _ _ _ _ _ mie_tested
        (then_tested _ _ _ _ _ _ (choice_tested (first_order p.order) _ _ _ _ (first_tested v₀))
        (then_value _ _ _ _ _ (choice_tested (second_order p.order) _ _ _ _ (second_tested v₁)) refl))

    pub potential_tested : (t : Bool) → s.inside ≡ t → potential A F p r ≡ cond t (held (after_shared A F p (scaled A (A.mul p.c p.epsilon_k) v₂))) (refused 6)
    potential_tested t k = rw (← k, h.inside, h.order) whole_tested.is

  -- ---- the base or an exponent outside
  pub base_outside : base_in b ≡ false → potential A F p r ≡ refused 6
  unfolding potential mie ◌>>=◌
  base_outside e = rw (line_refused h is-b h.r.e0 h.a.e0 (rw e at (both_is s.r.e0 s.a.e0)))

  pub outside : (base_in b && s.inside) ≡ false → potential A F p r ≡ refused 6
  outside k = by (base_in b) refl
    where
      by : (t : Bool) → base_in b ≡ t → potential A F p r ≡ refused 6
      by true e = potential_tested e false (rw e at k)
      by false e = base_outside e

  -- ---- both inside: the potential from the powers of its lines, by orders
  module _ (in-all : (base_in b && s.inside) ≡ true) where
    in-b : base_in b ≡ true
    in-b = (and_parts _ _ in-all).0

    abbrev Powers : E → E → LinePowers D → Type 0
    Powers n m l = powers_by of l ≡ (raised b n, raised b m)

    rr : {n m : E} {l : LinePowers D} → Powers n m l → of l.rr ≡ raised b n
    rr q = ap (λ (z : A.Num × A.Num). z.0) q

    ra : {n m : E} {l : LinePowers D} → Powers n m l → of l.ra ≡ raised b m
    ra q = ap (λ (z : A.Num × A.Num). z.1) q

    potential_held : potential A F p r ≡ held (after_shared A F p (scaled A (A.mul p.c p.epsilon_k) (v₂ in-b)))
    potential_held = potential_tested in-b true (and_parts _ _ in-all).1

    alone_is : held (after_shared A F p (scaled A (A.mul p.c p.epsilon_k) (v₂ in-b))).u ≡ alone (potential A F p r)
    unfolding ◌>>=◌
    alone_is = rw potential_held

    module _ {l0 l1 l2 : LinePowers D} (q0 : Powers s.r.e0 s.a.e0 l0) (q1 : Powers s.r.e1 s.a.e1 l1) (q2 : Powers s.r.e2 s.a.e2 l2)
        {v res : PotentialIn A.Num} (is-v : v ≡ mie_from A plain of s (powers_by of l0) (powers_by of l1) (powers_by of l2)) where
      pub order_0 : first_order s.order ≡ false → res ≡ finished_from A plain of s v → held res ≡ potential A F p r
      unfolding scaled after_shared mie_from after_factors finished_from
      order_0 k is-res =
          let t = rw h.order at k in
          rw (is-res, is-v, rr q0, ra q0, rr q1, ra q1, rr q2, ra q2, after_factors, h.r.lambda, h.a.lambda, h.r.q1, h.a.q1, h.r.q2, h.a.q2, h.d, h.ce) (sym (rw (t, not_first _ t) at potential_held))

      module _ (k : first_order s.order ≡ true) {l3 l4 : LinePowers D} (q3 : Powers s.r.e3 s.a.e3 l3) (q4 : Powers s.r.e4 s.a.e4 l4) {v1 : PotentialIn A.Num} (is-v1 : v1 ≡ first_from A plain of s (powers_by of l2) (powers_by of l3) (powers_by of l4) v) where
        pub order_1 : second_order s.order ≡ false → res ≡ finished_from A plain of s v1 → held res ≡ potential A F p r
        unfolding scaled after_shared mie_from first_from after_factors finished_from
        order_1 k' is-res =
            rw (is-res, is-v1, is-v, rr q0, ra q0, rr q1, ra q1, rr q2, ra q2, rr q3, ra q3, rr q4, ra q4, after_factors, h.r.lambda, h.a.lambda, h.r.q1, h.a.q1, h.r.q2, h.a.q2, h.d, h.ce) (sym (rw (rw h.order at k, rw h.order at k') at potential_held))

        pub order_2 : second_order s.order ≡ true → {l5 l6 : LinePowers D} → Powers s.r.e5 s.a.e5 l5 → Powers s.r.e6 s.a.e6 l6 → {v2 : PotentialIn A.Num} → v2 ≡ second_from A plain of s (powers_by of l4) (powers_by of l5) (powers_by of l6) v1 → res ≡ finished_from A plain of s v2 → held res ≡ potential A F p r
        unfolding scaled after_shared mie_from first_from second_from after_factors finished_from
        order_2 k' q5 q6 is-v2 is-res =
            rw (is-res, is-v2, is-v1, is-v, rr q0, ra q0, rr q1, ra q1, rr q2, ra q2, rr q3, ra q3, rr q4, ra q4, rr q5, ra q5, rr q6, ra q6, after_factors, h.r.lambda, h.a.lambda, h.r.q1, h.a.q1, h.r.q2, h.a.q2, h.d, h.d2, h.ce) (sym (rw (rw h.order at k, rw h.order at k') at potential_held))

    -- u alone, where nothing reads its derivatives
    module _ {l0 : LinePowers D} (q0 : Powers s.r.e0 s.a.e0 l0) {u res : A.Num} (is-u : u ≡ u_mie A (of l0.rr) sr (of l0.ra) sa) where
      pub alone_0 : first_order s.order ≡ false → res ≡ after_factors A plain of s (A.mul u (plain s.ce)) → held res ≡ alone (potential A F p r)
      unfolding after_shared scaled after_factors ◌>>=◌
      alone_0 k is-res =
          let t = rw h.order at k in
          rw (is-res, is-u, rr q0, ra q0, after_factors, h.r.q1, h.a.q1, h.r.q2, h.a.q2, h.d, h.ce) (rw (t, not_first _ t) at alone_is)

      module _ (k : first_order s.order ≡ true) {l2 : LinePowers D} (q2 : Powers s.r.e2 s.a.e2 l2) {u₁ : A.Num} (is-u₁ : u₁ ≡ A.add u (A.mul (of s.d) (u_quantum A (plain s.r.q1) (plain s.a.q1) (of l2.rr) sr (of l2.ra) sa))) where
        pub alone_1 : second_order s.order ≡ false → res ≡ after_factors A plain of s (A.mul u₁ (plain s.ce)) → held res ≡ alone (potential A F p r)
        unfolding after_shared scaled after_factors ◌>>=◌
        alone_1 k' is-res =
            rw (is-res, is-u₁, is-u, rr q0, ra q0, rr q2, ra q2, after_factors, h.r.q1, h.a.q1, h.r.q2, h.a.q2, h.d, h.ce) (rw (rw h.order at k, rw h.order at k') at alone_is)

        pub alone_2 : second_order s.order ≡ true → {l4 : LinePowers D} → Powers s.r.e4 s.a.e4 l4 → {u₂ : A.Num} → u₂ ≡ A.add u₁ (A.mul (of s.d2) (u_quantum A (plain s.r.q2) (plain s.a.q2) (of l4.rr) sr (of l4.ra) sa)) → res ≡ after_factors A plain of s (A.mul u₂ (plain s.ce)) → held res ≡ alone (potential A F p r)
        unfolding after_shared scaled after_factors ◌>>=◌
        alone_2 k' q4 is-u₂ is-res =
            rw (is-res, is-u₂, is-u₁, is-u, rr q0, ra q0, rr q2, ra q2, rr q4, ra q4, after_factors, h.r.q1, h.a.q1, h.r.q2, h.a.q2, h.d, h.d2, h.ce) (rw (rw h.order at k, rw h.order at k') at alone_is)

-- ---- the potential from what is shared, whatever that is
module _ (A : Arith) {D P B E : Type 0} (plain : P → A.Num) (of : D → A.Num) (base_in : B → Bool) (raised : B → E → A.Num) (s : Shared D P E) (b : B) where
  pub from_outside : (base_in b && s.inside) ≡ false → refused 6 ≡ potential_from A plain of base_in raised s b
  unfolding potential_from
  from_outside k = rw k

  pub alone_from_outside : (base_in b && s.inside) ≡ false → refused 6 ≡ alone (potential_from A plain of base_in raised s b)
  unfolding potential_from ◌>>=◌
  alone_from_outside k = rw k

  abbrev Line : E → E → LinePowers D → Type 0
  Line n m l = powers_by of l ≡ (raised b n, raised b m)

  module _ (in-all : (base_in b && s.inside) ≡ true) where
    module _ (l0 l1 l2 : LinePowers D) (q0 : Line s.r.e0 s.a.e0 l0) (q1 : Line s.r.e1 s.a.e1 l1) (q2 : Line s.r.e2 s.a.e2 l2)
        (v res : PotentialIn A.Num) (is-v : v ≡ mie_from A plain of s (powers_by of l0) (powers_by of l1) (powers_by of l2)) where
      pub from_0 : first_order s.order ≡ false → res ≡ finished_from A plain of s v → held res ≡ potential_from A plain of base_in raised s b
      unfolding potential_from
      from_0 k is-res = rw (is-res, is-v, q0, q1, q2, in-all, k)

      module _ (k : first_order s.order ≡ true) (l3 l4 : LinePowers D) (q3 : Line s.r.e3 s.a.e3 l3) (q4 : Line s.r.e4 s.a.e4 l4) (v1 : PotentialIn A.Num) (is-v1 : v1 ≡ first_from A plain of s (powers_by of l2) (powers_by of l3) (powers_by of l4) v) where
        pub from_1 : second_order s.order ≡ false → res ≡ finished_from A plain of s v1 → held res ≡ potential_from A plain of base_in raised s b
        unfolding potential_from
        from_1 k' is-res = rw (is-res, is-v1, is-v, q0, q1, q2, q3, q4, in-all, k, k')

        pub from_2 : second_order s.order ≡ true → (l5 l6 : LinePowers D) → Line s.r.e5 s.a.e5 l5 → Line s.r.e6 s.a.e6 l6 → (v2 : PotentialIn A.Num) → v2 ≡ second_from A plain of s (powers_by of l4) (powers_by of l5) (powers_by of l6) v1 → res ≡ finished_from A plain of s v2 → held res ≡ potential_from A plain of base_in raised s b
        unfolding potential_from
        from_2 k' l5 l6 q5 q6 v2 is-v2 is-res = rw (is-res, is-v2, is-v1, is-v, q0, q1, q2, q3, q4, q5, q6, in-all, k, k')

    -- u alone
    line_rr : (n m : E) (l : LinePowers D) → Line n m l → of l.rr ≡ raised b n
    line_rr n m l q = ap (λ (z : A.Num × A.Num). z.0) q

    line_ra : (n m : E) (l : LinePowers D) → Line n m l → of l.ra ≡ raised b m
    line_ra n m l q = ap (λ (z : A.Num × A.Num). z.1) q

    module _ (l0 : LinePowers D) (q0 : Line s.r.e0 s.a.e0 l0) (u res : A.Num) (is-u : u ≡ u_mie A (of l0.rr) (plain s.r.power) (of l0.ra) (plain s.a.power)) where
      pub alone_from_0 : first_order s.order ≡ false → res ≡ after_factors A plain of s (A.mul u (plain s.ce)) → held res ≡ alone (potential_from A plain of base_in raised s b)
      unfolding potential_from finished_from mie_from scaled ◌>>=◌
      alone_from_0 k is-res = rw (is-res, is-u, line_rr _ _ l0 q0, line_ra _ _ l0 q0, in-all, k)

      module _ (k : first_order s.order ≡ true) (l2 : LinePowers D) (q2 : Line s.r.e2 s.a.e2 l2) (u₁ : A.Num) (is-u₁ : u₁ ≡ A.add u (A.mul (of s.d) (u_quantum A (plain s.r.q1) (plain s.a.q1) (of l2.rr) (plain s.r.power) (of l2.ra) (plain s.a.power)))) where
        pub alone_from_1 : second_order s.order ≡ false → res ≡ after_factors A plain of s (A.mul u₁ (plain s.ce)) → held res ≡ alone (potential_from A plain of base_in raised s b)
        unfolding potential_from finished_from mie_from first_from scaled ◌>>=◌
        alone_from_1 k' is-res = rw (is-res, is-u₁, is-u, line_rr _ _ l0 q0, line_ra _ _ l0 q0, line_rr _ _ l2 q2, line_ra _ _ l2 q2, in-all, k, k')

        pub alone_from_2 : second_order s.order ≡ true → (l4 : LinePowers D) → Line s.r.e4 s.a.e4 l4 → (u₂ : A.Num) → u₂ ≡ A.add u₁ (A.mul (of s.d2) (u_quantum A (plain s.r.q2) (plain s.a.q2) (of l4.rr) (plain s.r.power) (of l4.ra) (plain s.a.power))) → res ≡ after_factors A plain of s (A.mul u₂ (plain s.ce)) → held res ≡ alone (potential_from A plain of base_in raised s b)
        unfolding potential_from finished_from mie_from first_from second_from scaled ◌>>=◌
        alone_from_2 k' l4 q4 u₂ is-u₂ is-res = rw (is-res, is-u₂, is-u₁, is-u, line_rr _ _ l0 q0, line_ra _ _ l0 q0, line_rr _ _ l2 q2, line_ra _ _ l2 q2, line_rr _ _ l4 q4, line_ra _ _ l4 q4, in-all, k, k')
