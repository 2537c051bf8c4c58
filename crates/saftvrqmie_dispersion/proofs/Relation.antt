-- Alpha and the three perturbations keep any relation that the operations and the elementary functions keep. Assumes nothing.
use Prim.Native.Nat.{ℕ, ◌+◌, ◌*◌}
use lib.Dec.{eqb}
use lib.Ieee.{Float}
use mathlib.Core.List.{List}
use mathlib.Core.Path.{◌≡◌, refl, ap}
use Rattle.number.specs.Ans.{Ans}
use Rattle.number.specs.Arith.{Arith}
use Rattle.number.specs.Functions.{Functions}
use Rattle.number.specs.Walk.{walk}
use Rattle.number.proofs.Rel.{Rel, FunRel, Both, both_held, then_both, cond_rel, walk_rel}
use Rattle.mie_parameters.specs.Sums.{f_from}
use Rattle.mie_parameters.specs.Tables.{phi3, phi4, phi5}
use Rattle.saftvrqmie_parameters.specs.declared.FeynmanHibbsOrder.{FeynmanHibbsOrder}
use Rattle.saftvrqmie_potential.specs.Potential.{PairIn, order_number, first_order, second_order, q1, q2}
use Rattle.saftvrqmie_potential.proofs.Relation.{PairR, quantum_d_rel}
use Rattle.saftvrqmie_dispersion_terms.proofs.Relation.{combine_sutherland_and_b_rel}
use Rattle.saftvrqmie_dispersion.specs.Alpha.{ratio, dmt_of, alpha_mie, alpha_q1, alpha_q2, alpha_of, alpha, f, chi, third_order_ij}
use Rattle.saftvrqmie_dispersion.specs.Perturbation.{DispersionIn, QuantumIn, FactorsIn, dispersion_pair, k_factor, quantum1, quantum2, quantum_of, factors0, factors1, factors2, factors2_more, factors3, factors4, factors, first_mie, first_quantum, first_closed, first_order_by, second_turn, second_closed, second_order_by, combine_of, first_order_ij, second_order_ij}

-- two pairs' values, part by part; the order is one
pub record DispersionR {S T : Type 0} (R : S → T → Type 0) (p : DispersionIn S) (q : DispersionIn T) : Type 0 where
  pub la : R p.la q.la
  pub lr : R p.lr q.lr
  pub epsilon_k : R p.epsilon_k q.epsilon_k
  pub c : R p.c q.c
  pub zeta : R p.zeta q.zeta
  pub x0 : R p.x0 q.x0
  pub x0_eff : R p.x0_eff q.x0_eff
  pub dq_div_sigma_2 : R p.dq_div_sigma_2 q.dq_div_sigma_2
  pub order : p.order ≡ q.order

record QuantumR {S T : Type 0} (R : S → T → Type 0) (p : QuantumIn S) (q : QuantumIn T) : Type 0 where
  qa1 : R p.qa1 q.qa1
  qr1 : R p.qr1 q.qr1
  qa2 : R p.qa2 q.qa2
  qr2 : R p.qr2 q.qr2

record FactorsR {S T : Type 0} (R : S → T → Type 0) (p : FactorsIn S) (q : FactorsIn T) : Type 0 where
  afac : R p.afac q.afac
  rfac : R p.rfac q.rfac
  arfac : R p.arfac q.arfac

module _ (A B : Arith) (K : Rel A B) where
  open K use {R, r_add, r_sub, r_mul, r_div, r_neg, r_pow, r_lit, r_after}

  -- ---- alpha
  ratio_rel : {x y : A.Num} {x' y' : B.Num} → R x x' → R y y' → R (ratio A x y) (ratio B x' y')
  unfolding ratio
  ratio_rel p q = r_div (r_mul (r_lit _) p) q

  alpha_mie_rel : {l m x y : A.Num} {l' m' x' y' : B.Num} → R l l' → R m m' → R x x' → R y y' → R (alpha_mie A l m x y) (alpha_mie B l' m' x' y')
  unfolding alpha_mie
  alpha_mie_rel p q r s = search (r_sub, r_div, r_lit) depth 8

  alpha_q1_rel : {l s r : A.Num} {l' s' r' : B.Num} → R l l' → R s s' → R r r' → R (alpha_q1 A l s r) (alpha_q1 B l' s' r')
  unfolding alpha_q1
  alpha_q1_rel p q r = search (r_mul, r_pow) depth 8

  alpha_q2_rel : {l s r : A.Num} {l' s' r' : B.Num} → R l l' → R s s' → R r r' → R (alpha_q2 A l s r) (alpha_q2 B l' s' r')
  unfolding alpha_q2
  alpha_q2_rel p q r = search (r_add, r_sub, r_mul, r_pow, r_lit) depth 12

  pub f_rel : (phi : List Float) {a : A.Num} {a' : B.Num} → R a a' → R (f A phi a) (f B phi a')
  unfolding f f_from
  f_rel phi p = search (r_add, r_mul, r_div, r_pow, r_lit) depth 12

  pub chi_rel : {a z : A.Num} {a' z' : B.Num} → R a a' → R z z' → R (chi A a z) (chi B a' z')
  unfolding chi
  chi_rel p q = search (r_add, r_mul, r_pow, f_rel) depth 8

  pub k_factor_rel : {z : A.Num} {z' : B.Num} → R z z' → R (k_factor A z) (k_factor B z')
  unfolding k_factor
  k_factor_rel p = search (r_add, r_sub, r_mul, r_div, r_neg, r_pow, r_lit) depth 12

  module _ {p : PairIn A.Num} {q : PairIn B.Num} (P : PairR R p q) where
    alpha_of_rel : {d s x y : A.Num} {d' s' x' y' : B.Num} → R d d' → R s s' → R x x' → R y y' → R (alpha_of A p d s x y) (alpha_of B q d' s' x' y')
    unfolding alpha_of
    alpha_of_rel d s x y =
        let la = P.la in
        let lr = P.lr in
        let v = alpha_mie_rel la lr x y in
        let v₁ = cond_rel R _ _ (ap first_order P.order) (r_add v (r_mul d (r_sub (alpha_q1_rel la s x) (alpha_q1_rel lr s y)))) v in
        cond_rel R _ _ (ap second_order P.order) (r_add v₁ (r_mul (r_pow 2 d) (r_sub (alpha_q2_rel la s x) (alpha_q2_rel lr s y)))) v₁

    pub dispersion_pair_rel : {d s x z : A.Num} {d' s' x' z' : B.Num} → R d d' → R s s' → R x x' → R z z' → DispersionR R (dispersion_pair A p d s x z) (dispersion_pair B q d' s' x' z')
    unfolding dispersion_pair
    dispersion_pair_rel d s x z =
        record {
          la = P.la;
          lr = P.lr;
          epsilon_k = P.epsilon_k;
          c = P.c;
          zeta = z;
          x0 = r_mul (r_div (r_lit _) d) P.sigma;
          x0_eff = r_div s d;
          dq_div_sigma_2 = r_div x (r_pow 2 P.sigma);
          order = P.order;
        }

  -- ---- the quantum contributions and the factors
  quantum1_rel : {d l : A.Num} {d' l' : B.Num} → R d d' → R l l' → R (quantum1 A d l) (quantum1 B d' l')
  unfolding quantum1 q1
  quantum1_rel p q = search (r_mul, r_sub, r_lit) depth 8

  quantum2_rel : {d l : A.Num} {d' l' : B.Num} → R d d' → R l l' → R (quantum2 A d l) (quantum2 B d' l')
  unfolding quantum2 q2
  quantum2_rel p q = search (r_mul, r_add, r_sub, r_pow, r_lit) depth 12

  factors0_rel : FactorsR R (factors0 A) (factors0 B)
  unfolding factors0
  factors0_rel = record { afac = r_lit _; rfac = r_lit _; arfac = r_mul (r_neg (r_lit _)) (r_lit _) }

  module _ {g : QuantumIn A.Num} {h : QuantumIn B.Num} (Q : QuantumR R g h) where
    twice : {x : A.Num} {u : B.Num} (n : lib.Ieee.Float) → R x u → R (A.mul x (A.lit n)) (B.mul u (B.lit n))
    twice n p = r_mul p (r_lit n)

    factors1_rel : FactorsR R (factors1 A g) (factors1 B h)
    unfolding factors1
    factors1_rel = record { afac = twice _ Q.qa1; rfac = twice _ Q.qr1; arfac = r_neg (r_add (twice _ Q.qr1) (twice _ Q.qa1)) }

    factors2_rel : FactorsR R (factors2 A g) (factors2 B h)
    unfolding factors2
    factors2_rel = record { afac = r_mul Q.qa1 Q.qa1; rfac = r_mul Q.qr1 Q.qr1; arfac = twice _ (r_mul (r_neg Q.qa1) Q.qr1) }

    factors2_more_rel : {v : FactorsIn A.Num} {w : FactorsIn B.Num} → FactorsR R v w → FactorsR R (factors2_more A g v) (factors2_more B h w)
    unfolding factors2_more
    factors2_more_rel old =
        record {
          afac = r_add old.afac (twice _ Q.qa2);
          rfac = r_add old.rfac (twice _ Q.qr2);
          arfac = r_add old.arfac (twice _ (r_neg (r_add Q.qr2 Q.qa2)));
        }

    factors3_rel : FactorsR R (factors3 A g) (factors3 B h)
    unfolding factors3
    factors3_rel =
        record {
          afac = twice _ (r_mul Q.qa2 Q.qa1);
          rfac = twice _ (r_mul Q.qr2 Q.qr1);
          arfac = twice _ (r_neg (r_add (r_mul Q.qr2 Q.qa1) (r_mul Q.qa2 Q.qr1)));
        }

    factors4_rel : FactorsR R (factors4 A g) (factors4 B h)
    unfolding factors4
    factors4_rel = record { afac = r_mul Q.qa2 Q.qa2; rfac = r_mul Q.qr2 Q.qr2; arfac = twice _ (r_mul (r_neg Q.qr2) Q.qa2) }

    factors_rel : (o o' : FeynmanHibbsOrder) → o ≡ o' → (q : ℕ) → FactorsR R (factors A g o q) (factors B h o' q)
    unfolding factors
    factors_rel o o' e q =
        cond_rel (FactorsR R) (eqb q 0) (eqb q 0) refl factors0_rel
        (cond_rel (FactorsR R) (eqb q 1) (eqb q 1) refl factors1_rel
        (cond_rel (FactorsR R) (eqb q 2) (eqb q 2) refl (cond_rel (FactorsR R) (second_order o) (second_order o') (ap second_order e) (factors2_more_rel factors2_rel) factors2_rel)
        (cond_rel (FactorsR R) (eqb q 3) (eqb q 3) refl factors3_rel factors4_rel)))

  -- ---- the perturbations
  walks : (n m : ℕ) → n ≡ m → (f : ℕ → A.Num → Ans A.Num) (g : ℕ → B.Num → Ans B.Num) {s : A.Num} {t : B.Num}
      → ((j : ℕ) (x : A.Num) (y : B.Num) → R x y → Both R (f j x) (g j y)) → R s t → Both R (walk n f s) (walk m g t)
  walks n m e f g h p = rw e (walk_rel R m f g h p)

  module _ {p : DispersionIn A.Num} {q : DispersionIn B.Num} (P : DispersionR R p q) where
    quantum_of_rel : QuantumR R (quantum_of A p) (quantum_of B q)
    unfolding quantum_of
    quantum_of_rel =
        let d = P.dq_div_sigma_2 in
        record { qa1 = quantum1_rel d P.la; qr1 = quantum1_rel d P.lr; qa2 = quantum2_rel d P.la; qr2 = quantum2_rel d P.lr }

    module _ (h : A.Num → Ans A.Num) (k : B.Num → Ans B.Num) (C : (x : A.Num) (u : B.Num) → R x u → Both R (h x) (k u)) where
      first_mie_rel : Both R (first_mie A p h) (first_mie B q k)
      unfolding first_mie
      first_mie_rel = then_both (C _ _ P.la) (λ _ _ x. then_both (C _ _ P.lr) (λ _ _ y. both_held (r_sub x y)))

      first_quantum_rel : {m a r v : A.Num} {n b s w : B.Num} → R m n → R a b → R r s → R v w → Both R (first_quantum A p h m a r v) (first_quantum B q k n b s w)
      unfolding first_quantum
      first_quantum_rel m a r v =
          then_both (C _ _ (r_add P.la m)) (λ _ _ x. then_both (C _ _ (r_add P.lr m)) (λ _ _ y.
          both_held (r_add v (r_sub (r_mul x a) (r_mul y r)))))

      first_order_by_rel : Both R (first_order_by A p h) (first_order_by B q k)
      unfolding first_order_by first_closed
      first_order_by_rel =
          let d = P.dq_div_sigma_2 in
          then_both first_mie_rel (λ _ _ v.
          then_both (cond_rel (Both R) _ _ (ap first_order P.order) (first_quantum_rel (r_lit _) (quantum1_rel d P.la) (quantum1_rel d P.lr) v) (both_held v)) (λ _ _ v₁.
          then_both (cond_rel (Both R) _ _ (ap second_order P.order) (first_quantum_rel (r_lit _) (quantum2_rel d P.la) (quantum2_rel d P.lr) v₁) (both_held v₁)) (λ _ _ v₂.
          both_held (r_after P.dq_div_sigma_2 (r_mul v₂ P.c)))))

      second_turn_rel : {g : QuantumIn A.Num} {g' : QuantumIn B.Num} → QuantumR R g g' → (n : ℕ) (x : A.Num) (u : B.Num) → R x u → Both R (second_turn A p h g n x) (second_turn B q k g' n u)
      unfolding second_turn
      second_turn_rel Q n x u v =
          let z = r_mul (r_lit _) (r_lit _) in
          let t = factors_rel Q _ _ P.order n in
          then_both (C _ _ (r_add (r_mul (r_lit _) P.la) z)) (λ _ _ a.
          then_both (C _ _ (r_add (r_mul (r_lit _) P.lr) z)) (λ _ _ r.
          then_both (C _ _ (r_add (r_add P.la P.lr) z)) (λ _ _ m.
          both_held (r_add v (r_add (r_add (r_mul a t.afac) (r_mul m t.arfac)) (r_mul r t.rfac))))))

      second_order_by_rel : Both R (second_order_by A p h) (second_order_by B q k)
      unfolding second_order_by second_closed
      second_order_by_rel =
          let Q = quantum_of_rel in
          then_both (walks _ _ (ap (λ (o : FeynmanHibbsOrder). order_number o * 2 + 1) P.order) _ _ (second_turn_rel Q) (r_lit _)) (λ _ _ v.
          both_held (r_after Q.qa1 (r_after Q.qr1 (r_after Q.qa2 (r_after Q.qr2 (r_mul (r_mul (r_mul v (r_lit _)) P.epsilon_k) (r_pow 2 P.c)))))))

  module _ (F : Functions A.Num) (G : Functions B.Num) (H : FunRel R F G) where
    open H use {r_exp, r_powf}

    pub alpha_rel : {p : PairIn A.Num} {q : PairIn B.Num} {s e : A.Num} {s' e' : B.Num} → PairR R p q → R s s' → R e e' → Both R (alpha A F p s e) (alpha B G q s' e')
    unfolding alpha dmt_of
    alpha_rel P s e =
        let t = ratio_rel P.sigma s in
        let d = r_div (quantum_d_rel A B K F G H P.mass P.temperature) (r_pow 2 P.sigma) in
        then_both (r_powf t P.la) (λ _ _ x. then_both (r_powf t P.lr) (λ _ _ y.
        both_held (r_after d (r_mul (alpha_of_rel P d t x y) (r_mul (ratio_rel P.epsilon_k e) P.c)))))

    pub third_order_ij_rel : {e a z : A.Num} {e' a' z' : B.Num} → R e e' → R a a' → R z z' → Both R (third_order_ij A F e a z) (third_order_ij B G e' a' z')
    unfolding third_order_ij
    third_order_ij_rel e a z =
        then_both (r_exp (r_add (r_mul (f_rel phi4 a) z) (r_mul (f_rel phi5 a) (r_pow 2 z)))) (λ _ _ x.
        both_held (r_mul (r_mul (r_mul (r_neg (r_pow 3 e)) (f_rel phi3 a)) z) x))

    module _ {p : DispersionIn A.Num} {q : DispersionIn B.Num} (P : DispersionR R p q) where
      combine_of_rel : (x : A.Num) (u : B.Num) → R x u → Both R (combine_of A F p x) (combine_of B G q u)
      unfolding combine_of
      combine_of_rel x u l = combine_sutherland_and_b_rel A B K F G H P.epsilon_k P.zeta P.x0 P.x0_eff l

      pub first_order_ij_rel : Both R (first_order_ij A F p) (first_order_ij B G q)
      unfolding first_order_ij
      first_order_ij_rel = first_order_by_rel P _ _ combine_of_rel

      pub second_order_ij_rel : Both R (second_order_ij A F p) (second_order_ij B G q)
      unfolding second_order_ij
      second_order_ij_rel = second_order_by_rel P _ _ combine_of_rel
