-- Each formula of a pair and of a component keeps every relation that its operations and calls keep, in the plain arithmetic and in dual numbers. Assumes nothing.
use lib.Ieee.{Float, eq}
use mathlib.Core.Path.{ap}
use mathlib.Core.Bool.{false}
use mathlib.Core.List.{List}
use Rattle.number.specs.Ans.{Ans}
use Rattle.number.specs.Arith.{Arith, decimal}
use Rattle.number.specs.Functions.{Functions}
use Rattle.number.proofs.Rel.{Rel, FunRel, Both, both_held, then_both, cond_rel}
use Rattle.dual.specs.Dual.{DualOf, duals, plain_d}
use Rattle.dual.proofs.Relation.{Duals, plain_rel, mul_rel, duals_rel}
use Rattle.saftvrmie_dispersion.specs.Sutherland.{FluidIn, k_hs, fluid_of, c_row, zeta_eff, a1s, i_of, j_of, b_of, a1s_b_of, a1s_b}
use Rattle.mie_parameters.specs.Sums.{orders_sum, f_from}
use Rattle.saftvrmie_dispersion.specs.Terms.{PairIn, BarIn, FiveIn, OrdersIn, TermsIn, SumsIn, f, bar_of, xi_of, a3_of, x0_of, add_pure, add_pair, five, pref_of, a1_of, a2_of, term_orders_of, terms_of}
use Rattle.saftvrmie_dispersion.specs.Chain.{KIn, LinkIn, k_of, rho_dual, zeta_dual, fluid_dual, g1_of, g2_of, link_pref, add_link, g_hs, gamma_of, ln_g_mie, link_of, chain_pure}

-- ---- records, part by part
module _ {S T : Type 0} (R : S → T → Type 0) where
  pub record Pairs (x : PairIn S) (u : PairIn T) : Type 0 where
    pub sigma : R x.sigma u.sigma
    pub epsilon_k : R x.epsilon_k u.epsilon_k
    pub lr : R x.lr u.lr
    pub la : R x.la u.la
    pub c : R x.c u.c
    pub alpha : R x.alpha u.alpha

  pub record Fluids (x : FluidIn S) (u : FluidIn T) : Type 0 where
    pub segment_density : R x.segment_density u.segment_density
    pub zeta_x : R x.zeta_x u.zeta_x
    pub k_hs : R x.k_hs u.k_hs
    pub b1 : R x.b1 u.b1
    pub b2 : R x.b2 u.b2
    pub b3 : R x.b3 u.b3

  pub record Bars (x : BarIn S) (u : BarIn T) : Type 0 where
    pub zeta_x_bar : R x.zeta_x_bar u.zeta_x_bar
    pub zx5 : R x.zx5 u.zx5
    pub zx8 : R x.zx8 u.zx8

  pub record Fives (x : FiveIn S) (u : FiveIn T) : Type 0 where
    pub at_la : R x.at_la u.at_la
    pub at_lr : R x.at_lr u.at_lr
    pub at_2la : R x.at_2la u.at_2la
    pub at_lalr : R x.at_lalr u.at_lalr
    pub at_2lr : R x.at_2lr u.at_2lr

  pub record Orders (x : OrdersIn S) (u : OrdersIn T) : Type 0 where
    pub five : Fives x.five u.five
    pub a1 : R x.a1 u.a1
    pub a2 : R x.a2 u.a2

  pub record AllTerms (x : TermsIn S) (u : TermsIn T) : Type 0 where
    pub a1 : R x.a1 u.a1
    pub a2 : R x.a2 u.a2
    pub a3 : R x.a3 u.a3
    pub xi : R x.xi u.xi

  pub record AllSums (x : SumsIn S) (u : SumsIn T) : Type 0 where
    pub a1 : R x.a1 u.a1
    pub a2 : R x.a2 u.a2
    pub a3 : R x.a3 u.a3
    pub a_chain : R x.a_chain u.a_chain

  pub record Ks (x : KIn S) (u : KIn T) : Type 0 where
    pub k0 : R x.k0 u.k0
    pub k1 : R x.k1 u.k1
    pub k2 : R x.k2 u.k2
    pub k3 : R x.k3 u.k3

  pub record Links (x : LinkIn S) (u : LinkIn T) : Type 0 where
    pub m : R x.m u.m
    pub fraction : R x.fraction u.fraction
    pub t_inv : R x.t_inv u.t_inv

-- ---- the Sutherland sums
module _ (D D' : Arith) (L : Rel D D') where
  open L use {R, r_add, r_sub, r_mul, r_div, r_neg, r_pow, r_down, r_lit}

  pub k_hs_rel : {z : D.Num} {w : D'.Num} → R z w → R (k_hs D z) (k_hs D' w)
  unfolding k_hs
  k_hs_rel p =
      r_div (r_pow 4 (r_sub p (r_lit _)))
      (r_add (r_add (r_mul (r_sub (r_add p (r_pow 2 p)) (r_pow 3 p)) (r_lit _)) (r_pow 4 p)) (r_lit _))

  pub fluid_of_rel : {r z k : D.Num} {r' w k' : D'.Num} → R r r' → R z w → R k k' → Fluids R (fluid_of D r z k) (fluid_of D' r' w k')
  unfolding fluid_of
  fluid_of_rel r p k =
      record {
        segment_density = r;
        zeta_x = p;
        k_hs = k;
        b1 = r_add (r_mul (r_neg p) (r_lit _)) (r_lit _);
        b2 = r_mul (r_mul p (r_add p (r_lit _))) (r_lit _);
        b3 = r_down 3 (r_add (r_neg p) (r_lit _));
      }

module _ (A B : Arith) (K : Rel A B) where
  open K use {R, r_add, r_mul, r_lit}

  c_row_rel : (c : List Float) {x y z : A.Num} {u v w : B.Num} → R x u → R y v → R z w → R (c_row A x y z c) (c_row B u v w c)
  unfolding c_row
  c_row_rel c p q s = r_add (r_add (r_add (r_mul p (r_lit _)) (r_mul q (r_lit _))) (r_mul s (r_lit _))) (r_lit _)

module _ (A B : Arith) (K : Rel A B) (D D' : Arith) (L : Rel D D') (plain : A.Num → D.Num) (plain' : B.Num → D'.Num)
    (r-plain : (x : A.Num) (u : B.Num) → K.R x u → L.R (plain x) (plain' u)) where
  open K use {R as P, r_add as p_add, r_sub as p-sub, r_mul as p_mul, r_div as p-div, r_pow as p-pow, r_lit as p_lit}
  open L use {R, r_add, r_sub, r_mul, r_div, r_neg, r_pow, r_down, r_lit}

  pub zeta_eff_rel : {z : D.Num} {w : D'.Num} {l : A.Num} {m : B.Num} → R z w → P l m → R (zeta_eff A D plain z l) (zeta_eff B D' plain' w m)
  unfolding zeta_eff
  zeta_eff_rel p q =
      let i = p-div (p_lit _) q in
      let i2 = p_mul i i in
      let i3 = p_mul i i2 in
      r_mul p (r_add (r_mul p (r_add (r_mul p (r_add (r_mul p (r-plain _ _ (c_row_rel A B K _ i i2 i3))) (r-plain _ _ (c_row_rel A B K _ i i2 i3)))) (r-plain _ _ (c_row_rel A B K _ i i2 i3)))) (r-plain _ _ (c_row_rel A B K _ i i2 i3)))

  pub a1s_rel : {z : D.Num} {w : D'.Num} {l : A.Num} {m : B.Num} → R z w → P l m → R (a1s A D plain z l) (a1s B D' plain' w m)
  unfolding a1s
  a1s_rel p q =
      let e = r_neg (zeta_eff_rel p q) in
      r_div (r_neg (r_add (r_mul e (r_lit _)) (r_lit _))) (r_mul (r_pow 3 (r_add e (r_lit _))) (r-plain _ _ (p-sub q (p_lit _))))

  i_of_rel : {x : D.Num} {y : D'.Num} {l : A.Num} {m : B.Num} → R x y → P l m → R (i_of A D plain x l) (i_of B D' plain' y m)
  unfolding i_of
  i_of_rel p q = r_div (r_neg (r_sub p (r_lit _))) (r-plain _ _ (p-sub q (p_lit _)))

  j_of_rel : {x z : D.Num} {y w : D'.Num} {l : A.Num} {m : B.Num} → R x y → R z w → P l m → R (j_of A D plain x z l) (j_of B D' plain' y w m)
  unfolding j_of
  j_of_rel p q s =
      let three = p-sub s (p_lit _) in
      let four = p-sub s (p_lit _) in
      r_div (r_neg (r_sub (r_sub (r_mul p (r-plain _ _ three)) (r_mul q (r-plain _ _ four))) (r_lit _))) (r-plain _ _ (p_mul three four))

  b_of_rel : {w : FluidIn D.Num} {w' : FluidIn D'.Num} {y z : D.Num} {v x : D'.Num} → Fluids R w w' → R y v → R z x → R (b_of A D plain w y z) (b_of B D' plain' w' v x)
  unfolding b_of
  b_of_rel p q s = r_mul (r_sub (r_mul p.b1 q) (r_mul p.b2 s)) p.b3

  a1s_b_of_rel : {z : FluidIn D.Num} {w : FluidIn D'.Num} {l p q s : A.Num} {m u v x : B.Num} → Fluids R z w → P l m → P p u → P q v → P s x → R (a1s_b_of A D plain z l p q s) (a1s_b_of B D' plain' w m u v x)
  unfolding a1s_b_of
  a1s_b_of_rel w l p q s = r_mul (r-plain _ _ p) (r_add (a1s_rel w.zeta_x l) (b_of_rel w (i_of_rel (r-plain _ _ q) l) (j_of_rel (r-plain _ _ s) (r-plain _ _ q) l)))

  -- the powers of x0 are related too
  module _ (g : A.Num → Ans A.Num) (h : B.Num → Ans B.Num) (r-g : (x : A.Num) (u : B.Num) → P x u → Both P (g x) (h u)) where
    pub a1s_b_rel : {z : FluidIn D.Num} {w : FluidIn D'.Num} {l : A.Num} {m : B.Num} → Fluids R z w → P l m → Both R (a1s_b A D plain g z l) (a1s_b B D' plain' h w m)
    unfolding a1s_b
    a1s_b_rel p q =
        then_both (r-g _ _ q) (λ _ _ s. then_both (r-g _ _ (p-sub (p_lit _) q)) (λ _ _ t. then_both (r-g _ _ (p-sub (p_lit _) q)) (λ _ _ v.
        both_held (a1s_b_of_rel p q s t v))))

    five_rel : {z : FluidIn D.Num} {w : FluidIn D'.Num} {l k : A.Num} {m n : B.Num} → Fluids R z w → P l m → P k n → Both (Fives R) (five A D plain g z l k) (five B D' plain' h w m n)
    unfolding five
    five_rel p q s =
        then_both (a1s_b_rel p q) (λ _ _ t. then_both (a1s_b_rel p s) (λ _ _ u. then_both (a1s_b_rel p (p_mul (p_lit _) q)) (λ _ _ v.
        then_both (a1s_b_rel p (p_add q s)) (λ _ _ x. then_both (a1s_b_rel p (p_mul (p_lit _) s)) (λ _ _ y.
        both_held (record { at_la = t; at_lr = u; at_2la = v; at_lalr = x; at_2lr = y }))))))

  pref_of_rel : {pi d3 e c : A.Num} {pi' d3' e' c' : B.Num} {rho : D.Num} {rho' : D'.Num} → P pi pi' → R rho rho' → P d3 d3' → P e e' → P c c'
      → R (pref_of A D plain pi rho d3 e c) (pref_of B D' plain' pi' rho' d3' e' c')
  unfolding pref_of
  pref_of_rel pi p q s t = r_mul (r_mul (r_mul (r_mul (r_mul p (r-plain _ _ q)) (r-plain _ _ s)) (r_lit _)) (r-plain _ _ pi)) (r-plain _ _ t)

  a1_of_rel : {z : D.Num} {w : D'.Num} {s : FiveIn D.Num} {t : FiveIn D'.Num} → R z w → Fives R s t → R (a1_of A D plain z s) (a1_of B D' plain' w t)
  unfolding a1_of
  a1_of_rel p s = r_mul p (r_sub s.at_la s.at_lr)

  a2_of_rel : {z k : D.Num} {w k' : D'.Num} {e c : A.Num} {e' c' : B.Num} {s : FiveIn D.Num} {t : FiveIn D'.Num} → R z w → P e e' → P c c' → R k k' → Fives R s t
      → R (a2_of A D plain z e c k s) (a2_of B D' plain' w e' c' k' t)
  unfolding a2_of
  a2_of_rel p e c k s =
      r_mul (r_mul (r_mul (r_mul (r_mul p (r-plain _ _ e)) (r-plain _ _ c)) k) (r_lit _)) (r_add (r_sub s.at_2la (r_mul s.at_lalr (r_lit _))) s.at_2lr)

  module _ (F : Functions A.Num) (G : Functions B.Num) (H : FunRel P F G) where
    open H use {r_powf, r_pi}

    pub orders_of_rel : {w : FluidIn D.Num} {w' : FluidIn D'.Num} {p : PairIn A.Num} {p' : PairIn B.Num} {d : A.Num} {d' : B.Num}
        → Fluids R w w' → Pairs P p p' → P d d' → Both (Orders R) (term_orders_of A D plain F w p d) (term_orders_of B D' plain' G w' p' d')
    unfolding term_orders_of x0_of
    orders_of_rel w p d =
        then_both (five_rel _ _ (λ x u q. r_powf (p_mul (p-div (p_lit _) d) p.sigma) q) w p.la p.lr) (λ _ _ s.
        let pref = pref_of_rel r_pi w.segment_density (p-pow 3 d) p.epsilon_k p.c in
        both_held (record { five = s; a1 = a1_of_rel pref s; a2 = a2_of_rel pref p.epsilon_k p.c w.k_hs s }))

-- ---- the plain terms
module _ (A B : Arith) (K : Rel A B) where
  open K use {R, r_add, r_sub, r_mul, r_div, r_neg, r_pow, r_lit, r_val}

  f_rel : (phi : List Float) {x : A.Num} {u : B.Num} → R x u → R (f A phi x) (f B phi u)
  unfolding f f_from
  f_rel phi p =
      let p2 = r_mul p p in
      let p3 = r_mul p p2 in
      r_div (r_add (r_add (r_add (r_mul p (r_lit _)) (r_mul p2 (r_lit _))) (r_mul p3 (r_lit _))) (r_lit _))
      (r_add (r_add (r_add (r_mul p (r_lit _)) (r_mul p2 (r_lit _))) (r_mul p3 (r_lit _))) (r_lit _))

  pub bar_of_rel : {x : A.Num} {u : B.Num} → R x u → Bars R (bar_of A x) (bar_of B u)
  unfolding bar_of
  bar_of_rel p = record { zeta_x_bar = p; zx5 = r_pow 5 p; zx8 = r_pow 8 p }

  xi_of_rel : {x : BarIn A.Num} {u : BarIn B.Num} {y : A.Num} {v : B.Num} → Bars R x u → R y v → R (xi_of A x y) (xi_of B u v)
  unfolding xi_of
  xi_of_rel p q = r_add (r_add (r_mul p.zeta_x_bar (f_rel _ q)) (r_mul p.zx5 (f_rel _ q))) (r_mul p.zx8 (f_rel _ q))

  x0_of_rel : {x y : A.Num} {u v : B.Num} → R x u → R y v → R (x0_of A x y) (x0_of B u v)
  unfolding x0_of
  x0_of_rel p q = r_mul (r_div (r_lit _) p) q

  pub add_pure_rel : {x : A.Num} {u : B.Num} {t : TermsIn A.Num} {t' : TermsIn B.Num} {s : SumsIn A.Num} {s' : SumsIn B.Num}
      → R x u → AllTerms R t t' → AllSums R s s' → AllSums R (add_pure A x t s) (add_pure B u t' s')
  unfolding add_pure
  add_pure_rel p t s =
      let xx = r_mul p p in
      record {
        a1 = r_add s.a1 (r_mul t.a1 xx);
        a2 = r_add s.a2 (r_mul (r_mul t.a2 xx) (r_add t.xi (r_lit _)));
        a3 = r_add s.a3 (r_mul t.a3 xx);
        a_chain = s.a_chain;
      }

  pub add_pair_rel : {x y : A.Num} {u v : B.Num} {t : TermsIn A.Num} {t' : TermsIn B.Num} {s : SumsIn A.Num} {s' : SumsIn B.Num}
      → R x u → R y v → AllTerms R t t' → AllSums R s s' → AllSums R (add_pair A x y t s) (add_pair B u v t' s')
  unfolding add_pair
  add_pair_rel p q t s =
      let xx = r_mul p q in
      record {
        a1 = r_add s.a1 (r_mul (r_mul t.a1 xx) (r_lit _));
        a2 = r_add s.a2 (r_mul (r_mul (r_mul t.a2 xx) (r_add t.xi (r_lit _))) (r_lit _));
        a3 = r_add s.a3 (r_mul (r_mul t.a3 xx) (r_lit _));
        a_chain = s.a_chain;
      }

  pub orders_sum_rel : {s : SumsIn A.Num} {s' : SumsIn B.Num} {x : A.Num} {u : B.Num} → AllSums R s s' → R x u → R (orders_sum A x s.a1 s.a2 s.a3) (orders_sum B u s'.a1 s'.a2 s'.a3)
  unfolding orders_sum
  orders_sum_rel s p = r_add (r_add (r_mul s.a1 p) (r_mul s.a2 (r_pow 2 p))) (r_mul s.a3 (r_pow 3 p))

  add_link_rel : {s : SumsIn A.Num} {s' : SumsIn B.Num} {x : A.Num} {u : B.Num} → AllSums R s s' → R x u → AllSums R (add_link A s x) (add_link B s' u)
  unfolding add_link
  add_link_rel s p = record { a1 = s.a1; a2 = s.a2; a3 = s.a3; a_chain = r_add s.a_chain p }

  -- ---- the state with slopes
  rho_dual_rel : {x : A.Num} {u : B.Num} → R x u → Duals R (rho_dual A x) (rho_dual B u)
  unfolding rho_dual
  rho_dual_rel p = record { re = p; eps = r_lit _ }

  zeta_dual_rel : {x y : A.Num} {u v : B.Num} → R x u → R y v → Duals R (zeta_dual A x y) (zeta_dual B u v)
  unfolding zeta_dual
  zeta_dual_rel p q =
      cond_rel (Duals R) _ _ (ap (λ (z : Float). eq z (decimal false 0 0)) (r_val q)) (mul_rel A B K _ _ _ _ (rho_dual_rel q) (plain_rel A B K (r_lit _)))
      (mul_rel A B K _ _ _ _ (plain_rel A B K (r_div p q)) (rho_dual_rel q))

  pub fluid_dual_rel : {x y : A.Num} {u v : B.Num} → R x u → R y v → Fluids (Duals R) (fluid_dual A x y) (fluid_dual B u v)
  unfolding fluid_dual
  fluid_dual_rel p q =
      let z = zeta_dual_rel p q in
      fluid_of_rel (duals A) (duals B) (duals_rel A B K) (rho_dual_rel q) z (k_hs_rel (duals A) (duals B) (duals_rel A B K) z)

  -- ---- the chain
  module _ {o : OrdersIn (DualOf A.Num)} {o' : OrdersIn (DualOf B.Num)} {p : PairIn A.Num} {p' : PairIn B.Num} (ro : Orders (Duals R) o o') (rp : Pairs R p p') where
    g1_of_rel : {x : A.Num} {u : B.Num} → R x u → R (g1_of A o p x) (g1_of B o' p' u)
    unfolding g1_of
    g1_of_rel q =
        r_sub (r_div (r_mul ro.a1.eps (r_lit _)) q)
        (r_mul (r_sub (r_mul ro.five.at_la.re rp.la) (r_mul ro.five.at_lr.re rp.lr)) rp.c)

    g2_of_rel : {x y : A.Num} {u v : B.Num} → R x u → R y v → R (g2_of A o p x y) (g2_of B o' p' u v)
    unfolding g2_of
    g2_of_rel q k =
        let s = r_add (r_sub (r_mul ro.five.at_2lr.re rp.lr) (r_mul ro.five.at_lalr.re (r_add rp.la rp.lr))) (r_mul ro.five.at_2la.re rp.la) in
        r_sub (r_div (r_div (r_mul ro.a2.eps (r_lit _)) q) rp.epsilon_k) (r_mul (r_mul s k) (r_pow 2 rp.c))

  link_pref_rel : {x y z : A.Num} {u v w : B.Num} → R x u → R y v → R z w → R (link_pref A x y z) (link_pref B u v w)
  unfolding link_pref
  link_pref_rel p q s = r_mul (r_mul (r_mul q s) (r_lit _)) p

  module _ (F : Functions A.Num) (G : Functions B.Num) (H : FunRel R F G) where
    open H use {r_ln, r_exp, r_expm1, r_tanh, r_pi}

    a3_of_rel : {x y z : A.Num} {u v w : B.Num} → R x u → R y v → R z w → Both R (a3_of A F x y z) (a3_of B G u v w)
    unfolding a3_of
    a3_of_rel p q s =
        then_both (r_exp (r_mul p (r_add (r_mul p (f_rel _ q)) (f_rel _ q)))) (λ _ _ e. both_held (r_mul (r_mul (r_mul (r_neg p) (f_rel _ q)) e) (r_pow 3 s)))

    pub terms_of_rel : {w : FluidIn A.Num} {w' : FluidIn B.Num} {b : BarIn A.Num} {b' : BarIn B.Num} {p : PairIn A.Num} {p' : PairIn B.Num} {d : A.Num} {d' : B.Num}
        → Fluids R w w' → Bars R b b' → Pairs R p p' → R d d' → Both (AllTerms R) (terms_of A F w b p d) (terms_of B G w' b' p' d')
    unfolding terms_of
    terms_of_rel w b p d =
        then_both (orders_of_rel A B K A B K (λ x. x) (λ x. x) (λ x u q. q) F G H w p d) (λ _ _ o. then_both (a3_of_rel b.zeta_x_bar p.alpha p.epsilon_k) (λ _ _ a.
        both_held (record { a1 = o.a1; a2 = o.a2; a3 = a; xi = xi_of_rel b p.alpha })))

    pub k_of_rel : {x : A.Num} {u : B.Num} → R x u → Both (Ks R) (k_of A F x) (k_of B G u)
    unfolding k_of
    k_of_rel p =
        let minus = r_add (r_neg p) (r_lit _) in
        let q = r_div (r_lit _) (r_pow 3 minus) in
        let p2 = r_mul p p in
        let p3 = r_mul p2 p in
        then_both (r_ln minus) (λ _ _ l.
        both_held (record {
          k0 = r_add (r_neg l) (r_div (r_mul (r_mul p (r_add (r_sub (r_add (r_mul (r_neg p) (r_lit _)) (r_mul p2 (r_lit _))) (r_mul p3 (r_lit _))) (r_lit _))) q) (r_lit _));
          k1 = r_mul (r_mul (r_mul p q) (r_lit _)) (r_sub (r_add p3 (r_mul p (r_lit _))) (r_lit _));
          k2 = r_mul (r_mul (r_div (r_mul (r_neg p2) (r_lit _)) (r_lit _)) q) minus;
          k3 = r_mul (r_div (r_mul p q) (r_lit _)) (r_add (r_add (r_neg p3) (r_mul p (r_lit _))) (r_lit _));
        }))

    g_hs_rel : {k : KIn A.Num} {k' : KIn B.Num} {x : A.Num} {u : B.Num} → Ks R k k' → R x u → Both R (g_hs A F k x) (g_hs B G k' u)
    unfolding g_hs
    g_hs_rel k p = r_exp (r_add (r_add (r_add k.k0 (r_mul k.k1 p)) (r_mul k.k2 (r_pow 2 p))) (r_mul k.k3 (r_pow 3 p)))

    gamma_of_rel : {x y z : A.Num} {u v w : B.Num} → R x u → R y v → R z w → Both R (gamma_of A F x y z) (gamma_of B G u v w)
    unfolding gamma_of
    gamma_of_rel p q s =
        then_both (r_expm1 q) (λ _ _ e. then_both (r_tanh (r_mul (r_lit _) (r_sub (r_lit _) s))) (λ _ _ t.
        then_both (r_exp (r_sub (r_mul (r_neg p) (r_lit _)) (r_mul (r_pow 2 p) (r_lit _)))) (λ _ _ g.
        both_held (r_mul (r_mul (r_mul (r_mul p e) (r_lit _)) (r_add (r_neg t) (r_lit _))) g))))

    ln_g_mie_rel : {g x y z : A.Num} {g' u v w : B.Num} → R g g' → R x u → R y v → R z w → Both R (ln_g_mie A F g x y z) (ln_g_mie B G g' u v w)
    unfolding ln_g_mie
    ln_g_mie_rel g p q s = then_both (r_ln g) (λ _ _ l. both_held (r_add l (r_div (r_add (r_mul p q) (r_mul (r_pow 2 p) s)) g)))

    link_of_rel : {k : KIn A.Num} {k' : KIn B.Num} {z h d : A.Num} {z' h' d' : B.Num} {o : OrdersIn (DualOf A.Num)} {o' : OrdersIn (DualOf B.Num)}
        {p : PairIn A.Num} {p' : PairIn B.Num} {l : LinkIn A.Num} {l' : LinkIn B.Num}
        → Ks R k k' → R z z' → Orders (Duals R) o o' → R h h' → Pairs R p p' → R d d' → Links R l l' → Both R (link_of A F k z o h p d l) (link_of B G k' z' o' h' p' d' l')
    unfolding link_of
    link_of_rel k z o h p d l =
        let pref = link_pref_rel r_pi (r_pow 3 d) p.epsilon_k in
        let beta = r_mul l.t_inv p.epsilon_k in
        then_both (g_hs_rel k (x0_of_rel d p.sigma)) (λ _ _ g. then_both (gamma_of_rel z beta p.alpha) (λ _ _ y.
        then_both (ln_g_mie_rel g beta (g1_of_rel o p pref) (r_mul (g2_of_rel o p pref h) (r_add y (r_lit _)))) (λ _ _ e.
        both_held (r_mul (r_mul (r_neg l.fraction) (r_sub l.m (r_lit _))) e))))

    pub chain_pure_rel : {w : FluidIn (DualOf A.Num)} {w' : FluidIn (DualOf B.Num)} {b : BarIn A.Num} {b' : BarIn B.Num} {k : KIn A.Num} {k' : KIn B.Num}
        {p : PairIn A.Num} {p' : PairIn B.Num} {d x : A.Num} {d' u : B.Num} {l : LinkIn A.Num} {l' : LinkIn B.Num} {s : SumsIn A.Num} {s' : SumsIn B.Num}
        → Fluids (Duals R) w w' → Bars R b b' → Ks R k k' → Pairs R p p' → R d d' → Links R l l' → R x u → AllSums R s s'
        → Both (AllSums R) (chain_pure A F w b k p d l x s) (chain_pure B G w' b' k' p' d' l' u s')
    unfolding chain_pure
    chain_pure_rel w b k p d l x s =
        then_both (orders_of_rel A B K (duals A) (duals B) (duals_rel A B K) (plain_d A) (plain_d B) (λ y v q. plain_rel A B K q) F G H w p d) (λ _ _ o.
        then_both (a3_of_rel b.zeta_x_bar p.alpha p.epsilon_k) (λ _ _ a.
        let t = add_pure_rel x (record { a1 = o.a1.re; a2 = o.a2.re; a3 = a; xi = xi_of_rel b p.alpha }) s in
        then_both (link_of_rel k b.zeta_x_bar o w.k_hs.re p d l) (λ _ _ e. both_held (add_link_rel t e))))
