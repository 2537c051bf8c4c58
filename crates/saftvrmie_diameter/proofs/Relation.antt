-- Each formula of the diameter keeps every relation that its operations and calls keep. Assumes nothing.
use Prim.Native.Nat.{ℕ, zero, suc}
use lib.Ieee.{Float, lt}
use mathlib.Core.Path.{◌≡◌, ap}
use mathlib.Core.Bool.{Bool}
use mathlib.Core.List.{List}
use Rattle.number.specs.Ans.{Ans}
use Rattle.number.specs.Arith.{Arith, zero64}
use Rattle.number.specs.Functions.{Functions, Decimal, entry}
use Rattle.number.proofs.Rel.{Rel, FunRel, Both, both_held, then_both, cond_rel, walk_rel}
use Rattle.saftvrmie_diameter.specs.Diameter.{Halley, c_eps_t, halley_step, halley, lower_limit, beta_u_mie, node_turn, diameter_from, hs_diameter}

pub record Halleys {S T : Type 0} (R : S → T → Type 0) (x : Halley S) (u : Halley T) : Type 0 where
  pub f : R x.f u.f
  pub dr : R x.dr u.dr

module _ (A B : Arith) (K : Rel A B) (F : Functions A.Num) (G : Functions B.Num) (H : FunRel K.R F G) where
  open K use {R, r_add, r_sub, r_mul, r_div, r_neg, r_lit, r_val, r_after}
  open H use {r_ln, r_exp, r_expm1, r_powf, r_node}

  entry_rel : (l : List Decimal) (k : ℕ) → R (entry F l k) (entry G l k)
  unfolding entry
  entry_rel l k = r_node _ _ _

  pub c_eps_t_rel : {t c e : A.Num} {t' c' e' : B.Num} → R t t' → R c c' → R e e' → R (c_eps_t A t c e) (c_eps_t B t' c' e')
  unfolding c_eps_t
  c_eps_t_rel p q s = r_mul (r_mul (r_div (r_lit _) p) q) s

  module _ {la lr c : A.Num} {la' lr' c' : B.Num} (pa : R la la') (pr : R lr lr') (pc : R c c') where
    halley_step_rel : (r : A.Num) (s : B.Num) → R r s → Both (Halleys R) (halley_step A F la lr c r) (halley_step B G la' lr' c' s)
    unfolding halley_step
    halley_step_rel r s p =
        let i = r_div (r_lit _) p in
        then_both (r_powf i pr) (λ x x' h. then_both (r_powf i pa) (λ y y' g. then_both (r_ln (r_lit _)) (λ l l' m.
        let dplr = r_mul (r_mul h (r_neg pr)) i in
        let dpla = r_mul (r_mul g (r_neg pa)) i in
        let f = r_sub (r_mul (r_neg pc) (r_sub h g)) m in
        let df = r_mul (r_neg pc) (r_sub dplr dpla) in
        let d2f = r_mul (r_neg pc) (r_mul (r_sub (r_mul dplr (r_sub (r_neg pr) (r_lit _))) (r_mul dpla (r_sub (r_neg pa) (r_lit _)))) i) in
        let u = r_div f df in
        both_held (record { f = f; dr = r_div u (r_add (r_mul (r_div (r_neg u) (r_div df d2f)) (r_lit _)) (r_lit _)) }))))

    both_cond : (b c : Bool) {x y : Ans A.Num} {u v : Ans B.Num} → b ≡ c → Both R x u → Both R y v → Both R (mathlib.Core.Bool.cond b x y) (mathlib.Core.Bool.cond c u v)
    both_cond b c e p q = cond_rel (Both R) b c e p q

    halley_rel : (n : ℕ) (r : A.Num) (s : B.Num) → R r s → Both R (halley A F la lr c n r) (halley B G la' lr' c' n s)
    unfolding halley
    halley_rel zero r s p = both_held p
    halley_rel (suc n) r s p =
        then_both (halley_step_rel r s p) (λ x y h.
        both_cond _ _ (ap (λ (v : Float). lt v zero64) (r_val h.f)) (both_held (r_after h.dr p)) (halley_rel n _ _ (r_sub p h.dr)))

    pub lower_limit_rel : Both R (lower_limit A F la lr c) (lower_limit B G la' lr' c')
    unfolding lower_limit
    lower_limit_rel =
        then_both (r_ln (r_lit _)) (λ l l' m. then_both (r_ln (r_mul (r_neg (r_div (r_lit _) pc)) m)) (λ k k' h. then_both (r_exp (r_div (r_neg h) pr)) (λ r s g. halley_rel 4 r s g)))

    beta_u_mie_rel : (r : A.Num) (s : B.Num) → R r s → Both R (beta_u_mie A F la lr c r) (beta_u_mie B G la' lr' c' s)
    unfolding beta_u_mie
    beta_u_mie_rel r s p =
        let i = r_mul (r_div (r_lit _) p) (r_lit _) in
        then_both (r_powf i pr) (λ x x' h. then_both (r_powf i pa) (λ y y' g. both_held (r_mul (r_sub h g) pc)))

    node_turn_rel : (r0 : A.Num) (s0 : B.Num) → R r0 s0 → (k : ℕ) (d : A.Num) (e : B.Num) → R d e → Both R (node_turn A F la lr c r0 k d) (node_turn B G la' lr' c' s0 k e)
    unfolding node_turn
    node_turn_rel r0 s0 p k d e q =
        let w = r_mul (r_add (r_neg p) (r_lit _)) (r_lit _) in
        then_both (beta_u_mie_rel _ _ (r_add (r_add (r_mul w (entry_rel _ k)) w) p)) (λ u u' h. then_both (r_expm1 (r_neg h)) (λ x x' g.
        both_held (r_add q (r_mul (r_mul w (r_neg g)) (entry_rel _ k)))))

    pub diameter_from_rel : (s r0 : A.Num) (t s0 : B.Num) → R s t → R r0 s0 → Both R (diameter_from A F la lr c s r0) (diameter_from B G la' lr' c' t s0)
    unfolding diameter_from
    diameter_from_rel s r0 t s0 p q = then_both (walk_rel R 10 _ _ (node_turn_rel r0 s0 q) q) (λ d e h. both_held (r_mul h p))

  pub hs_diameter_rel : {la lr c e s t : A.Num} {la' lr' c' e' s' t' : B.Num} → R la la' → R lr lr' → R c c' → R e e' → R s s' → R t t'
      → Both R (hs_diameter A F la lr c e s t) (hs_diameter B G la' lr' c' e' s' t')
  unfolding hs_diameter
  hs_diameter_rel pa pr pc pe ps pt =
      let h = c_eps_t_rel pt pc pe in
      then_both (lower_limit_rel pa pr h) (λ r s g. diameter_from_rel pa pr h _ _ _ _ ps g)
