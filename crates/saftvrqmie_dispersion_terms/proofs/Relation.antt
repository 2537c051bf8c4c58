-- The Sutherland and B terms keep any relation that the operations and the elementary functions keep. Assumes nothing.
use lib.Ieee.{Float}
use mathlib.Core.List.{List}
use Rattle.number.specs.Ans.{Ans}
use Rattle.number.specs.Arith.{Arith}
use Rattle.number.specs.Functions.{Functions}
use Rattle.number.proofs.Rel.{Rel, FunRel, Both, both_held, then_both}
use Rattle.saftvrqmie_dispersion_terms.specs.Terms.{lam_sum, eta_eff, sutherland_of, ilambda_of, jlambda_of, factor_i, factor_j, b_of, sutherland, ilambda, jlambda, b, combine, combine_sutherland_and_b}

module _ (A B : Arith) (K : Rel A B) where
  open K use {R, r_add, r_sub, r_mul, r_div, r_neg, r_pow, r_lit}

  lam_sum_rel : (c : List Float) {x y z w : A.Num} {x' y' z' w' : B.Num} → R x x' → R y y' → R z z' → R w w' → R (lam_sum A c x y z w) (lam_sum B c x' y' z' w')
  unfolding lam_sum
  lam_sum_rel c p q r s = search (r_add, r_mul, r_lit) depth 8

  pub eta_eff_rel : {l z : A.Num} {l' z' : B.Num} → R l l' → R z z' → R (eta_eff A l z) (eta_eff B l' z')
  unfolding eta_eff
  eta_eff_rel p q = search (r_add, r_mul, r_div, r_pow, r_lit, lam_sum_rel) depth 16

  sutherland_of_rel : {l e f x : A.Num} {l' e' f' x' : B.Num} → R l l' → R e e' → R f f' → R x x' → R (sutherland_of A l e f x) (sutherland_of B l' e' f' x')
  unfolding sutherland_of
  sutherland_of_rel p q r s = search (r_add, r_sub, r_mul, r_div, r_neg, r_pow, r_lit) depth 16

  ilambda_of_rel : {l x : A.Num} {l' x' : B.Num} → R l l' → R x x' → R (ilambda_of A l x) (ilambda_of B l' x')
  unfolding ilambda_of
  ilambda_of_rel p q = search (r_sub, r_div, r_neg, r_lit) depth 8

  jlambda_of_rel : {l x y : A.Num} {l' x' y' : B.Num} → R l l' → R x x' → R y y' → R (jlambda_of A l x y) (jlambda_of B l' x' y')
  unfolding jlambda_of
  jlambda_of_rel p q r = search (r_sub, r_mul, r_div, r_neg, r_lit) depth 12

  factor_i_rel : {z : A.Num} {z' : B.Num} → R z z' → R (factor_i A z) (factor_i B z')
  unfolding factor_i
  factor_i_rel p = search (r_add, r_div, r_neg, r_pow, r_lit) depth 8

  factor_j_rel : {z : A.Num} {z' : B.Num} → R z z' → R (factor_j A z) (factor_j B z')
  unfolding factor_j
  factor_j_rel p = search (r_add, r_mul, r_div, r_neg, r_pow, r_lit) depth 8

  b_of_rel : {e x y i j w : A.Num} {e' x' y' i' j' w' : B.Num} → R e e' → R x x' → R y y' → R i i' → R j j' → R w w' → R (b_of A e x y i j w) (b_of B e' x' y' i' j' w')
  unfolding b_of
  b_of_rel p q r s t u = search (r_add, r_mul, r_lit) depth 8

  -- the powers of two bases keep the relation
  abbrev Powers : (A.Num → Ans A.Num) → (B.Num → Ans B.Num) → Type 0
  Powers f g = (x : A.Num) (u : B.Num) → R x u → Both R (f x) (g u)

  module _ (f h : A.Num → Ans A.Num) (g k : B.Num → Ans B.Num) (P : Powers f g) (Q : Powers h k) where
    sutherland_rel : {l e z : A.Num} {l' e' z' : B.Num} → R l l' → R e e' → R z z' → Both R (sutherland A l e z f) (sutherland B l' e' z' g)
    unfolding sutherland
    sutherland_rel p q r = then_both (P _ _ p) (λ _ _ s. both_held (sutherland_of_rel p q (eta_eff_rel p r) s))

    ilambda_rel : {l : A.Num} {l' : B.Num} → R l l' → Both R (ilambda A l h) (ilambda B l' k)
    unfolding ilambda
    ilambda_rel p = then_both (Q _ _ (r_sub (r_lit _) p)) (λ _ _ s. both_held (ilambda_of_rel p s))

    jlambda_rel : {l : A.Num} {l' : B.Num} → R l l' → Both R (jlambda A l h) (jlambda B l' k)
    unfolding jlambda
    jlambda_rel p = then_both (Q _ _ (r_sub (r_lit _) p)) (λ _ _ s. then_both (Q _ _ (r_sub (r_lit _) p)) (λ _ _ t. both_held (jlambda_of_rel p s t)))

    b_rel : {l e x y : A.Num} {l' e' x' y' : B.Num} → R l l' → R e e' → R x x' → R y y' → Both R (b A l e x y f h) (b B l' e' x' y' g k)
    unfolding b
    b_rel p q r s = then_both (ilambda_rel p) (λ _ _ i. then_both (jlambda_rel p) (λ _ _ j. then_both (P _ _ p) (λ _ _ t. both_held (b_of_rel q r s i j t))))

    combine_rel : {l e z x y : A.Num} {l' e' z' x' y' : B.Num} → R l l' → R e e' → R z z' → R x x' → R y y' → Both R (combine A l e z x y f h) (combine B l' e' z' x' y' g k)
    unfolding combine
    combine_rel p q r s t = then_both (sutherland_rel p q r) (λ _ _ u. then_both (b_rel p q s t) (λ _ _ v. both_held (r_add u v)))

  module _ (F : Functions A.Num) (G : Functions B.Num) (H : FunRel R F G) where
    open H use {r_powf}

    pub combine_sutherland_and_b_rel : {l e z x y : A.Num} {l' e' z' x' y' : B.Num} → R e e' → R z z' → R x x' → R y y' → R l l'
        → Both R (combine_sutherland_and_b A F e z x y l) (combine_sutherland_and_b B G e' z' x' y' l')
    unfolding combine_sutherland_and_b
    combine_sutherland_and_b_rel q r s t p = combine_rel _ _ _ _ (λ _ _ h. r_powf s h) (λ _ _ h. r_powf t h) p q r (factor_i_rel r) (factor_j_rel r)
