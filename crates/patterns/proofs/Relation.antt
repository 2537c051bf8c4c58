-- Each made-up formula keeps every relation that its operations and calls keep. Assumes nothing.
use Prim.Native.Nat.{ℕ}
use mathlib.Core.Path.{ap₂}
use lib.Ieee.{lt}
use Rattle.number.specs.Arith.{Arith}
use Rattle.number.specs.Functions.{Functions}
use Rattle.number.proofs.Rel.{Rel, FunRel, Both, both_held, then_both, cond_rel, turns_rel}
use Rattle.dual.proofs.Relation.{Duals, plain_rel, add_rel, div_rel, pow_rel}
use Rattle.patterns.specs.Formulas.{squares, slope, blend, sample}

module _ (A B : Arith) (K : Rel A B) where
  open K use {R, r_add, r_mul, r_div, r_lit, r_val, r_after}

  pub squares_rel : (n : ℕ) (f : ℕ → A.Num) (g : ℕ → B.Num) → ((i : ℕ) → R (f i) (g i)) → R (squares A n f) (squares B n g)
  unfolding squares
  squares_rel n f g h = turns_rel R n _ _ (λ i x y p. r_add p (r_mul (h i) (h i))) (r_lit _)

  pub slope_rel : (x y : A.Num) (u v : B.Num) → R x u → R y v → R (slope A x y) (slope B u v)
  unfolding slope
  slope_rel x y u v p q =
      let d : Duals R (record { re = x; eps = A.lit _ }) (record { re = u; eps = B.lit _ }) = record { re = p; eps = r_lit _ } in
      (div_rel A B K _ _ _ _ (pow_rel A B K _ _ d 3) (add_rel A B K _ _ _ _ d (plain_rel A B K q))).eps

  module _ (F : Functions A.Num) (G : Functions B.Num) (H : FunRel R F G) where
    open H use {r_sqrt}

    pub blend_rel : (x y : A.Num) (u v : B.Num) → R x u → R y v → Both R (blend A F x y) (blend B G u v)
    unfolding blend
    blend_rel x y u v p q =
        then_both (r_sqrt p) (λ r s h. both_held (r_after (r_div h q) (cond_rel R _ _ (ap₂ lt (r_val h) (r_val q)) (r_add h q) (r_mul h q))))

    pub sample_rel : (n : ℕ) (f : ℕ → A.Num) (g : ℕ → B.Num) (y : A.Num) (v : B.Num) → ((i : ℕ) → R (f i) (g i)) → R y v → Both R (sample A F n f y) (sample B G n g v)
    unfolding sample
    sample_rel n f g y v h q = then_both (blend_rel _ _ _ _ (squares_rel n f g h) q) (λ b d k. both_held (slope_rel b y d v k q))
