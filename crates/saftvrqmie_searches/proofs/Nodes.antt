-- Laws of the 21-node rule where unused work does not count: its tables, one node, a pair without a potential. Assumes nothing.
use Prim.Native.Nat.{ℕ}
use native.Mathlib.Omega.{arith}
use lib.Ieee.{Float}
use mathlib.Core.Path.{◌≡◌, refl, sym, ◌∙◌, fun_ext}
use mathlib.Core.Bool.{false}
use Rattle.number.specs.Ans.{Ans, held, refused, ◌>>=◌}
use Rattle.number.specs.Arith.{Arith, floats, decimal}
use Rattle.number.specs.Functions.{Functions, calls, entry}
use Rattle.number.proofs.Walk.{walk_none, walk_stop}
use Rattle.elementary.specs.Port.{port}
use Rattle.saftvrqmie_potential.specs.Potential.{PairIn, PotentialIn, potential}
use Rattle.saftvrqmie_potential.specs.Shared.{alone}
use Rattle.saftvrqmie_searches.proofs.Loops.{none}
use Rattle.saftvrqmie_searches.specs.Diameter.{abscissas, weights, node_turn, diameter_by, diameter}

-- ---- one node, of which only u is read
by_u : {N S : Type 0} (a : Ans (PotentialIn N)) (g : N → Ans S) → (a >>= λ v. g v.u) ≡ (a >>= (λ v. held v.u) >>= g)
unfolding ◌>>=◌
by_u (held v) g = refl
by_u (refused n) g = refl

module _ (A : Arith) (F : Functions A.Num) (after-is : (x y : A.Num) → A.after x y ≡ y) (U : A.Num → Ans (PotentialIn A.Num)) (t sigma_eff r0 : A.Num) (k : ℕ) (d-hs x : A.Num) (is_x : x ≡ entry F abscissas k) where
  abbrev width : A.Num
  width = A.mul (A.sub sigma_eff r0) (A.lit (decimal false 5 1))

  abbrev radius : A.Num
  radius = A.add (A.add (A.mul width x) width) r0

  abbrev turn : Ans A.Num
  turn = node_turn A F U t sigma_eff r0 k d-hs

  abbrev added : A.Num → A.Num → A.Num
  added e y = A.add d-hs (A.mul (A.mul width (A.add (A.neg e) (A.lit (decimal false 1 0)))) y)

  abbrev onward : A.Num → Ans A.Num
  onward u = F.exp (A.div (A.neg u) t) >>= λ e. held (added e (entry F weights k))

  plain_turn : turn ≡ (U radius >>= λ v. onward v.u)
  unfolding node_turn
  plain_turn = rw (← is_x, fun_ext (λ x. fun_ext (λ y. after-is x y)))

  as_u : turn ≡ (alone (U radius) >>= onward)
  as_u = plain_turn ∙ by_u (U radius) onward

  module _ (r : A.Num) (is-r : r ≡ radius) where
    pub node_outside : (n : ℕ) → alone (U r) ≡ refused n → refused n ≡ turn
    unfolding ◌>>=◌
    node_outside n e = sym (as_u ∙ rw (← is-r, e))

    module _ (u q : A.Num) (is-u : alone (U r) ≡ held u) (is-q : q ≡ A.div (A.neg u) t) where
      pub node_no_exp : (n : ℕ) → F.exp q ≡ refused n → refused n ≡ turn
      unfolding ◌>>=◌
      node_no_exp n e = sym (as_u ∙ rw (← is-r, is-u, ← is-q, e))

      pub node_value : (e y v : A.Num) → F.exp q ≡ held e → y ≡ entry F weights k → v ≡ added e y → held v ≡ turn
      unfolding ◌>>=◌
      node_value e y v p is_y is-v = sym (as_u ∙ rw (← is-r, is-u, ← is-q, p, ← is_y, ← is-v))

-- ---- a pair without a potential at any radius
diameter_none : (n : ℕ) (t sigma_eff r0 : Float) → refused n ≡ diameter_by floats (calls floats port) (none floats n) t sigma_eff r0
unfolding diameter_by node_turn ◌>>=◌
diameter_none n t sigma_eff r0 = walk_stop _ _ 21 0 n r0 (omega arith) (walk_none _ _) refl

pub no_diameter : (p : PairIn Float) (n : ℕ) → ((r : Float) → potential floats (calls floats port) p r ≡ refused n) → (s r0 : Float) → refused n ≡ diameter floats (calls floats port) p s r0
unfolding diameter
no_diameter p n h s r0 = rw (fun_ext h) (diameter_none n _ s r0)
