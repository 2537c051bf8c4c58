-- From a radius with a slope on, the searches and the diameter beside plain numbers are those where every number is a D. Assumes nothing.
use Prim.Native.Nat.{ℕ, zero, suc}
use lib.Ieee as Ieee
use lib.Ieee.{Float, binary64, lt}
use mathlib.Core.Path.{◌≡◌, refl, ap}
use mathlib.Core.Bool.{false}
use Rattle.number.specs.Ans.{Ans, held, refused, ◌>>=◌}
use Rattle.number.specs.Arith.{floats, decimal, zero64, epsilon64}
use Rattle.number.specs.Functions.{Functions, Answers, calls, entry}
use Rattle.number.specs.Neighbour.{absolute}
use Rattle.number.proofs.Rel.{Both, both_held, both_refused, then_both, cond_rel, walk_rel}
use Rattle.dual.specs.Dual.{DualOf, plain_d, add_d, sub_d, mul_d, div_d, neg_d, after_d, duals}
use Rattle.slopes.specs.Mixed.{Mixed, plain, sloped, value_of, mixed}
use Rattle.slopes.specs.Rules.{exp_d, ln_d, mixed_functions, dual_functions}
use Rattle.saftvrqmie_potential.specs.Potential.{PotentialIn, FloatPair, potential}
use Rattle.saftvrqmie_potential.specs.Slopes.{mixed_pair, potential_slope}
use Rattle.saftvrqmie_potential.proofs.Relation.{PotentialR, potential_r}
use Rattle.saftvrqmie_potential.proofs.Slopes.{sloped_parts, potential_sloped}
use Rattle.saftvrqmie_searches.specs.Searches.{clamped, evaluated, search_from, searched, zero_tested, sigma_search, depth_search, zero_search}
use Rattle.saftvrqmie_searches.specs.Diameter.{abscissas, weights, node_turn, diameter_by}
use Rattle.saftvrqmie_searches.proofs.Relation.{found_both, spent_both, CountedR, counted_r}

abbrev D : Type 0
D = DualOf Float

-- ---- a number with a slope is the D itself
pub record Same (x : Mixed) (u : D) : Type 0 where
  pub same : x ≡ sloped u

pub is_same : (u : D) → Same (sloped u) u
is_same u = record { same = refl }

module _ {x y : Mixed} {u v : D} (p : Same x u) (q : Same y v) where
  pub s_add : Same (mixed.add x y) (add_d floats u v)
  s_add = record { same = rw (p.same, q.same) }

  s_sub : Same (mixed.sub x y) (sub_d floats u v)
  s_sub = record { same = rw (p.same, q.same) }

  pub s_mul : Same (mixed.mul x y) (mul_d floats u v)
  s_mul = record { same = rw (p.same, q.same) }

  s_div : Same (mixed.div x y) (div_d floats u v)
  s_div = record { same = rw (p.same, q.same) }

module _ {x : Mixed} {u : D} (p : Same x u) where
  pub s_neg : Same (mixed.neg x) (neg_d floats u)
  s_neg = record { same = rw p.same }

  s_val : value_of x ≡ u.re
  s_val = rw p.same

  -- unused work does not count in floats
  pub s_after : (y : Mixed) (v : D) → Same (mixed.after y x) (after_d floats v u)
  unfolding after_d
  s_after y v = record { same = p.same }

  -- beside a plain number
  s_plus : (c : Float) → Same (mixed.add x (plain c)) (add_d floats u (plain_d floats c))
  s_plus c = record { same = rw p.same }

  s_times : (c : Float) → Same (mixed.mul x (plain c)) (mul_d floats u (plain_d floats c))
  s_times c = record { same = rw p.same }

-- ---- answers
map_same : (a : Ans D) → Both Same (a >>= λ v. held (sloped v)) a
unfolding ◌>>=◌
map_same (held v) = both_held (is_same v)
map_same (refused n) = both_refused

parts_same : (a : Ans (PotentialIn D)) → Both (PotentialR Same) (a >>= λ v. held (sloped_parts v)) a
unfolding ◌>>=◌
parts_same (held v) = both_held (potential_r Same (is_same v.u) (is_same v.u_r) (is_same v.u_rr))
parts_same (refused n) = both_refused

clamped_same : {x : Mixed} {u : D} → Same x u → Same (clamped mixed x) (clamped (duals floats) u)
unfolding clamped
clamped_same {u = u} p =
    let b = lt (decimal false 5 1) (absolute u.re) in
    rw (s_val p) (cond_rel Same b b refl (s_times p (Ieee.div binary64 (decimal false 5 1) (absolute u.re))) p)

-- ---- the logarithm of EPSILON has slope +0
pub record PlainSame (x : Mixed) (u : D) : Type 0 where
  pub at : Float
  pub is_plain : x ≡ plain at
  pub is_dual : u ≡ plain_d floats at

no_slope : Ieee.div binary64 (Ieee.of_bits binary64 0) epsilon64 ≡ Ieee.of_bits binary64 0
unfolding Ieee.div Ieee.of_bits
no_slope = refl

module _ (E : Answers) where
  abbrev F : Functions Mixed
  F = mixed_functions E

  abbrev G : Functions D
  G = dual_functions E

  ln_from : (a : Ans Float) → Both PlainSame (a >>= λ v. held (plain v)) (a >>= λ v. held (record { re = v; eps = Ieee.div binary64 (Ieee.of_bits binary64 0) epsilon64 }))
  unfolding ◌>>=◌ plain_d
  ln_from (held v) = both_held (record { at = v; is_plain = refl; is_dual = rw no_slope })
  ln_from (refused n) = both_refused

  ln_same : Both PlainSame (F.ln (plain epsilon64)) (G.ln (plain_d floats epsilon64))
  unfolding ln_d plain_d
  ln_same = ln_from (E.ln epsilon64)

  exp_same : {x : Mixed} {u : D} → Same x u → Both Same (F.exp x) (G.exp u)
  exp_same {u = u} p = rw p.same (map_same (exp_d E u))

  module _ (U : Mixed → Ans (PotentialIn Mixed)) (V : D → Ans (PotentialIn D)) (r-U : (x : Mixed) (u : D) → Same x u → Both (PotentialR Same) (U x) (V u)) where
    module _ (tested : PotentialIn Mixed → Ans Mixed) (tested' : PotentialIn D → Ans D) (r-tested : (v : PotentialIn Mixed) (w : PotentialIn D) → PotentialR Same v w → Both Same (tested v) (tested' w))
        (moved : Mixed → PotentialIn Mixed → Mixed → Mixed) (moved' : D → PotentialIn D → D → D)
        (r-moved : (r : Mixed) (r' : D) (v : PotentialIn Mixed) (w : PotentialIn D) (f : Mixed) (f' : D) → Same r r' → PotentialR Same v w → Same f f' → Same (moved r v f) (moved' r' w f')) where
      evaluated_same : (v : PotentialIn Mixed) (v' : PotentialIn D) (f : Mixed) (f' : D) {x : Mixed} {x' : D} → Same x x' → Same (evaluated mixed v f x) (evaluated (duals floats) v' f' x')
      evaluated_same v v' f f' p = s_after (s_after (s_after (s_after p f f') v.u_rr v'.u_rr) v.u_r v'.u_r) v.u v'.u

      -- the first turn sets the last potential
      next_same : (n : ℕ) → ((r u : Mixed) (r' u' : D) → Same r r' → Same u u' → Both (CountedR Same) (search_from mixed U tested moved n r u) (search_from (duals floats) V tested' moved' n r' u'))
          → (u : Mixed) (u' : D) {r : Mixed} {r' : D} → Same r r' → Both (CountedR Same) (search_from mixed U tested moved (suc n) r u) (search_from (duals floats) V tested' moved' (suc n) r' u')
      unfolding search_from
      next_same n h u u' p =
          then_both (r-U _ _ p) (λ x y v.
          then_both (r-tested x y v) (λ f f' t.
          cond_rel (Both (CountedR Same)) _ _ (ap (λ (x : Float). lt (absolute x) (decimal false 1 12)) (s_val t))
          (both_held (counted_r Same (found_both (evaluated_same x y f f' p) v.u) refl))
          (h _ _ _ _ (evaluated_same x y f f' (r-moved _ _ x y f f' p v t)) v.u)))

      from_same : (n : ℕ) {r u : Mixed} {r' u' : D} → Same r r' → Same u u' → Both (CountedR Same) (search_from mixed U tested moved n r u) (search_from (duals floats) V tested' moved' n r' u')
      unfolding search_from
      from_same zero p q = both_held (counted_r Same (spent_both p q) refl)
      from_same (suc n) {u = u} {u' = u'} p q = next_same n (λ _ _ _ _ p q. from_same n p q) u u' p

      searched_same : {s : Mixed} {s' : D} → Same s s' → Both (CountedR Same) (searched mixed U tested moved s) (searched (duals floats) V tested' moved' s')
      unfolding searched
      searched_same p = next_same 18 (λ _ _ _ _ p q. from_same 18 p q) (plain zero64) (plain_d floats zero64) p

    sigma_by : {s : Mixed} {s' : D} → Same s s' → Both (CountedR Same) (sigma_search mixed U s) (sigma_search (duals floats) V s')
    unfolding sigma_search
    sigma_by p = searched_same _ _ (λ _ _ v. both_held v.u) _ _ (λ _ _ _ _ _ _ r v f. s_add r (s_div (s_neg v.u) v.u_r)) p

    depth_by : {s : Mixed} {s' : D} → Same s s' → Both (CountedR Same) (depth_search mixed U s) (depth_search (duals floats) V s')
    unfolding depth_search
    depth_by p = searched_same _ _ (λ _ _ v. both_held v.u_r) _ _ (λ _ _ _ _ _ _ r v f. s_add r (s_div (s_neg v.u_r) v.u_rr)) p

    value_same : {x y : Mixed} {u v : D} {l : Mixed} {l' : D} → Same x u → Same y v → PlainSame l l' → Same (mixed.add (mixed.div x y) l) (add_d floats (div_d floats u v) l')
    value_same p q l = rw (l.is_plain, l.is_dual) (s_plus (s_div p q) l.at)

    zero_by : {t s : Mixed} {t' s' : D} → Same t t' → Same s s' → Both (CountedR Same) (zero_search mixed U F t s) (zero_search (duals floats) V G t' s')
    unfolding zero_search zero_tested
    zero_by t p =
        searched_same _ _ (λ _ _ v. then_both ln_same (λ _ _ l. both_held (value_same v.u t l)))
        _ _ (λ _ _ _ _ _ _ r v f. s_add r (clamped_same (s_neg (s_div f (s_div v.u_r t))))) (s_times p _)

    node_by : {t s r d : Mixed} {t' s' r' d' : D} (k : ℕ) → Same t t' → Same s s' → Same r r' → Same d d' → Both Same (node_turn mixed F U t s r k d) (node_turn (duals floats) G V t' s' r' k d')
    unfolding node_turn entry
    node_by k t s r d =
        let width = s_times (s_sub s r) (decimal false 5 1) in
        then_both (r-U _ _ (s_add (s_add (s_times width (entry (calls floats E) abscissas k)) width) r)) (λ x y v.
        then_both (exp_same (s_div (s_neg v.u) t)) (λ _ _ e.
        both_held (s_after (s_after (s_add d (s_times (s_mul width (s_plus (s_neg e) (decimal false 1 0))) (entry (calls floats E) weights k))) x.u_rr y.u_rr) x.u_r y.u_r)))

    diameter_same_by : {t s r : Mixed} {t' s' r' : D} → Same t t' → Same s s' → Same r r' → Both Same (diameter_by mixed F U t s r) (diameter_by (duals floats) G V t' s' r')
    unfolding diameter_by
    diameter_same_by t s r = walk_rel Same 21 _ _ (λ k _ _ d. node_by k t s r d) r

  -- ---- by a pair's potential
  module _ (p : FloatPair) (t : D) where
    abbrev U : Mixed → Ans (PotentialIn Mixed)
    U = potential mixed F (mixed_pair p t)

    abbrev V : D → Ans (PotentialIn D)
    V = potential_slope E p t

    potential_same : (x : Mixed) (u : D) → Same x u → Both (PotentialR Same) (U x) (V u)
    potential_same x u h = rw (h.same, potential_sloped E p t u) (parts_same (V u))

    pub sigma_same : {s : Mixed} {s' : D} → Same s s' → Both (CountedR Same) (sigma_search mixed U s) (sigma_search (duals floats) V s')
    sigma_same s = sigma_by U V potential_same s

    pub depth_same : {s : Mixed} {s' : D} → Same s s' → Both (CountedR Same) (depth_search mixed U s) (depth_search (duals floats) V s')
    depth_same s = depth_by U V potential_same s

    pub zero_same : {s : Mixed} {s' : D} → Same s s' → Both (CountedR Same) (zero_search mixed U F (sloped t) s) (zero_search (duals floats) V G t s')
    zero_same s = zero_by U V potential_same (is_same t) s

    pub diameter_same : {s r : Mixed} {s' r' : D} → Same s s' → Same r r' → Both Same (diameter_by mixed F U (sloped t) s r) (diameter_by (duals floats) G V t s' r')
    diameter_same s r = diameter_same_by U V potential_same (is_same t) s r
