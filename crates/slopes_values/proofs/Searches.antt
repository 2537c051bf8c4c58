-- The searches, the diameter and a pair's properties where every number is a D: where they hold, the float run holds, with their values. Assumes nothing.
use Prim.Native.Nat.{ℕ, zero, suc}
use lib.Ieee as Ieee
use lib.Ieee.{Float, binary64, lt}
use mathlib.Core.Path.{◌≡◌, refl, ap, ◌∙◌}
use mathlib.Core.Bool.{false}
use mathlib.Core.List.{List}
use Rattle.number.specs.Ans.{Ans, held, refused, ◌>>=◌}
use Rattle.number.specs.Arith.{floats, decimal, nearest}
use Rattle.number.specs.Functions.{Functions, Answers, Decimal, answered, calls, entry}
use Rattle.number.specs.Neighbour.{absolute}
use Rattle.number.proofs.Rel.{Rel, Both, both_held, both_refused, cond_rel}
use Rattle.dual.specs.Dual.{DualOf, plain_d, neg_d, pow_d, down_d, after_d, duals}
use Rattle.slopes.specs.Rules.{exp_d, ln_d, dual_functions}
use Rattle.saftvrqmie_potential.specs.Potential.{PairIn, PotentialIn, prefactor, quantum_d}
use Rattle.saftvrqmie_potential.proofs.Relation.{PotentialR}
use Rattle.saftvrqmie_searches.specs.Searches.{SearchIn, clamped, evaluated, search_from, searched, zero_tested, sigma_search, depth_search, zero_search}
use Rattle.saftvrqmie_searches.specs.Diameter.{abscissas, weights, node_turn, diameter_by}
use Rattle.saftvrqmie_searches.proofs.Relation.{SearchR, found_both, spent_both, CountedR}
use Rattle.saftvrqmie_properties.specs.Properties.{radius_of, last_of, properties_by}
use Rattle.saftvrqmie_properties.proofs.Relation.{PropertiesR}
use Rattle.slopes_values.proofs.OneSided.{Kept, kept_held, both_kept, then_kept, walk_kept}
use Rattle.slopes_values.proofs.Full.{add_value, sub_value, mul_value, div_value, two}

-- ---- values of operations
pub record R (x : DualOf Float) (u : Float) : Type 0 where
  pub same : x.re ≡ u

pub neg_part : (x : DualOf Float) → (neg_d floats x).re ≡ floats.neg x.re
unfolding neg_d
neg_part x = refl

pub pow_part : (n : ℕ) (x : DualOf Float) → (pow_d floats x n).re ≡ floats.pow x.re n
unfolding pow_d
pow_part zero x = refl
pow_part (suc n) x = refl

pub down_part : (n : ℕ) (x : DualOf Float) → (down_d floats x n).re ≡ floats.pow_down x.re n
unfolding down_d
down_part zero x = refl
down_part (suc n) x = refl

pub plain_part : (v : Float) → (plain_d floats v).re ≡ v
unfolding plain_d
plain_part v = refl

pub after_part : (u x : DualOf Float) → (after_d floats u x).re ≡ x.re
unfolding after_d
after_part u x = refl

pub plain_is : (v : Float) → R (plain_d floats v) v
plain_is v = record { same = plain_part v }

abbrev pub parts : Rel (duals floats) floats
parts =
    record {
      R = R;
      r_add = λ {x} {y} p q. record { same = two floats.add (add_value x y) p.same q.same };
      r_sub = λ {x} {y} p q. record { same = two floats.sub (sub_value x y) p.same q.same };
      r_mul = λ {x} {y} p q. record { same = two floats.mul (mul_value x y) p.same q.same };
      r_div = λ {x} {y} p q. record { same = two floats.div (div_value x y) p.same q.same };
      r_neg = λ {x} p. record { same = neg_part x ∙ ap floats.neg p.same };
      r_pow = λ n {x} p. record { same = pow_part n x ∙ ap (λ (v : Float). floats.pow v n) p.same };
      r_down = λ n {x} p. record { same = down_part n x ∙ ap (λ (v : Float). floats.pow_down v n) p.same };
      r_lit = λ f. plain_is f;
      r_constant = λ c. plain_is (nearest c);
      r_val = λ p. p.same;
      r_after = λ {x} {y} p q. record { same = after_part x y ∙ q.same };
    }

open parts use {r_add, r_sub, r_mul, r_div, r_neg, r_lit, r_val, r_after}

rule_part : (a : Ans Float) (s : Float → DualOf Float) → ((v : Float) → (s v).re ≡ v) → (u : Float) → Both R (a >>= λ v. held (s v)) (answered floats a u)
unfolding answered ◌>>=◌
rule_part (held v) s p u = both_held (record { same = p v })
rule_part (refused n) s p u = both_refused

module _ (E : Answers) where
  ln_part : (x : DualOf Float) (u : Float) → R x u → Both R ((dual_functions E).ln x) ((calls floats E).ln u)
  unfolding ln_d
  ln_part x u p = rw (← p.same) (rule_part (E.ln x.re) _ (λ v. refl) x.re)

  exp_part : (x : DualOf Float) (u : Float) → R x u → Both R ((dual_functions E).exp x) ((calls floats E).exp u)
  unfolding exp_d
  exp_part x u p = rw (← p.same) (rule_part (E.exp x.re) _ (λ v. refl) x.re)

  quantum_d_part : {m t : DualOf Float} {m' t' : Float} → R m m' → R t t' → R (quantum_d (duals floats) (dual_functions E) m t) (quantum_d floats (calls floats E) m' t')
  unfolding quantum_d prefactor
  quantum_d_part p q =
      let tau = plain_is _ in
      r_mul (r_div (r_div (r_lit _) q) p) (r_div (r_mul (r_div (r_div (r_mul (r_lit _) (r_lit _)) (r_mul tau tau)) (r_lit _)) (r_lit _)) (r_lit _))

-- ---- the searches
clamped_at : (x : DualOf Float) → R (clamped (duals floats) x) (clamped floats x.re)
unfolding clamped
clamped_at x =
    let b = lt (decimal false 5 1) (absolute x.re) in
    let p : R x x.re = record { same = refl } in
    cond_rel R b b refl (r_mul p (r_lit (Ieee.div binary64 (decimal false 5 1) (absolute x.re)))) p

clamped_part : {x : DualOf Float} {x' : Float} → R x x' → R (clamped (duals floats) x) (clamped floats x')
clamped_part {x = x} p = rw (← p.same) (clamped_at x)

abbrev D : Type 0
D = DualOf Float

module _ (U : D → Ans (PotentialIn D)) (U' : Float → Ans (PotentialIn Float)) (r-U : (x : D) (u : Float) → R x u → Kept (PotentialR R) (U x) (U' u)) where
  module _ (tested : PotentialIn D → Ans D) (tested' : PotentialIn Float → Ans Float) (r-tested : (v : PotentialIn D) (w : PotentialIn Float) → PotentialR R v w → Kept R (tested v) (tested' w))
      (moved : D → PotentialIn D → D → D) (moved' : Float → PotentialIn Float → Float → Float)
      (r-moved : (r : D) (r' : Float) (v : PotentialIn D) (w : PotentialIn Float) (f : D) (f' : Float) → R r r' → PotentialR R v w → R f f' → R (moved r v f) (moved' r' w f')) where
    evaluated_part : {v : PotentialIn D} {v' : PotentialIn Float} {f x : D} {f' x' : Float} → PotentialR R v v' → R f f' → R x x' → R (evaluated (duals floats) v f x) (evaluated floats v' f' x')
    evaluated_part v f x = r_after v.u (r_after v.u_r (r_after v.u_rr (r_after f x)))

    from_part : (n : ℕ) {r u : D} {r' u' : Float} → R r r' → R u u' → Kept (CountedR R) (search_from (duals floats) U tested moved n r u) (search_from floats U' tested' moved' n r' u')
    unfolding search_from
    from_part zero p q = kept_held (record { search = spent_both p q; count = refl })
    from_part (suc n) p q =
        then_kept (r-U _ _ p) (λ _ _ v.
        then_kept (r-tested _ _ v) (λ _ _ f.
        cond_rel (Kept (CountedR R)) _ _ (ap (λ (x : Float). lt (absolute x) (decimal false 1 12)) (r_val f))
        (kept_held (record { search = found_both (evaluated_part v f p) v.u; count = refl }))
        (from_part n (evaluated_part v f (r-moved _ _ _ _ _ _ p v f)) v.u)))

    searched_part : {s : D} {s' : Float} → R s s' → Kept (CountedR R) (searched (duals floats) U tested moved s) (searched floats U' tested' moved' s')
    unfolding searched
    searched_part p = from_part 19 p (r_lit _)

  pub sigma_part : {s : D} {s' : Float} → R s s' → Kept (CountedR R) (sigma_search (duals floats) U s) (sigma_search floats U' s')
  unfolding sigma_search
  sigma_part p = searched_part _ _ (λ _ _ v. kept_held v.u) _ _ (λ _ _ _ _ _ _ r v f. r_add r (r_div (r_neg v.u) v.u_r)) p

  pub depth_part : {s : D} {s' : Float} → R s s' → Kept (CountedR R) (depth_search (duals floats) U s) (depth_search floats U' s')
  unfolding depth_search
  depth_part p = searched_part _ _ (λ _ _ v. kept_held v.u_r) _ _ (λ _ _ _ _ _ _ r v f. r_add r (r_div (r_neg v.u_r) v.u_rr)) p

  module _ (E : Answers) where
    abbrev F : Functions D
    F = dual_functions E

    abbrev G : Functions Float
    G = calls floats E

    pub zero_part : {t s : D} {t' s' : Float} → R t t' → R s s' → Kept (CountedR R) (zero_search (duals floats) U F t s) (zero_search floats U' G t' s')
    unfolding zero_search zero_tested
    zero_part t p =
        searched_part _ _ (λ _ _ v. then_kept (both_kept (ln_part E _ _ (r_lit _))) (λ _ _ l. kept_held (r_add (r_div v.u t) l)))
        _ _ (λ _ _ _ _ _ _ r v f. r_add r (clamped_part (r_neg (r_div f (r_div v.u_r t))))) (r_mul p (r_lit _))

    entry_part : (table : List Decimal) (k : ℕ) → R (entry F table k) (entry G table k)
    unfolding entry
    entry_part table k = plain_is _

    node_part : {t s r d : D} {t' s' r' d' : Float} (k : ℕ) → R t t' → R s s' → R r r' → R d d' → Kept R (node_turn (duals floats) F U t s r k d) (node_turn floats G U' t' s' r' k d')
    unfolding node_turn
    node_part k t s r d =
        let width = r_mul (r_sub s r) (r_lit (decimal false 5 1)) in
        then_kept (r-U _ _ (r_add (r_add (r_mul width (entry_part abscissas k)) width) r)) (λ _ _ v.
        then_kept (both_kept (exp_part E _ _ (r_div (r_neg v.u) t))) (λ _ _ e.
        kept_held (r_after v.u_r (r_after v.u_rr (r_add d (r_mul (r_mul width (r_add (r_neg e) (r_lit _))) (entry_part weights k)))))))

    pub diameter_part : {t s r : D} {t' s' r' : Float} → R t t' → R s s' → R r r' → Kept R (diameter_by (duals floats) F U t s r) (diameter_by floats G U' t' s' r')
    unfolding diameter_by
    diameter_part t s r = walk_kept R 21 _ _ (λ k _ _ d. node_part k t s r d) r

    radius_part : {s : SearchIn D} {t : SearchIn Float} → SearchR R s t → R (radius_of s) (radius_of t)
    radius_part (found_both p q) = p
    radius_part (spent_both p q) = p

    last_part : {s : SearchIn D} {t : SearchIn Float} → SearchR R s t → R (last_of s) (last_of t)
    last_part (found_both p q) = q
    last_part (spent_both p q) = q

    -- ---- a pair's properties
    pub properties_part : (p : PairIn D) (q : PairIn Float) → R p.sigma q.sigma → R p.mass q.mass → R p.temperature q.temperature → Kept (PropertiesR R) (properties_by (duals floats) F p U) (properties_by floats G q U')
    unfolding properties_by
    properties_part p q sigma mass t =
        then_kept (sigma_part (r_mul (r_lit _) sigma)) (λ _ _ s.
        then_kept (zero_part t (radius_part s.search)) (λ _ _ z.
        then_kept (diameter_part t (radius_part s.search) (radius_part z.search)) (λ _ _ d.
        then_kept (depth_part (r_mul (r_lit _) sigma)) (λ _ _ e.
        kept_held
        (record {
          sigma_eff = radius_part s.search;
          hs_diameter = d;
          epsilon_k_eff = r_neg (r_after (radius_part e.search) (last_part e.search));
          quantum_d = quantum_d_part E mass t;
          sigma_count = s.count;
          zero_count = z.count;
          depth_count = e.count;
        })))))
