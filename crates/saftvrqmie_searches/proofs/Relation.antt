-- The searches and the diameter keep any relation that the operations and the elementary functions keep. Assumes nothing.
use Prim.Native.Nat.{ℕ, zero, suc}
use lib.Ieee as Ieee
use lib.Ieee.{Float, binary64, lt}
use mathlib.Core.Path.{◌≡◌, refl, ap}
use mathlib.Core.Bool.{false}
use mathlib.Core.List.{List}
use Rattle.number.specs.Ans.{Ans}
use Rattle.number.specs.Arith.{Arith, decimal}
use Rattle.number.specs.Functions.{Functions, Decimal, entry}
use Rattle.number.specs.Neighbour.{absolute}
use Rattle.number.proofs.Rel.{Rel, FunRel, Both, both_held, then_both, cond_rel, walk_rel}
use Rattle.saftvrqmie_potential.specs.Potential.{PairIn, PotentialIn, potential}
use Rattle.saftvrqmie_potential.proofs.Relation.{PairR, PotentialR, potential_rel}
use Rattle.saftvrqmie_searches.specs.Searches.{SearchIn, Counted, found, spent, clamped, evaluated, search_from, searched, zero_tested, sigma_search, depth_search, zero_search, sigma_eff, zero_integrand, epsilon_k_eff}
use Rattle.saftvrqmie_searches.specs.Diameter.{abscissas, weights, node_turn, diameter_by, diameter}

pub data SearchR {S T : Type 0} (R : S → T → Type 0) : SearchIn S → SearchIn T → Type 0 where
  found_both : {r u : S} {r' u' : T} → R r r' → R u u' → SearchR R (found r u) (found r' u')
  spent_both : {r u : S} {r' u' : T} → R r r' → R u u' → SearchR R (spent r u) (spent r' u')

-- the count is one
pub record CountedR {S T : Type 0} (R : S → T → Type 0) (c : Counted S) (d : Counted T) : Type 0 where
  pub search : SearchR R c.search d.search
  pub count : c.count ≡ d.count

pub counted_r : {S T : Type 0} (R : S → T → Type 0) {c : Counted S} {d : Counted T} → SearchR R c.search d.search → c.count ≡ d.count → CountedR R c d
counted_r R s n = record { search = s; count = n }

module _ (A B : Arith) (K : Rel A B) where
  open K use {R, r_add, r_sub, r_mul, r_div, r_neg, r_lit, r_val, r_after}

  clamped_rel : {x : A.Num} {x' : B.Num} → R x x' → R (clamped A x) (clamped B x')
  unfolding clamped
  clamped_rel {x' = x'} p =
      let b = lt (decimal false 5 1) (absolute (B.val x')) in
      rw (r_val p) (cond_rel R b b refl (r_mul p (r_lit (Ieee.div binary64 (decimal false 5 1) (absolute (B.val x'))))) p)

  module _ (U : A.Num → Ans (PotentialIn A.Num)) (U' : B.Num → Ans (PotentialIn B.Num)) (r-U : (x : A.Num) (u : B.Num) → R x u → Both (PotentialR R) (U x) (U' u)) where
    module _ (tested : PotentialIn A.Num → Ans A.Num) (tested' : PotentialIn B.Num → Ans B.Num) (r-tested : (v : PotentialIn A.Num) (w : PotentialIn B.Num) → PotentialR R v w → Both R (tested v) (tested' w))
        (moved : A.Num → PotentialIn A.Num → A.Num → A.Num) (moved' : B.Num → PotentialIn B.Num → B.Num → B.Num)
        (r-moved : (r : A.Num) (r' : B.Num) (v : PotentialIn A.Num) (w : PotentialIn B.Num) (f : A.Num) (f' : B.Num) → R r r' → PotentialR R v w → R f f' → R (moved r v f) (moved' r' w f')) where
      evaluated_rel : {v : PotentialIn A.Num} {v' : PotentialIn B.Num} {f x : A.Num} {f' x' : B.Num} → PotentialR R v v' → R f f' → R x x' → R (evaluated A v f x) (evaluated B v' f' x')
      evaluated_rel v f x = r_after v.u (r_after v.u_r (r_after v.u_rr (r_after f x)))

      from_rel : (n : ℕ) {r u : A.Num} {r' u' : B.Num} → R r r' → R u u' → Both (CountedR R) (search_from A U tested moved n r u) (search_from B U' tested' moved' n r' u')
      unfolding search_from
      from_rel zero p q = both_held (counted_r R (spent_both p q) refl)
      from_rel (suc n) p q =
          then_both (r-U _ _ p) (λ _ _ v.
          then_both (r-tested _ _ v) (λ _ _ f.
          cond_rel (Both (CountedR R)) _ _ (ap (λ (x : Float). lt (absolute x) (decimal false 1 12)) (r_val f))
          (both_held (counted_r R (found_both (evaluated_rel v f p) v.u) refl))
          (from_rel n (evaluated_rel v f (r-moved _ _ _ _ _ _ p v f)) v.u)))

      searched_rel : {s : A.Num} {s' : B.Num} → R s s' → Both (CountedR R) (searched A U tested moved s) (searched B U' tested' moved' s')
      unfolding searched
      searched_rel p = from_rel 19 p (r_lit _)

    sigma_search_rel : {s : A.Num} {s' : B.Num} → R s s' → Both (CountedR R) (sigma_search A U s) (sigma_search B U' s')
    unfolding sigma_search
    sigma_search_rel p = searched_rel _ _ (λ _ _ v. both_held v.u) _ _ (λ _ _ _ _ _ _ r v f. r_add r (r_div (r_neg v.u) v.u_r)) p

    depth_search_rel : {s : A.Num} {s' : B.Num} → R s s' → Both (CountedR R) (depth_search A U s) (depth_search B U' s')
    unfolding depth_search
    depth_search_rel p = searched_rel _ _ (λ _ _ v. both_held v.u_r) _ _ (λ _ _ _ _ _ _ r v f. r_add r (r_div (r_neg v.u_r) v.u_rr)) p

    module _ (F : Functions A.Num) (G : Functions B.Num) (H : FunRel R F G) where
      open H use {r_ln, r_exp, r_node}

      zero_search_rel : {t s : A.Num} {t' s' : B.Num} → R t t' → R s s' → Both (CountedR R) (zero_search A U F t s) (zero_search B U' G t' s')
      unfolding zero_search zero_tested
      zero_search_rel t p =
          searched_rel _ _ (λ _ _ v. then_both (r_ln (r_lit _)) (λ _ _ l. both_held (r_add (r_div v.u t) l)))
          _ _ (λ _ _ _ _ _ _ r v f. r_add r (clamped_rel (r_neg (r_div f (r_div v.u_r t))))) (r_mul p (r_lit _))

      entry_rel : (table : List Decimal) (k : ℕ) → R (entry F table k) (entry G table k)
      unfolding entry
      entry_rel table k = r_node _ _ _

      node_rel : {t s r d : A.Num} {t' s' r' d' : B.Num} (k : ℕ) → R t t' → R s s' → R r r' → R d d' → Both R (node_turn A F U t s r k d) (node_turn B G U' t' s' r' k d')
      unfolding node_turn
      node_rel k t s r d =
          let width = r_mul (r_sub s r) (r_lit (decimal false 5 1)) in
          then_both (r-U _ _ (r_add (r_add (r_mul width (entry_rel abscissas k)) width) r)) (λ _ _ v.
          then_both (r_exp (r_div (r_neg v.u) t)) (λ _ _ e.
          both_held (r_after v.u_r (r_after v.u_rr (r_add d (r_mul (r_mul width (r_add (r_neg e) (r_lit _))) (entry_rel weights k)))))))

      diameter_by_rel : {t s r : A.Num} {t' s' r' : B.Num} → R t t' → R s s' → R r r' → Both R (diameter_by A F U t s r) (diameter_by B G U' t' s' r')
      unfolding diameter_by
      diameter_by_rel t s r = walk_rel R 21 _ _ (λ k _ _ d. node_rel k t s r d) r

  module _ (F : Functions A.Num) (G : Functions B.Num) (H : FunRel R F G) {p : PairIn A.Num} {q : PairIn B.Num} (P : PairR R p q) where
    abbrev at : (x : A.Num) (u : B.Num) → R x u → Both (PotentialR R) (potential A F p x) (potential B G q u)
    at x u h = potential_rel A B K F G H P h

    pub sigma_eff_rel : Both (CountedR R) (sigma_eff A F p) (sigma_eff B G q)
    unfolding sigma_eff
    sigma_eff_rel = sigma_search_rel _ _ at (r_mul (r_lit _) P.sigma)

    pub epsilon_k_eff_rel : Both (CountedR R) (epsilon_k_eff A F p) (epsilon_k_eff B G q)
    unfolding epsilon_k_eff
    epsilon_k_eff_rel = depth_search_rel _ _ at (r_mul (r_lit _) P.sigma)

    pub zero_integrand_rel : {s : A.Num} {s' : B.Num} → R s s' → Both (CountedR R) (zero_integrand A F p s) (zero_integrand B G q s')
    unfolding zero_integrand
    zero_integrand_rel s = zero_search_rel _ _ at F G H P.temperature s

    pub diameter_rel : {s r : A.Num} {s' r' : B.Num} → R s s' → R r r' → Both R (diameter A F p s r) (diameter B G q s' r')
    unfolding diameter
    diameter_rel s r = diameter_by_rel _ _ at F G H P.temperature s r
