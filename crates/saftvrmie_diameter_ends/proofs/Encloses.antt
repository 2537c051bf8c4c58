-- Demand 3 on the diameter of a pair: whatever is handed in and whatever the elementary functions answer, the ends that are reported enclose the float operation's result and the exact run's. Assumes nothing.
use Prim.Native.Nat.{ℕ}
use lib.Ieee.{Float}
use mathlib.Core.Path.{◌≡◌, refl, ap, ◌∙◌}
use mathlib.Core.Bool.{true}
use Rattle.number.specs.Ans.{Ans, held, refused}
use Rattle.number.specs.Arith.{Arith, floats}
use Rattle.number.specs.Functions.{Functions, Answers, calls}
use Rattle.number.proofs.Rel.{Rel, FunRel, Both, calls_rel}
use Rattle.std.specs.Prelude.{Result, Ok, Err}
use Rattle.number.specs.declared.refusal.Refusal.{Refusal}
use Rattle.number.specs.Answer.{answer_by, code}
use Rattle.limits.specs.Limits.{pair_asked}
use Rattle.limits.proofs.Asked.{asked_held, asked_refused}
use Rattle.enclosure.specs.declared.Enclosure.{Enclosure}
use Rattle.enclosure.specs.declared.Ends.{Ends}
use Rattle.enclosure.specs.Enclosure.{enclosures, point}
use Rattle.enclosure.specs.Constants.{Choice}
use Rattle.enclosure.specs.Exact.{exacts}
use Rattle.enclosure.specs.Ends.{Fair, Encloses, ends_alone}
use Rattle.enclosure.proofs.Relations.{Value, values, contains}
use Rattle.enclosure.proofs.TwoEnds.{operation_1, operation_2, operation_alone, operation_encloses}
use Rattle.saftvrmie_parameters.specs.Parameters.{pair_at}
use Rattle.saftvrmie_parameters.specs.declared.PairParameters.{PairParameters}
use Rattle.saftvrmie_parameters.specs.declared.SaftVRMiePars.{SaftVRMiePars}
use Rattle.saftvrmie_diameter.specs.Diameter.{c_eps_t, diameter_from}
use Rattle.saftvrmie_diameter.proofs.Relation.{c_eps_t_rel, diameter_from_rel}
use Rattle.saftvrmie.specs.Pairs.{diameter_run, diameter_ij_by}
use Rattle.saftvrmie_diameter_ends.specs.Operations.{diameter_ends}

-- runs of the diameter keep what their arithmetics and functions keep
module _ (A B : Arith) (K : Rel A B) (F : Functions A.Num) (G : Functions B.Num) (H : FunRel K.R F G) where
  pub run_rel : (s : SaftVRMiePars) (i j : ℕ) (t r0 : Float) → Both K.R (diameter_run A F s i j t r0) (diameter_run B G s i j t r0)
  run_rel s i j t r0 = diameter_from_rel A B K F G H (K.r_lit _) (K.r_lit _) (c_eps_t_rel A B K F G H (K.r_lit _) (K.r_lit _) (K.r_lit _)) _ _ _ _ (K.r_lit _) (K.r_lit _)

module _ (E : Answers) (s : SaftVRMiePars) (i j : ℕ) (t r0 : Float) where
  pub run_values : Both Value (diameter_run enclosures (calls enclosures E) s i j t r0) (diameter_run floats (calls floats E) s i j t r0)
  run_values = run_rel enclosures floats values (calls enclosures E) (calls floats E) (calls_rel enclosures floats values E) s i j t r0

  module _ (f : Result (Unit {0}) Refusal) (asked : answer_by (λ _. true) f ≡ pair_asked s.count i j t) where
    pub ends_asked : (r : Refusal) → f ≡ Err r → refused (code r) ≡ diameter_ends E s i j t r0
    unfolding diameter_ends diameter_ij_by
    ends_asked r e = asked_refused _ _ _ _ f asked r e (λ k. refused k ≡ diameter_ends E s i j t r0) (operation_1 run_values _ _) (operation_2 run_values _ _)

    -- from what the code works
    pub ends_on : f ≡ Ok tt → (p : PairParameters) (la lr c sigma r : Enclosure) (a : Ans Enclosure) (b : Ans Ends)
        → p ≡ pair_at s.sheets i j → la ≡ point p.la → lr ≡ point p.lr → c ≡ c_eps_t enclosures (point t) (point p.c) (point p.epsilon_k) → sigma ≡ point p.sigma → r ≡ point r0
        → a ≡ diameter_from enclosures (calls enclosures E) la lr c sigma r → b ≡ ends_alone a → b ≡ diameter_ends E s i j t r0
    unfolding diameter_ends diameter_ij_by
    ends_on on p la lr c sigma r a b is-p v g h k l m n =
        let o = asked_held _ _ _ _ f asked on in
        let w : a ≡ diameter_run enclosures (calls enclosures E) s i j t r0 = m ∙ rw (v, g, h, k, is-p, l) refl in
        n ∙ (ap ends_alone w ∙ operation_alone run_values _ _ o.0 o.1)

  -- for any elementary answers and any fair choice of the constants: the float operation's result and the exact run's
  pub diameter_encloses : (q : Choice) → Fair q → (e : Ends) → diameter_ends E s i j t r0 ≡ held e → Encloses e (diameter_ij_by E s i j t r0) (diameter_run (exacts q) (calls (exacts q) E) s i j t r0)
  unfolding diameter_ends diameter_ij_by
  diameter_encloses q fair = operation_encloses run_values _ _ (run_rel enclosures (exacts q) (contains q fair) (calls enclosures E) (calls (exacts q) E) (calls_rel enclosures (exacts q) (contains q fair) E) s i j t r0)
