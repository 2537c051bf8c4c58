-- Demand 3 on the diameter of a pair: whatever is handed in and whatever the elementary functions answer, the ends that are reported enclose the float operation's result and the exact run's. Assumes nothing.
use Prim.Native.Nat.{ℕ}
use lib.Ieee.{Float}
use mathlib.Core.Path.{◌≡◌, refl, ap, ◌∙◌}
use mathlib.Core.Bool.{true}
use Rattle.number.specs.Ans.{Ans, held, refused}
use Rattle.number.specs.Arith.{Arith, floats}
use Rattle.number.specs.Functions.{Functions, Answers, calls}
use Rattle.sizes.specs.Sizes.{cell}
use Rattle.number.proofs.Rel.{Rel, FunRel, Both, calls_rel}
use Rattle.std.specs.Prelude.{Result, Ok, Err}
use Rattle.number.specs.declared.refusal.Refusal.{Refusal}
use Rattle.number.specs.Answer.{answer_by, code}
use Rattle.limits.specs.Limits.{pair_asked}
use Rattle.limits.proofs.Asked.{asked_held, asked_refused}
use Rattle.enclosure.specs.declared.Enclosure.{Enclosure}
use Rattle.enclosure.specs.declared.Ends.{Ends}
use Rattle.enclosure.specs.Enclosure.{enclosures, point}
use Rattle.enclosure.specs.Constants.{Choice}
use Rattle.enclosure.specs.Exact.{exacts}
use Rattle.enclosure.specs.Ends.{Fair, Encloses, ends_alone}
use Rattle.enclosure.proofs.Relations.{Value, values, contains}
use Rattle.enclosure.proofs.TwoEnds.{operation_1, operation_2, operation_alone, operation_encloses}
use Rattle.saftvrqmie_parameters.specs.declared.SaftVRQMiePars.{SaftVRQMiePars}
use Rattle.saftvrqmie_potential.specs.Potential.{FloatPair, PairIn, pair_by, pair_at_entry, points_of}
use Rattle.saftvrqmie_potential.specs.declared.Pair.{Pair}
use Rattle.saftvrqmie_potential.proofs.Relation.{PairR}
use Rattle.saftvrqmie_searches.specs.Diameter.{diameter}
use Rattle.saftvrqmie_searches.proofs.Relation.{diameter_rel}
use Rattle.saftvrqmie.specs.Pairs.{diameter_run, diameter_ij_by}
use Rattle.saftvrqmie_diameter_ends.specs.Operations.{diameter_ends}

-- a pair read by two runs
points_rel : (A B : Arith) (K : Rel A B) (p : FloatPair) → PairR K.R (points_of A p) (points_of B p)
points_rel A B K p =
    record {
      sigma = K.r_lit p.sigma;
      epsilon_k = K.r_lit p.epsilon_k;
      c = K.r_lit p.c;
      lr = K.r_lit p.lr;
      la = K.r_lit p.la;
      mass = K.r_lit p.mass;
      order = refl;
      temperature = K.r_lit p.temperature;
    }

-- runs of the diameter keep what their arithmetics and functions keep
module _ (A B : Arith) (K : Rel A B) (F : Functions A.Num) (G : Functions B.Num) (H : FunRel K.R F G) where
  pub run_rel : (s : SaftVRQMiePars) (i j : ℕ) (t sigma_eff r0 : Float) → Both K.R (diameter_run A F s i j t sigma_eff r0) (diameter_run B G s i j t sigma_eff r0)
  run_rel s i j t sigma_eff r0 = diameter_rel A B K F G H (points_rel A B K (pair_at_entry s.sheets s.orders t (cell i j))) (K.r_lit sigma_eff) (K.r_lit r0)

module _ (E : Answers) (s : SaftVRQMiePars) (i j : ℕ) (t sigma_eff r0 : Float) where
  pub run_values : Both Value (diameter_run enclosures (calls enclosures E) s i j t sigma_eff r0) (diameter_run floats (calls floats E) s i j t sigma_eff r0)
  run_values = run_rel enclosures floats values (calls enclosures E) (calls floats E) (calls_rel enclosures floats values E) s i j t sigma_eff r0

  module _ (f : Result (Unit {0}) Refusal) (asked : answer_by (λ _. true) f ≡ pair_asked s.count i j t) where
    pub ends_asked : (r : Refusal) → f ≡ Err r → refused (code r) ≡ diameter_ends E s i j t sigma_eff r0
    unfolding diameter_ends diameter_ij_by
    ends_asked r e = asked_refused _ _ _ _ f asked r e (λ k. refused k ≡ diameter_ends E s i j t sigma_eff r0) (operation_1 run_values _ _) (operation_2 run_values _ _)

    -- from what the code works
    pub ends_on : f ≡ Ok tt → (w : Pair Enclosure Float) (x : PairIn Enclosure) (u y z : Enclosure) (a : Ans Enclosure) (b : Ans Ends)
        → u ≡ point t → w ≡ pair_at_entry s.sheets s.orders u (cell i j) → x ≡ pair_by point (λ v. v) w → y ≡ point sigma_eff → z ≡ point r0 → a ≡ diameter enclosures (calls enclosures E) x y z → b ≡ ends_alone a → b ≡ diameter_ends E s i j t sigma_eff r0
    unfolding diameter_ends diameter_ij_by
    ends_on on w x u y z a b d e v g h k l =
        let o = asked_held _ _ _ _ f asked on in
        let m : a ≡ diameter_run enclosures (calls enclosures E) s i j t sigma_eff r0 = k ∙ rw (v, e, d, g, h) in
        l ∙ (ap ends_alone m ∙ operation_alone run_values _ _ o.0 o.1)

  -- for any elementary answers and any fair choice of the constants: the float operation's result and the exact run's
  pub diameter_encloses : (q : Choice) → Fair q → (e : Ends) → diameter_ends E s i j t sigma_eff r0 ≡ held e → Encloses e (diameter_ij_by E s i j t sigma_eff r0) (diameter_run (exacts q) (calls (exacts q) E) s i j t sigma_eff r0)
  unfolding diameter_ends diameter_ij_by
  diameter_encloses q fair = operation_encloses run_values _ _ (run_rel enclosures (exacts q) (contains q fair) (calls enclosures E) (calls (exacts q) E) (calls_rel enclosures (exacts q) (contains q fair) E) s i j t sigma_eff r0)
