-- Operations on one pair, test by test, over plain values. Assumes nothing.
use Prim.Native.Nat.{ℕ}
use lib.Ieee.{Float}
use mathlib.Core.Path.{◌≡◌, sym, ap, ◌∙◌}
use mathlib.Core.Bool.{true}
use Rattle.number.specs.Ans.{Ans, held, refused, ◌>>=◌, demand}
use Rattle.number.specs.Arith.{floats}
use Rattle.number.specs.Functions.{calls}
use Rattle.sizes.specs.Sizes.{cell}
use Rattle.elementary.specs.Port.{port}
use Rattle.std.specs.Prelude.{Result, Ok, Err}
use Rattle.number.specs.declared.refusal.Refusal.{Refusal}
use Rattle.number.specs.Answer.{answer_by, code, if_finite}
use Rattle.limits.specs.Limits.{pair_asked}
use Rattle.limits.proofs.Asked.{asked_held, asked_refused}
use Rattle.saftvrqmie_parameters.specs.declared.SaftVRQMiePars.{SaftVRQMiePars}
use Rattle.saftvrqmie_potential.specs.Potential.{FloatPair, pair_in, pair_at_entry}
use Rattle.saftvrqmie_searches.specs.Diameter.{diameter}
use Rattle.saftvrqmie.specs.Pairs.{SearchesIn, pair_searches, radii_ij, diameter_ij_by, diameter_ij}

module _ (s : SaftVRQMiePars) (i j : ℕ) (t : Float) where
  abbrev pair : FloatPair
  pair = pair_at_entry s.sheets s.orders t (cell i j)

  module _ (b : Result (Unit {0}) Refusal) (asked : answer_by (λ _. true) b ≡ pair_asked s.count i j t) where
    pub searches_asked : (r : Refusal) → b ≡ Err r → refused (code r) ≡ radii_ij s i j t
    unfolding radii_ij demand ◌>>=◌
    searches_asked r e = asked_refused _ _ _ _ b asked r e (λ k. refused k ≡ radii_ij s i j t) (λ p. rw p) (λ p q. rw (p, q))

    pub searches_are : (x : FloatPair) (a : Ans (SearchesIn Float)) → b ≡ Ok tt → x ≡ pair → a ≡ pair_searches floats (calls floats port) (pair_in x) → a ≡ radii_ij s i j t
    unfolding radii_ij demand ◌>>=◌
    searches_are x a on e h = let g = asked_held _ _ _ _ b asked on in rw (g.0, g.1) (h ∙ ap (λ (x : FloatPair). pair_searches floats (calls floats port) (pair_in x)) e)

    module _ (sigma_eff r0 : Float) where
      pub diameter_asked : (r : Refusal) → b ≡ Err r → refused (code r) ≡ diameter_ij s i j t sigma_eff r0
      unfolding diameter_ij_by demand ◌>>=◌
      diameter_asked r e = asked_refused _ _ _ _ b asked r e (λ k. refused k ≡ diameter_ij s i j t sigma_eff r0) (λ p. rw p) (λ p q. rw (p, q))

      module _ (on : b ≡ Ok tt) (x : FloatPair) (e : x ≡ pair) (a : Ans Float) (h : a ≡ diameter floats (calls floats port) (pair_in x) sigma_eff r0) where
        here : diameter floats (calls floats port) (pair_in pair) sigma_eff r0 ≡ a
        here = sym (h ∙ ap (λ (x : FloatPair). diameter floats (calls floats port) (pair_in x) sigma_eff r0) e)

        pub diameter_6 : (k : ℕ) → a ≡ refused k → refused k ≡ diameter_ij s i j t sigma_eff r0
        unfolding diameter_ij_by demand ◌>>=◌
        diameter_6 k g = let o = asked_held _ _ _ _ b asked on in rw (o.0, o.1, here, g)

        pub diameter_is : (d : Float) (w : Ans Float) → a ≡ held d → w ≡ if_finite d → w ≡ diameter_ij s i j t sigma_eff r0
        unfolding diameter_ij_by if_finite demand ◌>>=◌
        diameter_is d w g f = let o = asked_held _ _ _ _ b asked on in rw (o.0, o.1, here, g) f
