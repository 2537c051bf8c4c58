-- Operations on one pair, test by test, over plain values. Assumes nothing.
use Prim.Native.Nat.{ℕ}
use lib.Ieee.{Float}
use mathlib.Core.Path.{◌≡◌, refl, sym, ◌∙◌}
use mathlib.Core.Bool.{true}
use Rattle.number.specs.Ans.{Ans, held, refused, ◌>>=◌, demand}
use Rattle.number.specs.Arith.{floats}
use Rattle.number.specs.Functions.{calls}
use Rattle.elementary.specs.Port.{port}
use Rattle.std.specs.Prelude.{Result, Ok, Err}
use Rattle.number.specs.declared.refusal.Refusal.{Refusal}
use Rattle.number.specs.Answer.{answer_by, code, if_finite}
use Rattle.limits.specs.Limits.{pair_asked}
use Rattle.limits.proofs.Asked.{asked_held, asked_refused}
use Rattle.saftvrmie_diameter.specs.Diameter.{c_eps_t, lower_limit, diameter_from}
use Rattle.saftvrmie_parameters.specs.Parameters.{pair_at}
use Rattle.saftvrmie_parameters.specs.declared.PairParameters.{PairParameters}
use Rattle.saftvrmie_parameters.specs.declared.SaftVRMiePars.{SaftVRMiePars}
use Rattle.saftvrmie.specs.Pairs.{radius_ij, diameter_run, diameter_ij_by, diameter_ij}

module _ (s : SaftVRMiePars) (i j : ℕ) (t : Float) where
  module _ (b : Result (Unit {0}) Refusal) (asked : answer_by (λ _. true) b ≡ pair_asked s.count i j t) where
    pub radius_asked : (r : Refusal) → b ≡ Err r → refused (code r) ≡ radius_ij s i j t
    unfolding radius_ij demand ◌>>=◌
    radius_asked r e = asked_refused _ _ _ _ b asked r e (λ k. refused k ≡ radius_ij s i j t) (λ p. rw p) (λ p q. rw (p, q))

    pub diameter_asked : (r0 : Float) (r : Refusal) → b ≡ Err r → refused (code r) ≡ diameter_ij s i j t r0
    unfolding diameter_ij_by demand ◌>>=◌
    diameter_asked r0 r e = asked_refused _ _ _ _ b asked r e (λ k. refused k ≡ diameter_ij s i j t r0) (λ p. rw p) (λ p q. rw (p, q))

    module _ (on : b ≡ Ok tt) (p : PairParameters) (is-p : p ≡ pair_at s.sheets i j) (c : Float) (is_c : c ≡ c_eps_t floats t p.c p.epsilon_k) where
      pub radius_is : (a : Ans Float) → a ≡ lower_limit floats (calls floats port) p.la p.lr c → a ≡ radius_ij s i j t
      unfolding radius_ij demand ◌>>=◌
      radius_is a h = let g = asked_held _ _ _ _ b asked on in rw (g.0, g.1) (h ∙ rw (is_c, is-p) refl)

      module _ (r0 : Float) (a : Ans Float) (h : a ≡ diameter_from floats (calls floats port) p.la p.lr c p.sigma r0) where
        read : diameter_run floats (calls floats port) s i j t r0 ≡ a
        read = sym (h ∙ rw (is_c, is-p) refl)

        pub diameter_6 : (k : ℕ) → a ≡ refused k → refused k ≡ diameter_ij s i j t r0
        unfolding diameter_ij_by demand ◌>>=◌
        diameter_6 k g = let o = asked_held _ _ _ _ b asked on in rw (o.0, o.1, read, g)

        pub diameter_is : (d : Float) (w : Ans Float) → a ≡ held d → w ≡ if_finite d → w ≡ diameter_ij s i j t r0
        unfolding diameter_ij_by if_finite demand ◌>>=◌
        diameter_is d w g f = let o = asked_held _ _ _ _ b asked on in rw (o.0, o.1, read, g) f
