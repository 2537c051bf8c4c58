-- A pair with a potential at no radius has no diameter; and a node from u after both derivatives is a node after both. Assumes nothing.
use native.Mathlib.Omega.{arith}
use Prim.Native.Nat.{ℕ}
use mathlib.Core.Path.{◌≡◌, refl, sym, ap, ◌∙◌, fun_ext}
use mathlib.Core.Bool.{Bool, true, false, ◌&&◌}
use lib.Dec.{T}
use lib.Ieee.{Float}
use lib.Ieee.Fits.{and_l, and_r}
use Rattle.number.specs.Ans.{Ans, held, refused, ◌>>=◌}
use Rattle.number.specs.Arith.{decimal}
use Rattle.number.specs.Functions.{calls, answered, entry}
use Rattle.number.proofs.Walk.{walk_none, walk_stop}
use Rattle.elementary.specs.Port.{port}
use Rattle.enclosure.specs.declared.Enclosure.{Enclosure}
use Rattle.interval.specs.Interval.{neg_i, after_i}
use Rattle.interval.proofs.Encloses.{add_sound, mul_sound, div_sound}
use Rattle.enclosure.specs.Enclosure.{enclosures, point, add_e, sub_e, mul_e, div_e, neg_e, after_e}
use Rattle.saftvrqmie_potential.specs.Potential.{PairIn, PotentialIn, potential}
use Rattle.saftvrqmie_searches.specs.Diameter.{width_from, abscissas, weights, node_turn, diameter_by, diameter}
use Rattle.saftvrqmie_alone_ends.specs.Alone.{u_after}
use Rattle.saftvrqmie_alone_ends.proofs.Same.{Same, same, add_same, mul_same, neg_same, one_flag, flags}

pub diameter_none : (p : PairIn Enclosure) (sigma_eff r0 : Enclosure) (n : ℕ) → ((r : Enclosure) → potential enclosures (calls enclosures port) p r ≡ refused n) → refused n ≡ diameter enclosures (calls enclosures port) p sigma_eff r0
unfolding diameter diameter_by node_turn ◌>>=◌
diameter_none p sigma_eff r0 n h = rw (fun_ext h) (walk_stop _ _ 21 0 n r0 (omega arith) (walk_none _ _) refl)

-- ---- a node's part from what the exponential answers
module _ (temperature width weight d-hs : Enclosure) where
  abbrev part : Enclosure → Enclosure
  part e = add_e d-hs (mul_e (mul_e width (add_e (neg_e e) (point (decimal false 1 0)))) weight)

  module _ (y : Float) where
    -- from u, y being exp's answer
    abbrev next : Enclosure → Enclosure
    next u = part (after_e (div_e (neg_e u) temperature) (point y))

    next_same : (u v : Enclosure) → Same (next u) (next v)
    unfolding after_e after_i
    next_same u v = add_same same (mul_same (mul_same same (add_same (neg_same (record { is = refl })) same)) same)

    -- a sound part had a sound u
    next_sound : (u : Enclosure) → T (next u).ends.sound → T u.ends.sound
    unfolding add_e mul_e div_e neg_e after_e neg_i after_i
    next_sound u t =
        let q = div_e (neg_e u) temperature in
        let e = after_e q (point y) in
        let one = point (decimal false 1 0) in
        let f = add_e (neg_e e) one in
        let m = mul_e width f in
        let n = mul_e m weight in
        let a = and_r d-hs.ends.sound n.ends.sound (add_sound d-hs.ends n.ends t) in
        let b = and_l m.ends.sound weight.ends.sound (mul_sound m.ends weight.ends a) in
        let c = and_r width.ends.sound f.ends.sound (mul_sound width.ends f.ends b) in
        let d = and_l e.ends.sound one.ends.sound (add_sound (neg_e e).ends one.ends c) in
        and_l u.ends.sound temperature.ends.sound (div_sound (neg_e u).ends temperature.ends (and_l q.ends.sound (point y).ends.sound d))

    -- what counts for u counts for the part
    abbrev counted : Bool → Enclosure → Enclosure
    counted g x = record { value = x.value; ends = record { lower = x.ends.lower; upper = x.ends.upper; sound = g && x.ends.sound } }

    next_counted : (g : Bool) (u : Enclosure) → next (counted g u) ≡ counted g (next u)
    next_counted true u = refl
    next_counted false u = one_flag _ _ (record { is = (next_same (counted false u) u).is }) (flags _ false (next_sound (counted false u)) (λ t. absurd t))

    next_after : (p q u : Enclosure) → next (after_e p (after_e q u)) ≡ after_e p (after_e q (next u))
    unfolding after_e after_i
    next_after p q u = next_counted p.ends.sound (after_e q u) ∙ ap (counted p.ends.sound) (next_counted q.ends.sound u)

  answered_after : (a : Ans Float) (p q u : Enclosure)
      → (answered enclosures a (div_e (neg_e (after_e p (after_e q u))) temperature) >>= λ e. held (part e)) ≡ (answered enclosures a (div_e (neg_e u) temperature) >>= λ e. held (after_e p (after_e q (part e))))
  unfolding answered ◌>>=◌
  answered_after (held y) p q u = ap held (next_after y p q u)
  answered_after (refused n) p q u = refl

  part_after : (a : Ans (PotentialIn Enclosure))
      → (u_after a >>= λ u. (calls enclosures port).exp (div_e (neg_e u) temperature) >>= λ e. held (part e)) ≡ (a >>= λ v. (calls enclosures port).exp (div_e (neg_e v.u) temperature) >>= λ e. held (after_e v.u_r (after_e v.u_rr (part e))))
  unfolding u_after ◌>>=◌ div_e neg_e after_e
  part_after (held v) = answered_after _ v.u_r v.u_rr v.u
  part_after (refused n) = refl

-- the node as the code works it
module _ (U : Enclosure → Ans (PotentialIn Enclosure)) (temperature r0 width : Enclosure) (k : ℕ) (d-hs : Enclosure) where
  abbrev pub turn : Ans Enclosure
  turn =
      u_after (U (add_e (add_e (mul_e width (entry (calls enclosures port) abscissas k)) width) r0)) >>= λ u.
      (calls enclosures port).exp (div_e (neg_e u) temperature) >>= λ e.
      held (add_e d-hs (mul_e (mul_e width (add_e (neg_e e) (point (decimal false 1 0)))) (entry (calls enclosures port) weights k)))

  pub turn_is : (sigma_eff : Enclosure) → width ≡ width_from enclosures sigma_eff r0 → {a : Ans Enclosure} → turn ≡ a → node_turn enclosures (calls enclosures port) U temperature sigma_eff r0 k d-hs ≡ a
  unfolding node_turn
  turn_is sigma_eff h l = sym (part_after temperature width (entry (calls enclosures port) weights k) d-hs _ ∙ rw h) ∙ l

pub width_worked : (sigma_eff r0 h d m : Enclosure) → h ≡ point (decimal false 5 1) → d ≡ sub_e sigma_eff r0 → m ≡ mul_e d h → m ≡ width_from enclosures sigma_eff r0
width_worked sigma_eff r0 h d m i j k = rw (k, j, i)
