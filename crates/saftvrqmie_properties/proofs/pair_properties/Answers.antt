-- `saftvrqmie_properties::pair_properties` meets its contract. Assumes nothing.
use mathlib.Core.Bool.{false}
use mathlib.Core.Path.{subst}
use lib.Ieee.{of_bits}
use Rattle.number.specs.Answer.{answer_by}
use Rattle.number.specs.Arith.{decimal}
use Rattle.number.proofs.Walk.{via, handed_on}
use Rattle.saftvrqmie_potential.specs.Shared.{Shares}
use Rattle.saftvrqmie_searches.specs.Searches.{counted_by}
use Rattle.saftvrqmie_properties.proofs.Ways.{radius_by, last_by, no_shared, no_sigma, no_zero, no_diameter, no_depth, properties_are}
use Rattle.saftvrqmie_properties.proofs.pair_properties.Goals as goal

pub returns-in_err-w : goal.returns-in_err-w
unfolding decimal of_bits
returns-in_err-w g c =
    let d = g.D.DualNum in
    let m = g.met.D.DualNum in
    let x = rw (c.lift.ensures false, m.plain_lit_law false _ _ c.lit.ensures) at (m.mul_plain_law false _ _ _ c.mul-sigma.ensures) in
    let h = (subst (Shares (d.beside false) (d.functions false) (d.plain false) (d.power_at false) (d.power_by false) (d.of false) d.exponent_in _) c.in_err-w.was (c.share.ensures.shares false)).0 c.mul-sigma.result in
    rw (handed_on _ c.from_residual.ensures) (no_shared _ _ _ _ _ _ _ (rw x at h))

pub returns-in_err-s : goal.returns-in_err-s
unfolding decimal of_bits
returns-in_err-s g c =
    let d = g.D.DualNum in
    let m = g.met.D.DualNum in
    let of = answer_by (counted_by (d.of false)) in
    let w = subst (Shares (d.beside false) (d.functions false) (d.plain false) (d.power_at false) (d.power_by false) (d.of false) d.exponent_in _) c.in_ok-w.was (c.share.ensures.shares false) in
    let x = rw (c.lift.ensures false, m.plain_lit_law false _ _ c.lit.ensures) at (m.mul_plain_law false _ _ _ c.mul-sigma.ensures) in
    rw (handed_on _ c.from_residual-in_err-s.ensures) (no_sigma _ _ _ _ _ _ _ x _ (via of (c.sigma_search.ensures.formula _ w) c.in_err-s.was))

pub returns-in_err-z : goal.returns-in_err-z
unfolding decimal of_bits
returns-in_err-z g c =
    let d = g.D.DualNum in
    let m = g.met.D.DualNum in
    let of = answer_by (counted_by (d.of false)) in
    let w = subst (Shares (d.beside false) (d.functions false) (d.plain false) (d.power_at false) (d.power_by false) (d.of false) d.exponent_in _) c.in_ok-w.was (c.share.ensures.shares false) in
    let x = rw (c.lift.ensures false, m.plain_lit_law false _ _ c.lit.ensures) at (m.mul_plain_law false _ _ _ c.mul-sigma.ensures) in
    let s = via of (c.sigma_search.ensures.formula _ w) c.in_ok-s.was in
    let sigma = radius_by (d.of false) _ _ c.radius-sigma_eff.ensures in
    rw (handed_on _ c.from_residual-in_err-z.ensures) (no_zero _ _ _ _ _ _ _ x _ s _ sigma _ (via of (c.zero_search.ensures.formula _ w) c.in_err-z.was))

pub returns-in_err-d : goal.returns-in_err-d
unfolding decimal of_bits
returns-in_err-d g c =
    let d = g.D.DualNum in
    let m = g.met.D.DualNum in
    let of = answer_by (counted_by (d.of false)) in
    let w = subst (Shares (d.beside false) (d.functions false) (d.plain false) (d.power_at false) (d.power_by false) (d.of false) d.exponent_in _) c.in_ok-w.was (c.share.ensures.shares false) in
    let x = rw (c.lift.ensures false, m.plain_lit_law false _ _ c.lit.ensures) at (m.mul_plain_law false _ _ _ c.mul-sigma.ensures) in
    let s = via of (c.sigma_search.ensures.formula _ w) c.in_ok-s.was in
    let sigma = radius_by (d.of false) _ _ c.radius-sigma_eff.ensures in
    let z = via of (c.zero_search.ensures.formula _ w) c.in_ok-z.was in
    let r0 = radius_by (d.of false) _ _ c.radius.ensures in
    rw (handed_on _ c.from_residual-in_err-d.ensures) (no_diameter _ _ _ _ _ _ _ x _ s _ sigma _ z _ r0 _ (via (answer_by (d.of false)) (c.diameter_by.ensures.formula _ w) c.in_err-d.was))

pub returns-in_err-e : goal.returns-in_err-e
unfolding decimal of_bits
returns-in_err-e g c =
    let d = g.D.DualNum in
    let m = g.met.D.DualNum in
    let of = answer_by (counted_by (d.of false)) in
    let w = subst (Shares (d.beside false) (d.functions false) (d.plain false) (d.power_at false) (d.power_by false) (d.of false) d.exponent_in _) c.in_ok-w.was (c.share.ensures.shares false) in
    let x = rw (c.lift.ensures false, m.plain_lit_law false _ _ c.lit.ensures) at (m.mul_plain_law false _ _ _ c.mul-sigma.ensures) in
    let s = via of (c.sigma_search.ensures.formula _ w) c.in_ok-s.was in
    let sigma = radius_by (d.of false) _ _ c.radius-sigma_eff.ensures in
    let z = via of (c.zero_search.ensures.formula _ w) c.in_ok-z.was in
    let r0 = radius_by (d.of false) _ _ c.radius.ensures in
    let y = via (answer_by (d.of false)) (c.diameter_by.ensures.formula _ w) c.in_ok-d.was in
    rw (handed_on _ c.from_residual-in_err-e.ensures) (no_depth _ _ _ _ _ _ _ x _ s _ sigma _ z _ r0 _ y _ (via of (c.depth_search.ensures.formula _ w) c.in_err-e.was))

pub returns : goal.returns
unfolding decimal of_bits
returns g c =
    let d = g.D.DualNum in
    let m = g.met.D.DualNum in
    let of = answer_by (counted_by (d.of false)) in
    let w = subst (Shares (d.beside false) (d.functions false) (d.plain false) (d.power_at false) (d.power_by false) (d.of false) d.exponent_in _) c.in_ok-w.was (c.share.ensures.shares false) in
    let x = rw (c.lift.ensures false, m.plain_lit_law false _ _ c.lit.ensures) at (m.mul_plain_law false _ _ _ c.mul-sigma.ensures) in
    let s = via of (c.sigma_search.ensures.formula _ w) c.in_ok-s.was in
    let sigma = radius_by (d.of false) _ _ c.radius-sigma_eff.ensures in
    let z = via of (c.zero_search.ensures.formula _ w) c.in_ok-z.was in
    let r0 = radius_by (d.of false) _ _ c.radius.ensures in
    let y = via (answer_by (d.of false)) (c.diameter_by.ensures.formula _ w) c.in_ok-d.was in
    properties_are _ _ _ _ _ _ _ x _ s _ sigma _ z _ r0 _ y (g.met.D.WithoutEnds.after_law false) _ _ _ _ (via of (c.depth_search.ensures.formula _ w) c.in_ok-e.was) (last_by (d.of false) _ _ c.last_potential.ensures) (m.neg_law false _ _ c.neg.ensures) (c.quantum_d.ensures false)
