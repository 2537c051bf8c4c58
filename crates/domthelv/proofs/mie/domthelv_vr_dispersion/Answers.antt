-- `domthelv::mie::domthelv_vr_dispersion` meets its contract. Assumes nothing.
use Rattle.set_lists.proofs.Sets.{mie_lengths_told, mie_1, mie_holds, mie_by}
use Rattle.domthelv.proofs.Operations.{dispersion_refused, dispersion_is, refused_status, refused_stored, delivered}
use Rattle.number.proofs.Walk.{told}
use mathlib.Core.Path.{sym, ◌∙◌}
use native.Mathlib.Omega.{arith}
use Rattle.set_lists.proofs.Copies.{taken_whole}
use Rattle.domthelv.proofs.mie.domthelv_vr_dispersion.Goals as goal

pub returns-then-not-mie_lengths : goal.returns-then-not-mie_lengths
returns-then-not-mie_lengths c = let q = dispersion_refused _ _ _ _ _ _ _ (mie_1 _ (told c.mie_lengths.ensures c.if-not-mie_lengths.true)) in (refused_status _ _ _ c.code.ensures q, refused_stored _ _ _ q)

pub places-m-requires : goal.places-m-requires
places-m-requires c = let h = (mie_lengths_told _ _ (told c.mie_lengths.ensures c.if-not-mie_lengths.false)).places in omega (arith, h)

pub places-sigma-requires : goal.places-sigma-requires
places-sigma-requires c = let h = (mie_lengths_told _ _ (told c.mie_lengths.ensures c.if-not-mie_lengths.false)).places in omega (arith, h)

pub places-epsilon_k-requires : goal.places-epsilon_k-requires
places-epsilon_k-requires c = let h = (mie_lengths_told _ _ (told c.mie_lengths.ensures c.if-not-mie_lengths.false)).places in omega (arith, h)

pub places-lr-requires : goal.places-lr-requires
places-lr-requires c = let h = (mie_lengths_told _ _ (told c.mie_lengths.ensures c.if-not-mie_lengths.false)).places in omega (arith, h)

pub places-la-requires : goal.places-la-requires
places-la-requires c = let h = (mie_lengths_told _ _ (told c.mie_lengths.ensures c.if-not-mie_lengths.false)).places in omega (arith, h)

pub returns-in_default : goal.returns-in_default
returns-in_default c = absurd (c.in_default.ensures.1 (mie_lengths_told _ _ (told c.mie_lengths.ensures c.if-not-mie_lengths.false)).flat)

pub returns : goal.returns
returns c =
    let e = (mie_lengths_told _ _ (told c.mie_lengths.ensures c.if-not-mie_lengths.false)).flat in
    let s = mie_by _ _ _ _ _ _ _ _ (mie_holds _ (told c.mie_lengths.ensures c.if-not-mie_lengths.false)) c.places-m.ensures c.places-sigma.ensures c.places-epsilon_k.ensures c.places-lr.ensures c.places-la.ensures (c.in-Ok.ensures.1.same ∙ taken_whole _ _ e) in
    delivered _ _ _ _ _ c.deliver.ensures (c.dispersion-worked.ensures ∙ sym (dispersion_is _ _ _ _ _ _ _ s))
