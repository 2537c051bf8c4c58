-- `domthelv::mie::domthelv_vr_diameters` meets its contract. Assumes nothing.
use Rattle.set_lists.proofs.Sets.{mie_lengths_told, mie_1, mie_holds}
use Rattle.domthelv.proofs.Operations.{diameters_refused, diameters_from, refused_status, refused_stored, through_status, through_stored}
use Rattle.number.proofs.Walk.{told}
use mathlib.Core.Path.{◌∙◌}
use Rattle.domthelv.proofs.mie.domthelv_vr_diameters.Goals as goal

pub returns-then-not-mie_lengths : goal.returns-then-not-mie_lengths
returns-then-not-mie_lengths c = let q = diameters_refused _ _ _ _ (mie_1 _ (told c.mie_lengths.ensures c.if-not-mie_lengths.true)) in (refused_status _ _ _ c.code.ensures q, refused_stored _ _ _ q)

pub flat-flat-requires : goal.flat-flat-requires
flat-flat-requires c = (mie_lengths_told _ _ (told c.mie_lengths.ensures c.if-not-mie_lengths.false)).flat

pub returns : goal.returns
returns c = let q = diameters_from _ _ _ _ (mie_holds _ (told c.mie_lengths.ensures c.if-not-mie_lengths.false)) c.flat-flat.ensures in let e = c.diameters_of-worked.ensures in (through_status _ _ _ _ q e.0 c.number.ensures, e.1 ∙ through_stored _ _ _ q)
