-- `set_lists::mie_set` meets its contract. Assumes nothing.
use Rattle.set_lists.proofs.Sets.{mie_lengths_told}
use mathlib.Core.Path.{refl}
use native.Mathlib.Omega.{arith}
use Rattle.set_lists.specs.Sets.{mie_read}
use Rattle.set_lists.proofs.mie_set.Goals as goal

pub places-m-requires : goal.places-m-requires
places-m-requires c = let h = (mie_lengths_told _ _ c.requires).places in omega (arith, h)

pub places-sigma-requires : goal.places-sigma-requires
places-sigma-requires c = let h = (mie_lengths_told _ _ c.requires).places in omega (arith, h)

pub places-epsilon_k-requires : goal.places-epsilon_k-requires
places-epsilon_k-requires c = let h = (mie_lengths_told _ _ c.requires).places in omega (arith, h)

pub places-lr-requires : goal.places-lr-requires
places-lr-requires c = let h = (mie_lengths_told _ _ c.requires).places in omega (arith, h)

pub places-la-requires : goal.places-la-requires
places-la-requires c = let h = (mie_lengths_told _ _ c.requires).places in omega (arith, h)

pub flat-sheets-requires : goal.flat-sheets-requires
flat-sheets-requires c = (mie_lengths_told _ _ c.requires).flat

pub returns : goal.returns
unfolding mie_read
returns c = rw (c.places-m.ensures, c.places-sigma.ensures, c.places-epsilon_k.ensures, c.places-lr.ensures, c.places-la.ensures, c.flat-sheets.ensures) refl
