-- `saftvrqmie_energies_ends::sound_ends` meets its contract. Assumes nothing.
use Rattle.number.proofs.Walk.{told}
use Rattle.saftvrqmie_energies_ends.proofs.Ways.{unsound, sound}
use Rattle.saftvrqmie_energies_ends.proofs.sound_ends.Goals as goal

pub returns-then-not-all_sound : goal.returns-then-not-all_sound
returns-then-not-all_sound c = unsound _ (told c.all_sound.ensures c.if-not-all_sound.true)

pub returns : goal.returns
returns c =
    rw (c.from-3.ensures, c.from-2.ensures, c.from.ensures)
    (sound _ (told c.all_sound.ensures c.if-not-all_sound.false))
