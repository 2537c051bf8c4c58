-- `card_parameters::card_lengths` meets its contract. Assumes nothing.
use mathlib.Core.Path.{refl}
use Rattle.card_parameters.specs.Parameters.{card_lengths}
use Rattle.card_parameters.proofs.card_lengths.Goals as goal

pub returns : goal.returns
unfolding card_lengths
returns c = rw (c.quantum_lengths.ensures, c.mie_lengths.ensures) refl
