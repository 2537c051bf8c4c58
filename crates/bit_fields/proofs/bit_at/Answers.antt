-- `bit_fields::bit_at` meets its contract. Assumes nothing.
use mathlib.Core.Path.{sym}
use Rattle.bit_fields.proofs.Bytes.{bit_in}
use Rattle.bit_fields.proofs.bit_at.Goals as goal

pub returns : goal.returns
returns c = rw c.from-b.ensures (sym (bit_in _ _ c.requires))
