-- `desk::serve_at` meets its contract. Assumes nothing.
use Rattle.desk.proofs.Ways.{floats_long, bytes_long, waits_lent, serve_here, here_on, here_done}
use mathlib.Core.Path.{sym}
use Rattle.number.proofs.Walk.{via}
use Rattle.desk_place.specs.Place.{unit_answer}
use Rattle.desk.proofs.serve_at.Goals as goal

pub unit-worked-requires : goal.unit-worked-requires
unit-worked-requires c = (floats_long (record { floats = c.args.floats.now; bytes = c.args.bytes.now }) c.args.k (record { floats = c.requires.0; bytes = c.requires.1 }) c.requires.2, (bytes_long (record { floats = c.args.floats.now; bytes = c.args.bytes.now }) c.args.k (record { floats = c.requires.0; bytes = c.requires.1 }) c.requires.2, waits_lent (record { floats = c.args.floats.now; bytes = c.args.bytes.now }) c.args.k (record { floats = c.requires.0; bytes = c.requires.1 }) c.requires.2 c.requires.3))

pub returns-in-None : goal.returns-in-None
returns-in-None c = (here_on (record { floats = c.args.floats.now; bytes = c.args.bytes.now }) c.args.k (record { floats = c.requires.0; bytes = c.requires.1 }) c.requires.2 (sym (via unit_answer c.unit-worked.ensures.0 c.in-None.is)), serve_here (record { floats = c.args.floats.now; bytes = c.args.bytes.now }) c.args.k (record { floats = c.requires.0; bytes = c.requires.1 }) c.requires.2 _ _ c.unit-worked.ensures.1)

pub returns-in-Some : goal.returns-in-Some
returns-in-Some c = (here_done (record { floats = c.args.floats.now; bytes = c.args.bytes.now }) c.args.k (record { floats = c.requires.0; bytes = c.requires.1 }) c.requires.2 _ (sym (via unit_answer c.unit-worked.ensures.0 c.in-Some.is)), serve_here (record { floats = c.args.floats.now; bytes = c.args.bytes.now }) c.args.k (record { floats = c.requires.0; bytes = c.requires.1 }) c.requires.2 _ _ c.unit-worked.ensures.1)
