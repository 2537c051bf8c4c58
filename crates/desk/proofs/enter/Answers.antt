-- `desk::enter` meets its contract. Assumes nothing.
use Rattle.desk.proofs.Ways.{floats_long, bytes_long, enter_here}
use native.Mathlib.Omega.{arith}
use Rattle.set_lists.proofs.Sets.{lengths}
use Rattle.desk.specs.Desk.{query_of}
use Rattle.desk.proofs.enter.Goals as goal

pub enter_floats-requires : goal.enter_floats-requires
enter_floats-requires c = let d = lengths _ _ _ c.requires.3 in let a = c.requires.4 in let x = c.requires.5 in let y = c.requires.6 in (floats_long (record { floats = c.args.floats.now; bytes = c.args.bytes.now }) c.args.k (record { floats = c.requires.0; bytes = c.requires.1 }) c.requires.2, d.places, d.flat, omega (arith, a, x), omega (arith, a, y))

pub enter_bytes-requires : goal.enter_bytes-requires
enter_bytes-requires c = (bytes_long (record { floats = c.args.floats.now; bytes = c.args.bytes.now }) c.args.k (record { floats = c.requires.0; bytes = c.requires.1 }) c.requires.2, (lengths _ _ _ c.requires.3).records, c.requires.4)

pub returns : goal.returns
returns c = enter_here (record { floats = c.args.floats.now; bytes = c.args.bytes.now }) c.args.k (record { floats = c.requires.0; bytes = c.requires.1 }) c.requires.2 (query_of c.args.q.now) _ _ (lengths _ _ _ c.requires.3) c.requires.4 c.requires.5 c.requires.6 c.enter_floats.ensures c.enter_bytes.ensures
