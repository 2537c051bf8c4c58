-- `domthelv::quantum::write_searches` meets its contract. Assumes nothing.
use Rattle.domthelv.specs.Operations.{radii_written}
use lib.ListN.{length-set}
use native.Mathlib.Omega.{arith}
use Rattle.domthelv.proofs.quantum.write_searches.Goals as goal

pub bounds-out-4 : goal.bounds-out-4
bounds-out-4 c = simp length-set (omega (arith, c.requires.0))

pub bounds-out-5 : goal.bounds-out-5
bounds-out-5 c = simp length-set (omega (arith, c.requires.0))

pub returns : goal.returns
unfolding radii_written
returns c = rw (c.radius.ensures, c.last_potential.ensures, c.radius-2.ensures, c.last_potential-2.ensures, c.radius-3.ensures, c.last_potential-3.ensures)
