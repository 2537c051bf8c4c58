-- `patterns_ends::sample_ends` meets its contract. Assumes nothing.
use Rattle.std.proofs.Common.{true}
use Rattle.patterns_ends.proofs.Encloses.{sample_alone, alike}
use Rattle.patterns.specs.Formulas.{root_alone}
use Rattle.patterns_ends.proofs.sample_ends.Goals as goal

pub returns : goal.returns
returns c = rw (c.ends_of.ensures, ← alike c.sample.result, c.sample.ensures true, c.point.ensures) (sample_alone root_alone _ _)
