-- The made-up formula as a two-ended operation: 6 and 7 of the float run, then 8, then the ends.
use Rattle.std.specs.Prelude.{List, length, Float}
use Rattle.number.specs.Ans.{Ans, ◌>>=◌}
use Rattle.number.specs.Arith.{floats}
use Rattle.number.specs.Functions.{Answers, calls}
use Rattle.number.specs.Lists.{at}
use Rattle.enclosure.specs.declared.Enclosure.{Enclosure}
use Rattle.enclosure.specs.declared.Ends.{Ends}
use Rattle.enclosure.specs.Enclosure.{enclosures, point}
use Rattle.enclosure.specs.Constants.{Choice}
use Rattle.enclosure.specs.Exact.{Exact, exacts, exactly}
use Rattle.enclosure.specs.Ends.{or_not_finite, ends_of}
use Rattle.patterns.specs.Formulas.{sample}

module _ (E : Answers) where
  -- the three runs, of the same inputs
  abbrev pub sample_float : List Float → Float → Ans Float
  sample_float xs y = sample floats (calls floats E) (length xs) (at xs) y

  abbrev pub sample_enclosure : List Float → Float → Ans Enclosure
  sample_enclosure xs y = sample enclosures (calls enclosures E) (length xs) (λ i. point (at xs i)) (point y)

  -- with the fractions that q has for the constants
  abbrev pub sample_exact : Choice → List Float → Float → Ans Exact
  sample_exact q xs y = sample (exacts q) (calls (exacts q) E) (length xs) (λ i. exactly (at xs i)) (exactly y)

  unfoldable pub sample_ends : List Float → Float → Ans Ends
  sample_ends xs y = ends_of (sample_float xs y >>= or_not_finite) (sample_enclosure xs y)
