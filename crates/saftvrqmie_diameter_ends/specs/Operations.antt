-- The diameter of a pair from its two searched radii as a two-ended operation: 1, 2, 6 and 7 of the float operation, then 8, then the ends.
use Rattle.std.specs.Prelude.{ℕ, Float}
use Rattle.number.specs.Ans.{Ans}
use Rattle.number.specs.Functions.{Answers, calls}
use Rattle.enclosure.specs.declared.Ends.{Ends}
use Rattle.enclosure.specs.Enclosure.{enclosures}
use Rattle.enclosure.specs.Ends.{ends_of}
use Rattle.saftvrqmie_parameters.specs.declared.SaftVRQMiePars.{SaftVRQMiePars}
use Rattle.saftvrqmie.specs.Pairs.{diameter_run, diameter_ij_by}

-- whatever the elementary functions answer; the float operation is that of `hs_diameter_ij`
unfoldable pub diameter_ends : Answers → SaftVRQMiePars → ℕ → ℕ → Float → Float → Float → Ans Ends
diameter_ends E s i j t sigma_eff r0 = ends_of (diameter_ij_by E s i j t sigma_eff r0) (diameter_run enclosures (calls enclosures E) s i j t sigma_eff r0)
