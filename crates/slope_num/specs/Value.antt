-- A number with a slope as the formulas see it: its parts, each read as a plain number of the run.
use Rattle.dual.specs.Dual.{DualOf}

unfoldable pub slope_by : {S R N : Type 0} → (S → DualOf R) → (R → N) → S → DualOf N
slope_by parts of x = record { re = of (parts x).re; eps = of (parts x).eps }
