-- What the usual way of an operation tells of its two ends: a condition of a helper alone.
use Rattle.std.specs.Prelude.{T, Float}
use Rattle.std.specs.Float.{binary64}
use Rattle.std.specs.Float.Ieee.{fits}
use Rattle.std.specs.Float.Ieee.Scale.{finite}
use Rattle.number.specs.Frac.{val_f, le_f}
use Rattle.number.proofs.Order.{over, under}

-- away from the infinities that would be further out, a and b are floats in order
abbrev pub InOrder : Float → Float → Type 0
InOrder a b = T (over a) × T (under b) → T (fits binary64 a) × T (finite a) × T (fits binary64 b) × T (finite b) × le_f (val_f a) (val_f b)
