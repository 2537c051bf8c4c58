-- The rows of document 01's table that are about the root, from the definitions. Assumes nothing.
use mathlib.Core.Path.{◌≡◌, refl}
use mathlib.Core.Bool.{true, false}
use lib.IntN.{pos, negsuc}
use lib.Ieee.{fin, of_bits, size}
use Rattle.number.specs.Ans.{held}
use Rattle.root.specs.Root.{whole_root, positive_root, root}

-- the root of 2.25, which is 9 / 4, is 1.5, which is 3 / 2
pub root_row : root (fin false 9 (negsuc 1)) ≡ held (fin false 3 (negsuc 0))
unfolding root positive_root whole_root of_bits size
root_row = refl

-- the root of -0 is -0
pub zero_row : root (fin true 0 (pos 0)) ≡ held (fin true 0 (pos 0))
unfolding root
zero_row = refl
