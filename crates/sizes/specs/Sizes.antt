-- The sizes of Slip 8: 'The limit becomes 12 throughout.' 'Sheets grow to 144 places with entry (i, j) at 12i + j'
use Rattle.std.specs.Prelude.{ℕ, ◌+◌, ◌*◌}

abbrev pub side : ℕ
side = 12

abbrev pub sheet : ℕ
sheet = side * side

abbrev pub cell : ℕ → ℕ → ℕ
cell i j = side * i + j
