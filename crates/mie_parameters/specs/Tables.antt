-- The numbers of Lafitte et al. 2013 that both models have, with the digits of the Rust.
use Rattle.std.specs.Prelude.{true, false, List, [], ◌∷◌, Float}
use Rattle.number.specs.Arith.{decimal}

-- the rows of LAM_COEFF of saftvrqmie/eos/dispersion.rs, C of saftvrmie/eos/dispersion.rs
abbrev pub c0 : List Float
c0 = decimal false 81096 5 ∷ decimal false 17888 4 ∷ decimal true 37578 3 ∷ decimal false 92284 3 ∷ []

abbrev pub c1 : List Float
c1 = decimal false 10205 4 ∷ decimal true 19341 3 ∷ decimal false 15126 2 ∷ decimal true 46350 2 ∷ []

abbrev pub c2 : List Float
c2 = decimal true 19057 4 ∷ decimal false 22845 3 ∷ decimal true 22814 2 ∷ decimal false 97392 2 ∷ []

abbrev pub c3 : List Float
c3 = decimal false 10885 4 ∷ decimal true 61962 4 ∷ decimal false 10698 2 ∷ decimal true 67764 2 ∷ []

-- the rows of PHI of both files
abbrev pub phi0 : List Float
phi0 = decimal false 75365557 7 ∷ decimal true 3760463 5 ∷ decimal false 71745953 6 ∷ decimal true 4683552 5 ∷ decimal true 2467982 6 ∷ decimal true 50272 5 ∷ decimal false 80956883 7 ∷ []

abbrev pub phi1 : List Float
phi1 = decimal true 35944 2 ∷ decimal false 18256 1 ∷ decimal true 31680 1 ∷ decimal false 18842 1 ∷ decimal true 82376 5 ∷ decimal true 31935 4 ∷ decimal false 3709 3 ∷ []

abbrev pub phi2 : List Float
phi2 = decimal false 15509 1 ∷ decimal true 50701 1 ∷ decimal false 65346 1 ∷ decimal true 32887 1 ∷ decimal true 27171 4 ∷ decimal false 20883 4 ∷ decimal false 0 1 ∷ []

abbrev pub phi3 : List Float
phi3 = decimal true 119932 5 ∷ decimal false 9063632 6 ∷ decimal true 179482 4 ∷ decimal false 1134027 5 ∷ decimal false 2052142 5 ∷ decimal true 566377 4 ∷ decimal false 4053683 5 ∷ []

abbrev pub phi4 : List Float
phi4 = decimal true 191128 2 ∷ decimal false 21390175 3 ∷ decimal true 513207 1 ∷ decimal false 3706454 2 ∷ decimal false 1103742 3 ∷ decimal true 326461 2 ∷ decimal false 2556181 3 ∷ []

abbrev pub phi5 : List Float
phi5 = decimal false 92369 1 ∷ decimal true 1294300 1 ∷ decimal false 3572300 1 ∷ decimal true 3155300 1 ∷ decimal false 13902 1 ∷ decimal true 45182 1 ∷ decimal false 42416 1 ∷ []
