-- The tables of the logarithm: at each place the table's number and the eight terms are near document 01's sum over the whole part of 1 .. 2 that the place stands for. There every number is a linear form in the distances s and t from the part's ends, so the comparison of two polynomials is one of their coefficients, which antt computes. Assumes nothing.
use mathlib.Core.Bool.{Bool, ◌&&◌}
use mathlib.Core.List.{List, [], ◌∷◌}
use Prim.Native.Nat.{ℕ, ◌+◌, ◌-◌, ◌*◌, ◌/◌, ◌^◌}
use lib.Dec.{T, leb, ltb, eqb}
use Rattle.series.proofs.Constants.{mn, md}
use Rattle.logarithm.proofs.CoreBounds.{common, tops}
use Rattle.binary_log.specs.Tables.{log_factors, logs}
use Rattle.binary_log.proofs.Terms.{ones, scale}
use Rattle.number.proofs.Table.{every, unless}
use Rattle.fixed_point.proofs.Bernstein.{times, fma, front, again, once, twice, under}

-- z = (np s + nq t) / (dp s + dq t): document 01's sum, times powers of 2 ^ 64
abbrev pub u_l : ℕ → ℕ → ℕ → ℕ → List ℕ
u_l np nq dp dq = again 8 (once (2 ^ 19) (2 ^ 19)) (once np nq (front (twice np nq) (twice dp dq) (tops 1 23) (twice np nq (1 ∷ [])) (common ∷ [])))

-- d = r0 s + r1 t: the eight terms
abbrev pub v_l : ℕ → ℕ → ℕ → ℕ → List ℕ
v_l r0 r1 dp dq = again 47 (once dp dq) (once r0 r1 (front (once r0 r1) (once (2 ^ 19) (2 ^ 19)) (ones 2 7) (once r0 r1 (1 ∷ [])) (md * 840 * 64 ^ 7 ∷ [])))

abbrev pub x_l : ℕ → ℕ → List ℕ
x_l dp dq = again 47 (once dp dq) (again 8 (once (2 ^ 19) (2 ^ 19)) (1 ∷ []))

abbrev pub c_u : ℕ
c_u = 2 * scale * md * 2 ^ 61

abbrev pub c_v : ℕ
c_v = common * 2 ^ 61

abbrev pub c_x : ℕ
c_x = common * scale * mn

abbrev pub near0 : ℕ → List ℕ → List ℕ → List ℕ → Bool
near0 l us vs xs = under c_u c_v 0 0 0 (c_x * (l + 1)) us vs xs && under 0 0 (32 * c_x * l) (32 * c_u) (32 * c_v) c_x us vs xs

abbrev pub near1 : ℕ → List ℕ → List ℕ → List ℕ → Bool
near1 l us vs xs = under 0 c_v (c_x * 2 ^ 61) c_u 0 (c_x * (l + 1)) us vs xs && under (32 * c_u) 0 (32 * c_x * l) 0 (32 * c_v) (32 * c_x * 2 ^ 61 + c_x) us vs xs

-- the place j, for a significand below 4/3 and from 4/3 on
abbrev pub place0 : ℕ → ℕ → ℕ → Bool
place0 j c l = near0 l (u_l j (j + 1) (256 + j) (257 + j)) (v_l (128 * (2 ^ 18 - c * (128 + j))) (128 * (2 ^ 18 - c * (129 + j))) (256 + j) (257 + j)) (x_l (256 + j) (257 + j))

abbrev pub place1 : ℕ → ℕ → ℕ → Bool
place1 j c l = near1 l (u_l (128 - j) (127 - j) (384 + j) (385 + j)) (v_l (128 * (2 ^ 18 - c * (128 + j))) (128 * (2 ^ 18 - c * (129 + j))) (384 + j) (385 + j)) (x_l (384 + j) (385 + j))

-- the places from 42 to 54, for significands from 4/3 up to a little above the root of 2, are tested both ways
abbrev pub place : ℕ → ℕ → Bool
place j l = unless (ltb 54 j) (place0 j (2 ^ 18 / (129 + j)) l) && unless (ltb j 42) (place1 j (2 ^ 18 / (129 + j)) l)

pub all : T (every place 0 logs)
unfolding times fma front again under
all = tt

abbrev pub rule : ℕ → ℕ → Bool
rule j c = eqb c (2 ^ 18 / (129 + j))

pub rules : T (every rule 0 log_factors)
rules = tt

-- the gap is at most 8/15 of 2 ^ 64, and from the second place on the table's numbers are larger than the eight terms can be
abbrev pub small : ℕ → ℕ → Bool
small j l = leb (15 * (128 * (2 ^ 18 - 2 ^ 18 / (129 + j) * (128 + j)))) (2 ^ 22) && unless (eqb j 0) (leb (2 ^ 55 + 2 ^ 53) l)

pub smalls : T (every small 0 logs)
smalls = tt

abbrev pub lowest : ℕ → ℕ → Bool
lowest j l = leb l (2 ^ 61)

pub units : T (every lowest 0 logs)
units = tt

-- a logarithm is at least a half from the place 55 on, and at most a half up to the place 45, with room for the eight terms and for two units
abbrev pub sided : ℕ → ℕ → Bool
sided j l = unless (ltb j 55) (leb (2 ^ 60 + 2 ^ 55 + 2 ^ 53 + 2) l) && unless (ltb 45 j) (leb l (2 ^ 60 + 1))

pub sides : T (every sided 0 logs)
sides = tt
