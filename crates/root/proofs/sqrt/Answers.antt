-- `sqrt` meets its contract: the domain's laws, then the root of what the pattern stands for. Assumes nothing.
use mathlib.Core.Path.{sym, ap, ◌∙◌, subst}
use native.Mathlib.Omega.{arith}
use lib.Dec.{T}
use lib.Ieee.{binary64, fits}
use lib.Ieee.Positive.{positive}
use Rattle.number.specs.Ans.{held}
use Rattle.root.proofs.Domain.{zero_root, below_root, infinite_root, inside_positive, root_of, pattern, value_small_of, value_normal_of}
use Rattle.root.proofs.Pattern.{no_nan}
use Rattle.root.proofs.sqrt.Goals as goal
use Rattle.root.proofs.sqrt.Goals.{Else-not-x-infinity, Start}

-- the argument is a float, and behind the tests a positive one

float : (c : Start) → T (fits binary64 c.args.x)
float c = subst T (sym c.well_formed.0.1) tt

inside : (c : Else-not-x-infinity) → T (positive c.args.x)
inside c = inside_positive c.args.x c.if-not-x.false-raw c.if-not-x-infinity.false-raw

pub returns-then-x : goal.returns-then-x
returns-then-x c = zero_root c.args.x c.if-x.true

pub returns-then-not-x : goal.returns-then-not-x
returns-then-not-x c = below_root c.args.x c.if-not-x.true-raw c.if-x.false

pub float_from_bits-infinity : goal.float_from_bits-infinity
float_from_bits-infinity c = no_nan 9218868437227405312 (omega arith)

pub returns-then-not-x-infinity : goal.returns-then-not-x-infinity
returns-then-not-x-infinity c = infinite_root c.args.x c.if-not-x-infinity.true-raw

pub nearest_root-small-requires : goal.nearest_root-small-requires
nearest_root-small-requires c =
    let h = pattern c.args.x (float c.before.before.before) (inside c.before) in
    (omega (arith, c.if-f-eq0.true), omega arith, omega arith)

pub returns-then-f-eq0 : goal.returns-then-f-eq0
returns-then-f-eq0 c =
    sym
    (root_of c.args.x _ (inside c.before.before) (value_small_of c.args.x (float c.before.before.before.before) (inside c.before.before) c.if-f-eq0.true)
    ∙ ap held (sym c.nearest_root-small.ensures))

pub nearest_root-r-requires : goal.nearest_root-r-requires
nearest_root-r-requires c =
    let h = pattern c.args.x (float c.before.before.before) (inside c.before) in
    (omega arith, omega arith, omega arith)

pub returns : goal.returns
returns c =
    sym
    (root_of c.args.x _ (inside c.before.before) (value_normal_of c.args.x (float c.before.before.before.before) (inside c.before.before) c.if-f-eq0.false)
    ∙ ap held (sym c.nearest_root-r.ensures))
