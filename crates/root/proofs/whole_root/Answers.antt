-- `whole_root` meets its contract, by the laws of the digits that the reciprocal gives and of the correction. Assumes nothing.
use borrow.Author.Rules.{rules}
use Prim.Native.Nat.{◌^◌, ◌<◌}
use native.Mathlib.Nat.{lt_of_le_of_lt}
use native.Mathlib.Omega.{arith}
use mir.Facts.{Fits-bits}
use Rattle.root.proofs.Taken.{square_fits, further_fits, root_fits, left_fits, all_digits, rest_le}
use Rattle.root.proofs.Whole.{one_up, stays}
use Rattle.root.proofs.whole_root.Goals as goal
use Rattle.root.proofs.whole_root.Goals.{Start}

fits : (c : Start) → c.args.a < 2 ^ 64
fits c = search rules

pub overflow_mul-n : goal.overflow_mul-n
overflow_mul-n c = Fits-bits 64 tt (lt_of_le_of_lt (square_fits c.args.a c.inverse-w.result c.requires (fits c.before) c.inverse-w.ensures) (fits c.before))

pub overflow_sub-n : goal.overflow_sub-n
overflow_sub-n c = square_fits c.args.a c.inverse-w.result c.requires (fits c.before) c.inverse-w.ensures

pub overflow_mul-t : goal.overflow_mul-t
overflow_mul-t c = Fits-bits 64 tt (further_fits c.args.a c.inverse-w.result c.requires (fits c.before) c.inverse-w.ensures)

pub overflow_add-r : goal.overflow_add-r
overflow_add-r c = let h = root_fits c.args.a c.inverse-w.result c.requires (fits c.before) c.inverse-w.ensures in omega arith

pub overflow_mul-rest : goal.overflow_mul-rest
overflow_mul-rest c = let h = root_fits c.args.a c.inverse-w.result c.requires (fits c.before) c.inverse-w.ensures in omega arith

pub overflow_mul-rest-2 : goal.overflow_mul-rest-2
overflow_mul-rest-2 c = Fits-bits 64 tt (lt_of_le_of_lt (left_fits c.args.a c.inverse-w.result c.requires (fits c.before) c.inverse-w.ensures).0 (let h = root_fits c.args.a c.inverse-w.result c.requires (fits c.before) c.inverse-w.ensures in omega arith))

pub overflow_sub-rest : goal.overflow_sub-rest
overflow_sub-rest c = (left_fits c.args.a c.inverse-w.result c.requires (fits c.before) c.inverse-w.ensures).0

pub overflow_mul-rest-3 : goal.overflow_mul-rest-3
overflow_mul-rest-3 c = Fits-bits 64 tt (lt_of_le_of_lt (left_fits c.args.a c.inverse-w.result c.requires (fits c.before) c.inverse-w.ensures).2 (let h = root_fits c.args.a c.inverse-w.result c.requires (fits c.before) c.inverse-w.ensures in omega arith))

pub overflow_mul-rest-4 : goal.overflow_mul-rest-4
overflow_mul-rest-4 c = Fits-bits 64 tt (lt_of_le_of_lt (left_fits c.args.a c.inverse-w.result c.requires (fits c.before) c.inverse-w.ensures).1 (lt_of_le_of_lt (left_fits c.args.a c.inverse-w.result c.requires (fits c.before) c.inverse-w.ensures).2 (let h = root_fits c.args.a c.inverse-w.result c.requires (fits c.before) c.inverse-w.ensures in omega arith)))

pub overflow_sub-rest-2 : goal.overflow_sub-rest-2
overflow_sub-rest-2 c = (left_fits c.args.a c.inverse-w.result c.requires (fits c.before) c.inverse-w.ensures).1

pub overflow_mul-r-2 : goal.overflow_mul-r-2
overflow_mul-r-2 c = let h = root_fits c.args.a c.inverse-w.result c.requires (fits c.before) c.inverse-w.ensures in omega arith

pub overflow_add-result : goal.overflow_add-result
overflow_add-result c = let h = root_fits c.args.a c.inverse-w.result c.requires (fits c.before.before) c.inverse-w.ensures in omega arith

pub returns-then-r-rest : goal.returns-then-r-rest
returns-then-r-rest c = one_up _ _ _ (fits c.before.before) (all_digits c.args.a c.inverse-w.result c.requires (fits c.before.before) c.inverse-w.ensures) (search rules) (rest_le c.args.a c.inverse-w.result c.requires (fits c.before.before) c.inverse-w.ensures)

pub returns : goal.returns
returns c = stays _ _ _ (fits c.before.before) (all_digits c.args.a c.inverse-w.result c.requires (fits c.before.before) c.inverse-w.ensures) (search rules)
