-- `saftvrmie::diameters_of` meets its contract. Assumes nothing.
use Prim.Native.Nat.{ℕ, ◌≤◌}
use lib.Ieee.{Float}
use mathlib.Core.Bool.{true}
use mathlib.Core.List.{List}
use Rattle.std.proofs.Common.{◌≡◌, ◌∙◌, sym, length}
use Rattle.std.proofs.lemmas.List.{length-take-le}
use Rattle.std.specs.Float.{nan}
use Rattle.number.proofs.Every.{copied_all}
use Rattle.saftvrmie.proofs.Laws.{count_small, length_is, refuses_1, refuses_2, refuses_6, refuses_7, holds}
use Rattle.sizes.specs.Sizes.{side}
use Rattle.saftvrmie.specs.Diameters.{worked, right_length}
use Rattle.number.proofs.Walk.{told, handed_on}
use Rattle.mie_parameters.proofs.Laws.{held_at, refused_at}
use Rattle.saftvrmie.proofs.diameters_of.Goals as goal

within : (n len : ℕ) (d : List Float) → right_length n len ≡ true → length d ≡ side → n ≤ length d
within n len d p e = rw e (count_small n len p)

pub returns-then-not-right_length : goal.returns-then-not-right_length
returns-then-not-right_length c = refuses_1 _ _ _ _ (told c.right_length.ensures c.if-not-right_length.true)

pub returns-then-not-temperature_within : goal.returns-then-not-temperature_within
returns-then-not-temperature_within c = refuses_2 _ _ _ _ (told c.right_length.ensures c.if-not-right_length.false) (told c.temperature_within.ensures c.if-not-temperature_within.true)

pub work-requires : goal.work-requires
work-requires c = count_small _ _ (told c.right_length.ensures c.if-not-right_length.false)

pub returns-in_err-work : goal.returns-in_err-work
unfolding worked
returns-in_err-work c = refuses_6 _ _ _ _ (told c.right_length.ensures c.if-not-right_length.false) (told c.temperature_within.ensures c.if-not-temperature_within.false) _ _ (handed_on _ c.from_residual.ensures) (refused_at _ _ _ _ c.work.ensures c.in_err-work.was)

pub all_finite-requires : goal.all_finite-requires
all_finite-requires c = count_small _ _ (told c.right_length.ensures c.if-not-right_length.false)

pub returns-then-not-all_finite : goal.returns-then-not-all_finite
unfolding worked
returns-then-not-all_finite c = refuses_7 _ _ _ _ (told c.right_length.ensures c.if-not-right_length.false) (told c.temperature_within.ensures c.if-not-temperature_within.false) _ (held_at _ _ _ c.work.ensures c.in_ok-work.was) (told c.all_finite.ensures c.if-not-all_finite.true)

pub slice_bounds-d-end : goal.slice_bounds-d-end
slice_bounds-d-end c = within _ _ _ (told c.right_length.ensures c.if-not-right_length.false) c.work.array_long

pub slice_bounds-copy_from_slice-end : goal.slice_bounds-copy_from_slice-end
slice_bounds-copy_from_slice-end c = sym (length-take-le _ _ (within _ _ _ (told c.right_length.ensures c.if-not-right_length.false) c.work.array_long))

pub copy_from_slice-requires : goal.copy_from_slice-requires
copy_from_slice-requires c =
    let p = told c.right_length.ensures c.if-not-right_length.false in
    length_is _ _ p ∙ sym (length-take-le _ _ (within _ _ _ p c.work.array_long))

pub returns : goal.returns
unfolding worked
returns c =
    let p = told c.right_length.ensures c.if-not-right_length.false in
    let copied = c.copy_from_slice.ensures.after ∙ copied_all c.work.new.d c.args.out.now nan c.args.n (within _ _ _ p c.work.array_long) (length_is _ _ p) in
    holds _ _ _ _ p (told c.temperature_within.ensures c.if-not-temperature_within.false) _ (held_at _ _ _ c.work.ensures c.in_ok-work.was) _ (told c.all_finite.ensures c.if-not-all_finite.false) copied
