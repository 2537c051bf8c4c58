-- `slopes::powf` meets its contract. Assumes nothing.
use Rattle.number.proofs.Walk.{told}
use mathlib.Core.Path.{◌∙◌, sym}
use Rattle.slopes.proofs.Staged.{base_outside, power_tested, power_held}
use Rattle.dual.specs.Value.{dual_of}
use Rattle.slopes.proofs.powf.Goals as goal

pub returns-then-not-base_inside : goal.returns-then-not-base_inside
unfolding dual_of
returns-then-not-base_inside c = sym (base_outside _ _ (told c.base_inside.ensures c.if-not-base_inside.true))

pub returns-then-not-exponent_inside : goal.returns-then-not-exponent_inside
unfolding dual_of
returns-then-not-exponent_inside c = sym (power_tested _ _ (told c.base_inside.ensures c.if-not-base_inside.false) ∙ rw (told c.exponent_inside.ensures c.if-not-exponent_inside.true))

pub returns : goal.returns
unfolding dual_of
returns c = rw (c.raise.ensures, c.exponent.ensures, c.log_base.ensures) (sym (power_held _ _ (told c.base_inside.ensures c.if-not-base_inside.false) (told c.exponent_inside.ensures c.if-not-exponent_inside.false)))
