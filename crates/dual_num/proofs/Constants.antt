-- A constant of a run without ends is its float. Assumes nothing.
use mathlib.Core.Path.{◌≡◌, refl, ap, ◌∙◌}
use Rattle.number.specs.Arith.{Constant, pi, frac_pi_6, tau, node, floats}
use Rattle.number.specs.Functions.{calls}
use Rattle.elementary.specs.Port.{port}
use Rattle.enclosure.specs.declared.Enclosed.{Enclosed}
use Rattle.enclosure.specs.Enclosed.{IsEnclosed, enclosed}
use Rattle.slopes.specs.Mixed.{plain}
use Rattle.slopes.specs.Rules.{mixed_functions}
use Rattle.dual_num.specs.Constants.{constant_of}

pub float_constant : (c : Constant) (e : Enclosed) → IsEnclosed c e → e.value ≡ constant_of (calls floats port) c
unfolding enclosed
float_constant pi e r = rw r.is
float_constant frac_pi_6 e r = rw r.is
float_constant tau e r = rw r.is
float_constant (node s digits places) e r = rw r.is

stays_plain : (c : Constant) → plain (constant_of (calls floats port) c) ≡ constant_of (mixed_functions port) c
stays_plain pi = refl
stays_plain frac_pi_6 = refl
stays_plain tau = refl
stays_plain (node s digits places) = refl

pub plain_constant : (c : Constant) (e : Enclosed) → IsEnclosed c e → plain e.value ≡ constant_of (mixed_functions port) c
plain_constant c e r = ap plain (float_constant c e r) ∙ stays_plain c
