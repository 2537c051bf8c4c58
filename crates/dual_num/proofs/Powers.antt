-- A power by an exponent in fixed point is the run's power, and what the runs do on plain numbers. Assumes nothing.
use lib.Ieee.{Float}
use mathlib.Core.Path.{◌≡◌, refl, sym}
use mathlib.Core.Bool.{Bool, true, false, ◌&&◌, cond}
use Rattle.number.specs.Ans.{Ans, held, refused, ◌>>=◌, demand}
use Rattle.number.specs.Arith.{floats}
use Rattle.std.specs.Prelude.{Result, Ok, Err}
use Rattle.number.specs.Answer.{answer_by}
use Rattle.number.specs.declared.refusal.Refusal.{Refusal}
use Rattle.number.specs.Functions.{calls, answered}
use Rattle.elementary.specs.Port.{port}
use Rattle.power.specs.Power.{powf_of}
use Rattle.enclosure.specs.declared.Enclosure.{Enclosure}
use Rattle.dual.specs.Dual.{DualOf}
use Rattle.dual.specs.Value.{dual_of}
use Rattle.dual.specs.declared.Dual.{Dual}
use Rattle.slopes.specs.Mixed.{plain, sloped}
use Rattle.slopes.specs.Rules.{mixed_functions}
use Rattle.power.specs.Power.{exponent_of, power_of}
use Rattle.slopes.specs.Staged.{slope_inside}
use Rattle.slopes.specs.Staged.{slope_exponent_of}
use Rattle.number.specs.Domain.{exponent_inside}
use Rattle.dual_num.specs.declared.FloatBase.{FloatBase}
use Rattle.dual_num.specs.declared.EnclosureBase.{EnclosureBase}
use Rattle.dual_num.specs.declared.DualBase.{DualBase}
use Rattle.dual_num.specs.Laws.{asked}
use Rattle.dual_num.specs.Base.{float_power, enclosure_power, dual_power, float_exponent_of, enclosure_exponent_of, dual_exponent_of, float_power_by, enclosure_power_by, dual_raised, dual_power_by}

-- ---- one argument
pub asked_once : (x : Float) (a : Ans Float) → answered floats a x ≡ a
unfolding answered ◌>>=◌
asked_once x (held v) = refl
asked_once x (refused n) = refl

pub sloped_is : (r : Result Dual Refusal) (a : Ans (DualOf Float)) → answer_by dual_of r ≡ a → answer_by (λ x. sloped (dual_of x)) r ≡ (a >>= λ v. held (sloped v))
unfolding ◌>>=◌
sloped_is (Ok x) a p = rw (← p)
sloped_is (Err e) a p = rw (← p)

-- ---- a power by an exponent in fixed point
two_tests : {S : Type 0} (s t : Bool) (x : S) → (demand 6 s >>= λ _. demand 6 t >>= λ _. held x) ≡ cond (s && t) (held x) (refused 6)
unfolding demand ◌>>=◌
two_tests true true x = refl
two_tests true false x = refl
two_tests false t x = refl

pub float_by : (b : FloatBase) (y : Float) → float_power_by b (float_exponent_of y) ≡ float_power b y
unfolding float_power_by float_power
float_by b y = sym (two_tests b.inside (exponent_inside y) (power_of b.log (exponent_of y)))

pub enclosure_by : (b : EnclosureBase) (y : Enclosure) → enclosure_power_by b (enclosure_exponent_of y) ≡ enclosure_power b y
unfolding enclosure_power_by enclosure_power
enclosure_by b y = rw (float_by b.base y.value)

pub dual_by : (b : DualBase) (y : Float) → dual_power_by b (dual_exponent_of (plain y)) ≡ dual_power b (plain y)
unfolding dual_power_by dual_power
dual_by b y = sym (two_tests b.base.inside (slope_inside y) (dual_raised b (record { fixed = slope_exponent_of y; inside = slope_inside y })))

-- a function of plain numbers
pub plain_by : (r : Result Float Refusal) (a : Ans Float) → answer_by (λ v. v) r ≡ a → answer_by plain r ≡ (a >>= λ v. held (plain v))
unfolding ◌>>=◌
plain_by (Ok v) a p = rw (← p)
plain_by (Err e) a p = rw (← p)

-- a power of plain numbers
pub plain_is : (r : Result Float Refusal) (x y : Float) → answer_by (λ v. v) r ≡ (calls floats port).powf x y → answer_by plain r ≡ (mixed_functions port).powf (plain x) (plain y)
unfolding ◌>>=◌
plain_is (Ok v) x y p = rw (← asked x y (powf_of x y), ← p)
plain_is (Err e) x y p = rw (← asked x y (powf_of x y), ← p)
