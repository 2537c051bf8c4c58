-- The power by the base of a number is its power, a power is refused with 6 alone, where its base or its exponent is outside, and EPSILON has a logarithm: what the runs give to the trait's laws. Assumes nothing.
use lib.Ieee as Ieee
use lib.Ieee.{Float}
use native.Mathlib.Omega.{arith}
use Prim.Native.Nat.{ℕ}
use mathlib.Core.Path.{◌≡◌, refl, sym, ◌∙◌, fun_ext}
use mathlib.Core.Bool.{Bool, true, false, ◌&&◌, cond}
use Rattle.number.specs.Ans.{Ans, held, refused, ◌>>=◌, demand}
use Rattle.number.specs.Arith.{floats, epsilon64}
use Rattle.number.specs.Functions.{calls, answered, answered₂}
use Rattle.number.specs.Domain.{base_inside, exponent_inside}
use Rattle.elementary.specs.Port.{port}
use Rattle.elementary.proofs.Promised.{promised}
use Rattle.binary_log.specs.BinaryLog.{log_of}
use Rattle.power.specs.Power.{exponent_of, power_of, powf_of}
use Rattle.enclosure.specs.declared.Enclosure.{Enclosure}
use Rattle.enclosure.specs.Enclosure.{point, enclosures}
use Rattle.dual.specs.Dual.{DualOf}
use Rattle.dual.specs.Value.{dual_of}
use Rattle.dual.specs.declared.Dual.{Dual}
use Rattle.slopes.specs.Mixed.{Mixed, plain, sloped}
use Rattle.slopes.specs.Rules.{real_power, mixed_power, mixed_functions}
use Rattle.slopes.specs.Staged.{slope_inside}
use Rattle.slopes.proofs.Staged.{base_outside, power_held, power_tested}
use Rattle.dual_num.specs.declared.FloatBase.{FloatBase}
use Rattle.dual_num.specs.declared.EnclosureBase.{EnclosureBase}
use Rattle.dual_num.specs.declared.DualBase.{DualBase}
use Rattle.dual_num.specs.declared.FloatExponent.{FloatExponent}
use Rattle.dual_num.specs.declared.EnclosureExponent.{EnclosureExponent}
use Rattle.dual_num.specs.declared.DualExponent.{DualExponent}
use Rattle.dual_num.specs.Base.{float_base_of, dual_base_of, float_power, enclosure_power, dual_power, float_raised, float_power_by, enclosure_raised, enclosure_power_by, dual_raised, dual_power_by}

pub asked : (x y : Float) (a : Ans Float) → answered₂ floats a x y ≡ a
unfolding answered₂ ◌>>=◌
asked x y (held v) = refl
asked x y (refused n) = refl

-- ---- the power by the base of a number is its power, as a function of the exponent
pub float_is : (x : Float) → float_power (float_base_of x) ≡ (calls floats port).powf x
unfolding float_power powf_of
float_is x = fun_ext (λ y. sym (asked x y (powf_of x y)))

pub enclosure_is : (x : Enclosure) → enclosure_power (record { x = x; base = float_base_of x.value }) ≡ (calls enclosures port).powf x
unfolding enclosure_power float_power powf_of
enclosure_is x = refl

staged : (x : DualOf Float) (y : Float) (s t : Bool) → base_inside x.re ≡ s → slope_inside y ≡ t
    → dual_power (record { base = float_base_of x.re; slope = x.eps }) (plain y) ≡ (real_power port x y >>= λ v. held (sloped v))
unfolding dual_power demand ◌>>=◌
staged x y false t h k = rw (h, base_outside x y h)
staged x y true true h k = rw (h, k, power_held x y h k)
staged x y true false h k = rw (h, power_tested x y h, k)

at_exponent : (x : DualOf Float) (y : Mixed) → dual_power (record { base = float_base_of x.re; slope = x.eps }) y ≡ mixed_power port (sloped x) y
unfolding dual_power
at_exponent x (plain y) = staged x y (base_inside x.re) (slope_inside y) refl refl
at_exponent x (sloped y) = refl

pub dual_is : (x : DualOf Float) → dual_power (record { base = float_base_of x.re; slope = x.eps }) ≡ (mixed_functions port).powf (sloped x)
dual_is x = fun_ext (λ y. at_exponent x y)

pub dual_base_is : (x : Dual) → dual_power (dual_base_of x) ≡ (mixed_functions port).powf (sloped (dual_of x))
unfolding dual_of
dual_base_is x = dual_is _

-- ---- where a power is refused
pub float_power_is : (b : FloatBase) (n : FloatExponent) → float_power_by b n ≡ cond (b.inside && n.inside) (held (float_raised b n)) (refused 6)
unfolding float_power_by
float_power_is b n = refl

answered_at : (t : Bool) (z : Float) (x y : Enclosure) → answered₂ enclosures (cond t (held z) (refused 6)) x y ≡ cond t (held (enclosures.after x (enclosures.after y (enclosures.lit z)))) (refused 6)
unfolding answered₂ ◌>>=◌
answered_at true z x y = refl
answered_at false z x y = refl

pub enclosure_power_is : (b : EnclosureBase) (n : EnclosureExponent) → enclosure_power_by b n ≡ cond (b.base.inside && n.at.inside) (held (enclosure_raised b n)) (refused 6)
unfolding enclosure_power_by float_power_by
enclosure_power_is b n = answered_at (b.base.inside && n.at.inside) (float_raised b.base n.at) b.x n.x

pub dual_power_is : (b : DualBase) (n : DualExponent) → dual_power_by b n ≡ cond (b.base.inside && n.inside) (held (dual_raised b n)) (refused 6)
unfolding dual_power_by
dual_power_is b n = refl

six_of : {S : Type 0} (s t : Bool) (z : S) (n : ℕ) → (demand 6 s >>= λ _. demand 6 t >>= λ _. held z) ≡ refused n → n ≡ 6
unfolding demand ◌>>=◌
six_of true true z n h = cc
six_of true false z n h = cc
six_of false t z n h = cc

then_six : {S T : Type 0} (a : Ans S) (f : S → T) (n : ℕ) → ((m : ℕ) → a ≡ refused m → m ≡ 6) → (a >>= λ v. held (f v)) ≡ refused n → n ≡ 6
unfolding ◌>>=◌
then_six (held v) f n h e = cc
then_six (refused m) f n h e = let k : m ≡ n = cc in sym k ∙ h m refl

port_six : (x y : Float) (n : ℕ) → powf_of x y ≡ refused n → n ≡ 6
unfolding powf_of
port_six x y n h = six_of (base_inside x) (exponent_inside y) (power_of (log_of x) (exponent_of y)) n h

pub float_six : (x y : Float) (n : ℕ) → (calls floats port).powf x y ≡ refused n → n ≡ 6
float_six x y n h = port_six x y n (sym (asked x y (powf_of x y)) ∙ h)

pub enclosure_six : (x y : Enclosure) (n : ℕ) → (calls enclosures port).powf x y ≡ refused n → n ≡ 6
unfolding answered₂
enclosure_six x y n h = then_six (powf_of x.value y.value) (λ v. enclosures.after x (enclosures.after y (enclosures.lit v))) n (port_six x.value y.value) h

real_six : (x : DualOf Float) (y : Float) (s t : Bool) (n : ℕ) → base_inside x.re ≡ s → slope_inside y ≡ t → real_power port x y ≡ refused n → n ≡ 6
real_six x y false t n p q h = let k = sym (base_outside x y p) ∙ h in cc
real_six x y true true n p q h = let k = sym (power_held x y p q) ∙ h in cc
real_six x y true false n p q h = let k = sym (rw q at (power_tested x y p)) ∙ h in cc

pub mixed_six : (x y : Mixed) (n : ℕ) → (mixed_functions port).powf x y ≡ refused n → n ≡ 6
mixed_six (plain x) (plain y) n h = then_six (powf_of x y) plain n (port_six x y) h
mixed_six (sloped x) (plain y) n h = then_six (real_power port x y) sloped n (λ m e. real_six x y (base_inside x.re) (slope_inside y) m refl refl e) h
mixed_six (plain x) (sloped y) n h = cc
mixed_six (sloped x) (sloped y) n h = cc

-- ---- EPSILON has a logarithm
refused_or_held : {S : Type 0} (n : ℕ) (r : S) → refused n ≡ held r → ⊥
refused_or_held n r p = let z : ◌≡◌ {A = ℕ} 0 1 = cc in omega arith

port_epsilon : (n : ℕ) → port.ln epsilon64 ≡ refused n → ⊥
unfolding Ieee.of_bits Ieee.le Ieee.lt Ieee.eq Ieee.is_nan Ieee.fits
port_epsilon n e = refused_or_held n ((promised.ln epsilon64 tt).0.inside tt).0 (sym e ∙ ((promised.ln epsilon64 tt).0.inside tt).1)

then_refused : {S T : Type 0} (a : Ans S) (f : S → T) (n : ℕ) → ((m : ℕ) → a ≡ refused m → ⊥) → (a >>= λ v. held (f v)) ≡ refused n → ⊥
unfolding ◌>>=◌
then_refused (held v) f n h e = refused_or_held n (f v) (sym e)
then_refused (refused m) f n h e = h m refl

pub float_epsilon : (n : ℕ) → (calls floats port).ln epsilon64 ≡ refused n → ⊥
unfolding answered
float_epsilon n h = then_refused (port.ln epsilon64) (λ v. v) n port_epsilon h

pub enclosure_epsilon : (n : ℕ) → (calls enclosures port).ln (enclosures.lit epsilon64) ≡ refused n → ⊥
unfolding answered point
enclosure_epsilon n h = then_refused (port.ln epsilon64) (λ v. enclosures.after (enclosures.lit epsilon64) (enclosures.lit v)) n port_epsilon h

pub mixed_epsilon : (n : ℕ) → (mixed_functions port).ln (plain epsilon64) ≡ refused n → ⊥
mixed_epsilon n h = then_refused (port.ln epsilon64) plain n port_epsilon h
