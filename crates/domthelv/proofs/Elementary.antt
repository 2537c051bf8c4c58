-- From the definition of an elementary function to what its call has answered. Assumes nothing.
use mathlib.Core.Path.{◌≡◌, refl, sym, ap, ap₂, ◌∙◌, subst}
use Rattle.std.specs.Prelude.{Err, Ok, Result}
use Rattle.number.specs.declared.refusal.Refusal.{Refusal}
use Rattle.number.specs.declared.refusal.Refusal.TheVariants.{Length, Limit, Segments, Order, MixedOrders, Domain, NotFinite, Unsound, Short, Heading, Filling, Room, Layers, StoredZero, Components, Occupied}
use Prim.Native.Nat.{ℕ}
use lib.Ieee.{Float}
use Rattle.number.specs.Ans.{Ans, refused}
use Rattle.number.specs.Answer.{code, answer}
use Rattle.mie_parameters.specs.Answer.{verdict, status, stored}
use Rattle.domthelv.specs.Elementary.{stored_answer, Delivers}

-- no refusal has the number 0
code_told : (r : Refusal) (v : Float) → refused (code r) ≡ stored_answer (code r) v
code_told Length v = refl
code_told Limit v = refl
code_told Segments v = refl
code_told Order v = refl
code_told MixedOrders v = refl
code_told Domain v = refl
code_told NotFinite v = refl
code_told Unsound v = refl
code_told Short v = refl
code_told Heading v = refl
code_told Filling v = refl
code_told Room v = refl
code_told Layers v = refl
code_told StoredZero v = refl
code_told Components v = refl
code_told Occupied v = refl

-- the number and the value tell the whole answer
told : (a : Result Float Refusal) (before : Float) → answer a ≡ stored_answer (status (answer a)) (stored before (answer a))
unfolding status verdict stored
told (Ok v) before = refl
told (Err r) before = code_told r before

-- so what holds of the definition's answer holds of the call's
pub delivers : (P : Ans Float → Type 0) (a : Result Float Refusal) (d : Ans Float) (r : ℕ) (before after : Float) → answer a ≡ d → (r ≡ status (answer a)) × (after ≡ stored before (answer a)) → P d → Delivers P d r before after
delivers P a d r before after e (s, t) h = (s ∙ ap status e, t ∙ ap (stored before) e, subst P (sym e ∙ told a before ∙ ap₂ stored_answer (sym s) (sym t)) h)
