use mathlib.Core.Path.{refl, sym, ◌∙◌, subst}
use mathlib.Core.List.{[], ◌∷◌}
use Prim.Native.Nat.{ℕ, ◌^◌, ◌<◌}
use mir.Facts.{Fits-bits}
use borrow.Author.Rules.{rules}
use Rattle.std.proofs.lemmas.List.{append-nil}
use Rattle.fixed_point.specs.Horner.{horner}
use Rattle.fixed_point.proofs.Run.{next_read, worked, last_fits}
use Rattle.fixed_point.proofs.polynomial_at.Goals as goal

pub loop-c-init : goal.loop-c-init
unfolding horner
loop-c-init c = ([], sym (append-nil _ ∙ (search rules)), refl)

pub overflow_add-sum : goal.overflow_add-sum
overflow_add-sum c =
    let i = c.loop-c.invariant in
    let x = c.in-Some.c.now in
    Fits-bits 64 tt (subst (λ (y : ℕ). y < 2 ^ 64) (sym (worked i.0 x _ _ c.args.q i.2 c.high_product.ensures.value)) (last_fits _ _ (x ∷ i.0) c.args.q (next_read _ _ _ i.0 x i.1 c.in-Some.ensures.steps) c.requires))

pub loop-c-preserved : goal.loop-c-preserved
loop-c-preserved c =
    let i = c.loop-c.invariant in
    let x = c.in-Some.c.now in
    (x ∷ i.0, next_read _ _ _ i.0 x i.1 c.in-Some.ensures.steps, worked i.0 x _ _ c.args.q i.2 c.high_product.ensures.value)
