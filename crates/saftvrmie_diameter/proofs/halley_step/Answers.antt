-- `saftvrmie_diameter::halley_step` meets its contract. Assumes nothing.
use mathlib.Core.Bool.{true}
use mathlib.Core.Path.{ap, ◌∙◌}
use lib.Ieee.{of_bits}
use Rattle.number.specs.Ans.{◌>>=◌}
use Rattle.number.specs.Answer.{answer_by}
use Rattle.number.specs.Arith.{decimal}
use Rattle.number.proofs.Walk.{via, handed_on}
use Rattle.saftvrmie_diameter.specs.Diameter.{halley_step}
use Rattle.saftvrmie_diameter.proofs.Staged.{ln_epsilon}
use Rattle.saftvrmie_diameter.proofs.halley_step.Goals as goal

pub returns-in_err-plr : goal.returns-in_err-plr
unfolding halley_step ◌>>=◌ decimal of_bits
returns-in_err-plr c =
    let r = c.raise.ensures true ∙ (c.requires _).0 ∙ ap (λ f. f c.args.lr) (c.inverse_base-base.ensures true) in
    rw (handed_on _ c.from_residual.ensures, via (answer_by (λ x. x)) r c.in_err-plr.was)

pub returns-in_err-pla : goal.returns-in_err-pla
unfolding halley_step ◌>>=◌ decimal of_bits
returns-in_err-pla c =
    let r = c.raise.ensures true ∙ (c.requires _).0 ∙ ap (λ f. f c.args.lr) (c.inverse_base-base.ensures true) in
    let a = c.raise-2.ensures true ∙ (c.requires _).1 ∙ ap (λ f. f c.args.la) (c.inverse_base-base.ensures true) in
    rw (handed_on _ c.from_residual-in_err-pla.ensures, via (answer_by (λ x. x)) r c.in_ok-plr.was, via (answer_by (λ x. x)) a c.in_err-pla.was)

pub returns : goal.returns
unfolding halley_step ◌>>=◌ decimal of_bits
returns c =
    let r = c.raise.ensures true ∙ (c.requires _).0 ∙ ap (λ f. f c.args.lr) (c.inverse_base-base.ensures true) in
    let a = c.raise-2.ensures true ∙ (c.requires _).1 ∙ ap (λ f. f c.args.la) (c.inverse_base-base.ensures true) in
    rw (via (answer_by (λ x. x)) r c.in_ok-plr.was, via (answer_by (λ x. x)) a c.in_ok-pla.was, ln_epsilon)
