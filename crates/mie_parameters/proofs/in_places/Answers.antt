-- `mie_parameters::in_places` meets its contract. Assumes nothing.
use Rattle.std.proofs.Common.{◌∙◌, sym, ap, ◌++◌, drop, replicate, rules, arith}
use Rattle.std.proofs.lemmas.List.{take_all, length-replicate}
use Rattle.std.specs.Float.{nan}
use Rattle.number.specs.Arith.{zero64}
use Rattle.sizes.specs.Sizes.{side}
use Rattle.number.proofs.Every.{copied_front}
use Rattle.mie_parameters.specs.Places.{in_places}
use Rattle.mie_parameters.proofs.in_places.Goals as goal

pub returns : goal.returns
unfolding in_places
returns c =
    let l = c.args.l.now in
    let r = replicate side zero64 in
    let n = c.args.n in
    let long = c.requires.1 in
    let few = c.requires.0 in
    let many = length-replicate side zero64 in
    search rules ∙ sym (copied_front l r nan n (omega (arith, long)) (omega (arith, few, many)) ∙ ap (λ x. x ++ drop n r) (take_all n l (omega (arith, long))))
