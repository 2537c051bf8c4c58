-- `saftvrmie::all_finite` meets its contract. Assumes nothing.
use Rattle.std.proofs.Common.{rules, refl, sym, length, ◌∙◌, take}
use Rattle.std.specs.Float.{nan}
use lib.Ieee.Scale.{finite}
use Rattle.number.proofs.Every.{every_all, every_take}
use Rattle.limits.specs.Limits.{all_finite}
use Rattle.saftvrmie.specs.Diameters.{diameters_finite}
use Rattle.saftvrmie.proofs.all_finite.Goals as goal

pub returns : goal.returns
unfolding diameters_finite all_finite
returns c =
    let front = take c.args.n c.args.d.now in
    c.all_finite.ensures ∙ sym (every_all finite nan front (length front) refl) ∙ every_take finite nan c.args.d.now c.args.n (search rules)
