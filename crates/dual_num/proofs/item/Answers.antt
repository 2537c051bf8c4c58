-- `dual_num::item` meets its contract. Assumes nothing.
use mathlib.Core.Path.{sym, ap, ◌∙◌}
use Rattle.std.proofs.lemmas.List.{get_or-map}
use Rattle.dual_num.proofs.item.Goals as goal

pub returns : goal.returns
returns g c w = ap (g.D.DualNum.of w) c.index-l-i.is ∙ sym (get_or-map (g.D.DualNum.of w) c.args.l.now c.args.i _ _ c.requires)
