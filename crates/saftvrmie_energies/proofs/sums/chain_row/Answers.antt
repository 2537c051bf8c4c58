-- `saftvrmie_energies::sums::chain_row` meets its contract. Assumes nothing.
use Rattle.number.specs.Ans.{◌>>=◌}
use Rattle.number.specs.Answer.{answer_by}
use Rattle.number.proofs.Walk.{via, handed_on}
use Rattle.saftvrmie_dispersion.specs.Answer.{sums_by}
use Rattle.saftvrmie_energies.specs.Dispersion.{chain_row}
use Rattle.saftvrmie_energies.proofs.sums.chain_row.Goals as goal

pub returns-in_err-next : goal.returns-in_err-next
unfolding chain_row ◌>>=◌
returns-in_err-next g c w =
    let q = rw (c.pure_at-p.ensures, c.entered-d.ensures w, c.entered.ensures w, c.entered-2.ensures w, c.item-xi.ensures w) at (c.chain_pure.ensures w) in
    rw (handed_on _ c.from_residual.ensures, via (answer_by (sums_by (g.S.Re.DualNum.of w))) q c.in_err-next.was)

pub returns : goal.returns
unfolding chain_row ◌>>=◌
returns g c w =
    let q = rw (c.pure_at-p.ensures, c.entered-d.ensures w, c.entered.ensures w, c.entered-2.ensures w, c.item-xi.ensures w) at (c.chain_pure.ensures w) in
    rw (via (answer_by (sums_by (g.S.Re.DualNum.of w))) q c.in_ok-next.was) (c.pair_row.ensures w)
