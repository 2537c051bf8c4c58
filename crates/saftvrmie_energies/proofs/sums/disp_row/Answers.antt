-- `saftvrmie_energies::sums::disp_row` meets its contract. Assumes nothing.
use Rattle.number.specs.Ans.{◌>>=◌}
use Rattle.number.specs.Answer.{answer_by}
use Rattle.number.proofs.Walk.{via, handed_on}
use Rattle.saftvrmie_dispersion.specs.Answer.{terms_by}
use Rattle.saftvrmie_energies.specs.Dispersion.{disp_row}
use Rattle.saftvrmie_energies.proofs.sums.disp_row.Goals as goal

pub returns-in_err-t : goal.returns-in_err-t
unfolding disp_row ◌>>=◌
returns-in_err-t g c w = rw (handed_on _ c.from_residual.ensures, via (answer_by (terms_by (g.D.DualNum.of w))) (rw (c.pure_at-p.ensures, c.entered-d.ensures w) at (c.pair_terms.ensures w)) c.in_err-t.was)

pub returns : goal.returns
unfolding disp_row ◌>>=◌
returns g c w = rw (via (answer_by (terms_by (g.D.DualNum.of w))) (rw (c.pure_at-p.ensures, c.entered-d.ensures w) at (c.pair_terms.ensures w)) c.in_ok-t.was, c.pair_row.ensures w, c.add_pure-next.ensures w, c.item.ensures w)
