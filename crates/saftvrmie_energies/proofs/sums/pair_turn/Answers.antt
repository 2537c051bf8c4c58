-- `saftvrmie_energies::sums::pair_turn` meets its contract. Assumes nothing.
use Rattle.number.specs.Ans.{◌>>=◌}
use Rattle.number.specs.Answer.{answer_by}
use Rattle.number.proofs.Walk.{via, handed_on}
use Rattle.saftvrmie_dispersion.specs.Answer.{terms_by}
use Rattle.saftvrmie_energies.specs.Dispersion.{pair_turn}
use Rattle.saftvrmie_energies.proofs.sums.pair_turn.Goals as goal

pub returns-in_err-t : goal.returns-in_err-t
unfolding pair_turn ◌>>=◌
returns-in_err-t g c w = rw (handed_on _ c.from_residual.ensures, via (answer_by (terms_by (g.D.DualNum.of w))) (rw (c.pair_at-p.ensures, c.d_ij-d.ensures w) at (c.pair_terms.ensures w)) c.in_err-t.was)

pub returns : goal.returns
unfolding pair_turn ◌>>=◌
returns g c w = rw (via (answer_by (terms_by (g.D.DualNum.of w))) (rw (c.pair_at-p.ensures, c.d_ij-d.ensures w) at (c.pair_terms.ensures w)) c.in_ok-t.was, c.add_pair.ensures w, c.item.ensures w, c.item-2.ensures w)
