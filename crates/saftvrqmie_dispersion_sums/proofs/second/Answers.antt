-- `saftvrqmie_dispersion_sums::second` meets its contract. Assumes nothing.
use borrow.Author.Rules.{rules}
use mathlib.Core.Bool.{true}
use Rattle.number.specs.Ans.{◌>>=◌}
use Rattle.number.specs.Answer.{answer_by}
use Rattle.number.proofs.Walk.{via, handed_on}
use Rattle.saftvrqmie_dispersion_sums.specs.State.{sheets_read}
use Rattle.saftvrqmie_dispersion_sums.specs.Dispersion.{mixture_by, second_row, second}
use Rattle.saftvrqmie_dispersion_sums.proofs.second.Goals as goal

pub returns-in_err-a2 : goal.returns-in_err-a2
unfolding second ◌>>=◌
returns-in_err-a2 g c x a q r =
    let D = g.D.DualNum in
    let e = via (answer_by (D.of true)) (c.rows.ensures (second_row (D.beside true) (D.functions true) (sheets_read (D.beside true) (D.of true) (D.entry_of true) c.args.m.now.state.now) x (mixture_by (D.of true) c.args.m.now.segment) a) (λ i v sum b h t p. search rules)) c.in_err-a2.was in
    rw (handed_on _ c.from_residual.ensures, e)

pub returns : goal.returns
unfolding second ◌>>=◌
returns g c x a q r =
    let D = g.D.DualNum in
    let m = g.met.D.DualNum in
    let e = via (answer_by (D.of true)) (c.rows.ensures (second_row (D.beside true) (D.functions true) (sheets_read (D.beside true) (D.of true) (D.entry_of true) c.args.m.now.state.now) x (mixture_by (D.of true) c.args.m.now.segment) a) (λ i v sum b h t p. search rules)) c.in_ok-a2.was in
    rw (e, m.mul_law true _ _ _ c.mul.ensures, c.k-k.ensures true)
