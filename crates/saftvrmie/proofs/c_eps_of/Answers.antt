-- `saftvrmie::c_eps_of` meets its contract. Assumes nothing.
use Rattle.saftvrmie.proofs.c_eps_of.Goals as goal

pub returns : goal.returns
returns g c w =
    let m = g.met.D.DualNum in
    rw (← m.plain_lit_law w _ _ c.lit.ensures, ← m.plain_lit_law w _ _ c.lit-2.ensures, ← c.entered.ensures w) (c.c_eps_t.ensures w)
