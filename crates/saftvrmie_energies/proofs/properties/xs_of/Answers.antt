-- `saftvrmie_energies::properties::xs_of` meets its contract. Assumes nothing.
use Prim.Native.Nat.{ℕ, zero, suc}
use borrow.Author.Rules.{rules}
use lib.ListN.{replicate}
use mathlib.Core.List.{map}
use mathlib.Core.Path.{◌≡◌, refl}
use Rattle.std.proofs.lemmas.List.{map-set}
use Rattle.number.proofs.Walk.{turns_none, turns_next, turns_end}
use Rattle.mie_parameters.specs.Places.{in_places}
use Rattle.saftvrmie_energies.specs.Properties.{xs_of}
use Rattle.saftvrmie_energies.proofs.properties.xs_of.Goals as goal

map_replicate : {S N : Type 0} (f : S → N) (n : ℕ) (x : S) → map f (replicate n x) ≡ replicate n (f x)
map_replicate f zero x = refl
map_replicate f (suc n) x = rw (map_replicate f n x)

pub loop-i-init : goal.loop-i-init
loop-i-init g c = (search rules, λ w. rw (map_replicate, c.entered-zero.ensures w) (turns_none _ _))

pub loop-i-preserved : goal.loop-i-preserved
loop-i-preserved g c =
    let m = g.met.D.DualNum in
    (search rules, λ w. turns_next _ _ _ _ _ (c.loop-i.invariant.1 w) (rw (map-set, m.div_law w _ _ _ c.div-p.ensures, m.mul_plain_law w _ _ _ c.mul.ensures, m.plain_lit_law w _ _ c.lit.ensures, c.entered.ensures w)))

pub returns : goal.returns
unfolding xs_of in_places
returns g c w = turns_end _ _ _ _ _ c.loop-i.invariant.0 c.loop-i-test.false (c.loop-i.invariant.1 w)
