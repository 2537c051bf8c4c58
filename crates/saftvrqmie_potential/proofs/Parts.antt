-- A potential is known by its parts. Assumes nothing.
use mathlib.Core.Path.{◌≡◌}
use Rattle.saftvrqmie_potential.specs.Potential.{PotentialIn}

pub by_parts : {N : Type 0} {u u' v v' t t' : N} → u ≡ u' → v ≡ v' → t ≡ t' → ◌≡◌ {A = PotentialIn N} (record { u = u; u_r = v; u_rr = t }) (record { u = u'; u_r = v'; u_rr = t' })
by_parts p q r = rw (p, q, r)
