-- What the closures of a search work, for the contracts of helpers alone: the tested value, and the next radius.
use Rattle.std.specs.Prelude.{◌≡◌}
use Rattle.saftvrqmie_potential.specs.declared.QMiePotential.{QMiePotential}
use Rattle.saftvrqmie_potential.specs.Potential.{PotentialIn, potential_by}

abbrev pub Tests : {D N : Type 0} → (D → N) → (QMiePotential D → D → Type 0) → (PotentialIn N → N) → Type 0
Tests of post t = (v : _) (f : _) → post v f → of f ≡ t (potential_by of v)

abbrev pub Moves : {D N : Type 0} → (D → N) → (D → QMiePotential D → D → D → Type 0) → (N → PotentialIn N → N → N) → Type 0
Moves of post m = (r : _) (v : _) (f s : _) → post r v f s → of s ≡ m (of r) (potential_by of v) (of f)
