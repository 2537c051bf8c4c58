-- Slip 12 behind the boundary: what a call of `serve` is lent, and what it leaves there.
use Rattle.std.specs.Prelude.{ℕ, eqb, Float, length, List, [], ◌∷◌}
use Rattle.number.specs.Ans.{Ans, held, refused, ◌>>=◌, demand}
use Rattle.mie_parameters.specs.Answer.{status}
use Rattle.saftvrqmie_energies.specs.Energies.{EnergiesIn}
use Rattle.round_robin.specs.Desk.{Told, idle, worked, finished}
use Rattle.desk_place.specs.Layout.{Lists}
use Rattle.desk.specs.Desk.{served_once}

-- the places for what a call tells
pub record Slip : Type 0 where
  pub outcome : ℕ
  pub place : ℕ
  pub number : ℕ
  pub energies : List Float

-- hard sphere, dispersion, non-additive of a finished query; one without energies leaves what was there
unfoldable pub handed : Ans (EnergiesIn Float) → List Float → List Float
handed (held e) l = e.hard_sphere ∷ e.dispersion ∷ e.non_additive ∷ []
handed (refused n) l = l

-- 0: no query was waiting; 1: a unit was done; 2: 'The call that finishes it hands out place and answer', a number, 0 where it is the energies; all else keeps its bits
unfoldable pub filled : Told (Ans (EnergiesIn Float)) → Slip → Slip
filled idle s = record { outcome = 0; place = s.place; number = s.number; energies = s.energies }
filled worked s = record { outcome = 1; place = s.place; number = s.number; energies = s.energies }
filled (finished k a) s = record { outcome = 2; place = k; number = status a; energies = handed a s.energies }

-- the desk, and the places for what is told of it
pub record Lent : Type 0 where
  pub desk : Lists
  pub slip : Slip

-- 1 for the list that the energies are written into, then the desk's own
unfoldable pub served_call : Lent → Ans Lent
served_call l =
    demand 1 (eqb (length l.slip.energies) 3) >>= λ _.
    served_once l.desk >>= λ s.
    held (record { desk = s.desk; slip = filled s.told l.slip })
