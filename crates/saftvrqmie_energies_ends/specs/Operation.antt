-- The quantum energies as a two-ended operation: the float operation's refusals in its order, then 8, then the ends of each contribution.
use Rattle.std.specs.Prelude.{Float, List, Bool, ◌&&◌}
use Rattle.number.specs.Ans.{Ans, held, ◌>>=◌, demand}
use Rattle.number.specs.Functions.{Answers, calls}
use Rattle.enclosure.specs.declared.Enclosure.{Enclosure}
use Rattle.enclosure.specs.declared.Ends.{Ends}
use Rattle.enclosure.specs.Enclosure.{enclosures}
use Rattle.enclosure.specs.Ends.{ends_in}
use Rattle.saftvrqmie_parameters.specs.declared.SaftVRQMiePars.{SaftVRQMiePars}
use Rattle.saftvrqmie_energies.specs.Energies.{EnergiesIn, contributions_of, energies_by}

abbrev pub together : {N : Type 0} → N → N → N → EnergiesIn N
together h d a = record { hard_sphere = h; dispersion = d; non_additive = a }

-- the float run's values
abbrev pub values_of : EnergiesIn Enclosure → EnergiesIn Float
values_of e = together e.hard_sphere.value e.dispersion.value e.non_additive.value

abbrev pub each_ends : EnergiesIn Enclosure → EnergiesIn Ends
each_ends e = together (ends_in e.hard_sphere) (ends_in e.dispersion) (ends_in e.non_additive)

unfoldable pub all_sound : EnergiesIn Enclosure → Bool
all_sound e = e.hard_sphere.ends.sound && e.dispersion.ends.sound && e.non_additive.ends.sound

-- 8 if a contribution's enclosure is not sound, else the ends
abbrev pub sound_ends : EnergiesIn Enclosure → Ans (EnergiesIn Ends)
sound_ends b =
    demand 8 (all_sound b) >>= λ _.
    held (each_ends b)

-- 1, 2, 6, 7 of the float operation, then 8. A part that is not wanted has the ends +0, +0
abbrev pub each_ends_of : Ans (EnergiesIn Float) → Ans (EnergiesIn Enclosure) → Ans (EnergiesIn Ends)
each_ends_of float run =
    float >>= λ _.
    run >>= λ b.
    sound_ends b

-- whatever the elementary functions answer
unfoldable pub energies_ends : Answers → SaftVRQMiePars → Float → List Float → List Float → List Float → Bool → Ans (EnergiesIn Ends)
energies_ends E s t x rho table wanted = each_ends_of (energies_by E s t x rho table wanted) (contributions_of enclosures (calls enclosures E) s t x rho table wanted)

-- the same before 8: the float operation's refusals, then the enclosures, sound or not
unfoldable pub energies_enclosed : Answers → SaftVRQMiePars → Float → List Float → List Float → List Float → Bool → Ans (EnergiesIn Enclosure)
energies_enclosed E s t x rho table wanted = energies_by E s t x rho table wanted >>= λ _. contributions_of enclosures (calls enclosures E) s t x rho table wanted
