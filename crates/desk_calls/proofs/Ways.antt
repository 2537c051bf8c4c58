-- The calls, answer by answer, over plain values. Assumes nothing.
use Prim.Native.Nat.{ℕ}
use Rattle.std.specs.Prelude.{Result, Ok, Err}
use Rattle.number.specs.Answer.{code}
use Rattle.number.specs.declared.refusal.Refusal.{Refusal}
use native.Mathlib.Omega.{arith}
use mathlib.Core.Path.{◌≡◌, refl, ap, ◌∙◌}
use mathlib.Core.Bool.{Bool, true, false}
use mathlib.Core.List.{List, [], ◌∷◌}
use lib.Dec.{eqb}
use lib.Ieee.{Float}
use lib.ListN.{length}
use Rattle.number.specs.Ans.{Ans, held, refused, ◌>>=◌, demand}
use Rattle.mie_parameters.specs.Answer.{outcome, verdict, status, stored, number_of}
use Rattle.saftvrqmie_energies.specs.Energies.{EnergiesIn}
use Rattle.round_robin.specs.Desk.{Told, idle, worked, finished, Served, Entered}
use Rattle.desk_place.specs.Layout.{Lists}
use Rattle.desk.specs.Desk.{served_once, place_told, entered_of, told_of, desk_of}
use Rattle.desk_calls.specs.Calls.{Slip, Lent, handed, filled, served_call}

pub status_is : {S : Type 0} (a : Ans S) (r : Result (Unit {0}) Refusal) (n : ℕ) → outcome r true ≡ verdict a → n ≡ number_of r → n ≡ status a
unfolding status verdict
status_is (held x) (Ok u) n h e = e
status_is (held x) (Err k) n h e = let z : ◌≡◌ {A = ℕ} 0 1 = cc in absurd (omega arith)
status_is (refused k) (Ok u) n h e = let z : ◌≡◌ {A = ℕ} 0 1 = cc in absurd (omega arith)
status_is (refused k) (Err m) n h e = e ∙ same h
  where
    same : ◌≡◌ {A = Ans Bool} (refused (code m)) (refused k) → code m ≡ k
    same h = cc

-- ---- submit

entered_is : (l m : Lists) (p k : ℕ) → l ≡ m → p ≡ k → ◌≡◌ {A = Entered Lists} (record { desk = l; place = p }) (record { desk = m; place = k })
entered_is l m p k e f = rw (e, f)

module _ (l m : Lists) (p : ℕ) where
  pub submit_is : (a : Ans (Entered Lists)) (b : Ans ℕ) (n k : ℕ) → b ≡ place_told a → m ≡ entered_of l a → (n ≡ status b) × (k ≡ stored p b) → (n ≡ status a) × (record { desk = m; place = k } ≡ stored (record { desk = l; place = p }) a)
  unfolding place_told entered_of status stored
  submit_is (held e) b n k h d (s, t) = (s ∙ ap status h, entered_is m e.desk k e.place d (t ∙ ap (stored p) h))
  submit_is (refused r) b n k h d (s, t) = (s ∙ ap status h, entered_is m l k p d (t ∙ ap (stored p) h))

-- ---- a finished query's answer

module _ (a : Ans (EnergiesIn Float)) (l : List Float) where
  pub number_out : (n : ℕ) → a ≡ refused n → (n ≡ status a) × (l ≡ handed a l)
  unfolding status verdict handed
  number_out n h = rw h (refl, refl)

  pub energies_out : (e : EnergiesIn Float) → a ≡ held e → (o : List Float) → o ≡ e.hard_sphere ∷ e.dispersion ∷ e.non_additive ∷ [] → (0 ≡ status a) × (o ≡ handed a l)
  unfolding status verdict handed
  energies_out e h o p = rw h (refl, p)

-- ---- serve

lent_is : (l m : Lists) (s t : Slip) → l ≡ m → s ≡ t → ◌≡◌ {A = Lent} (record { desk = l; slip = s }) (record { desk = m; slip = t })
lent_is l m s t e f = rw (e, f)

pub slip_is : (x : Slip) (k j n : ℕ) (a : Ans (EnergiesIn Float)) (o : List Float) → j ≡ k → n ≡ status a → o ≡ handed a x.energies → record { outcome = 2; place = j; number = n; energies = o } ≡ filled (finished k a) x
unfolding filled
slip_is x k j n a o e f g = rw (e, f, g)

abbrev gone : Lent → Ans (Served Lists (Ans (EnergiesIn Float))) → Ans Lent
gone l a = a >>= λ s. held (record { desk = s.desk; slip = filled s.told l.slip })

module _ (l : Lent) where
  pub serve_1 : eqb (length l.slip.energies) 3 ≡ false → (1 ≡ status (served_call l)) × (l ≡ stored l (served_call l))
  unfolding served_call status verdict stored demand ◌>>=◌
  serve_1 h = rw h (refl, refl)

  module _ (h : eqb (length l.slip.energies) 3 ≡ true) (m : Lists) where
    told_refused : (a : Ans (Served Lists (Ans (EnergiesIn Float)))) (n : ℕ) → told_of a ≡ refused n → m ≡ desk_of l.desk a
        → (n ≡ status (gone l a)) × (record { desk = m; slip = l.slip } ≡ stored l (gone l a))
    unfolding told_of desk_of status verdict stored ◌>>=◌
    told_refused (held s) n t d = let z : ◌≡◌ {A = ℕ} 0 1 = cc in absurd (omega arith)
    told_refused (refused k) n t d = (same t, lent_is m l.desk l.slip l.slip d refl)
      where
        same : ◌≡◌ {A = Ans (Told (Ans (EnergiesIn Float)))} (refused k) (refused n) → n ≡ k
        same t = cc

    told_held : (a : Ans (Served Lists (Ans (EnergiesIn Float)))) (t : Told (Ans (EnergiesIn Float))) (x : Slip) → told_of a ≡ held t → m ≡ desk_of l.desk a → x ≡ filled t l.slip
        → (0 ≡ status (gone l a)) × (record { desk = m; slip = x } ≡ stored l (gone l a))
    unfolding told_of desk_of status verdict stored ◌>>=◌
    told_held (held s) t x e d f = (refl, lent_is m s.desk x (filled s.told l.slip) d (f ∙ ap (λ (u : Told (Ans (EnergiesIn Float))). filled u l.slip) (same s.told e)))
      where
        same : (u : Told (Ans (EnergiesIn Float))) → ◌≡◌ {A = Ans (Told (Ans (EnergiesIn Float)))} (held u) (held t) → t ≡ u
        same u e = cc
    told_held (refused n) t x e d f = let z : ◌≡◌ {A = ℕ} 0 1 = cc in absurd (omega arith)

    pub serve_refused : (n : ℕ) → told_of (served_once l.desk) ≡ refused n → m ≡ desk_of l.desk (served_once l.desk) → (n ≡ status (served_call l)) × (record { desk = m; slip = l.slip } ≡ stored l (served_call l))
    unfolding served_call demand ◌>>=◌
    serve_refused n t d = rw h (told_refused (served_once l.desk) n t d)

    pub serve_held : (t : Told (Ans (EnergiesIn Float))) (x : Slip) → told_of (served_once l.desk) ≡ held t → m ≡ desk_of l.desk (served_once l.desk) → x ≡ filled t l.slip
        → (0 ≡ status (served_call l)) × (record { desk = m; slip = x } ≡ stored l (served_call l))
    unfolding served_call demand ◌>>=◌
    serve_held t x e d f = rw h (told_held (served_once l.desk) t x e d f)

pub filled_idle : (s : Slip) → record { outcome = 0; place = s.place; number = s.number; energies = s.energies } ≡ filled idle s
unfolding filled
filled_idle s = refl

pub filled_worked : (s : Slip) → record { outcome = 1; place = s.place; number = s.number; energies = s.energies } ≡ filled worked s
unfolding filled
filled_worked s = refl
