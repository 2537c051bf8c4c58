-- The call with slopes has the values of the calls without them. Assumes nothing.
use Prim.Native.Nat.{ℕ, ◌*◌}
use lib.Ieee.{Float}
use lib.ListN.{length}
use mathlib.Core.Path.{◌≡◌}
use mathlib.Core.List.{List}
use mathlib.Core.Bool.{Bool, true, ◌&&◌}
use borrow.Author.Tests.{eq-eqb}
use Rattle.std.proofs.lemmas.Bool.{and_parts}
use Rattle.number.specs.Ans.{Ans, held, ◌>>=◌, demand}
use Rattle.number.specs.Lists.{at}
use Rattle.number.proofs.Walk.{demanded, then_held}
use Rattle.sizes.specs.Sizes.{sheet}
use Rattle.elementary.specs.Port.{port}
use Rattle.dual.specs.Dual.{DualOf}
use Rattle.limits.specs.Limits.{count_within, shares_within, temperature_within, state_within}
use Rattle.slopes_lists.specs.Lists.{SlopedList, SlopedState, sloped_lengths, supplied_finite}
use Rattle.slopes_lists.proofs.Laws.{right}
use Rattle.saftvrqmie_parameters.specs.declared.SaftVRQMiePars.{SaftVRQMiePars}
use Rattle.saftvrqmie.specs.Table.{Lent, right_lists, temperature_table}
use Rattle.saftvrqmie_energies.specs.Energies.{EnergiesIn, state_lengths, energies}
use Rattle.saftvrqmie_table_slopes.specs.Table.{table_slopes}
use Rattle.saftvrqmie_energies_slopes.specs.Energies.{energies_slope_at}
use Rattle.saftvrqmie_slopes.specs.Operation.{energies_slopes_by, energies_slopes}
use Rattle.slopes_promises.proofs.Table.{table_kept, table_long}
use Rattle.slopes_values.specs.Energies.{duals_values}
use Rattle.slopes_values.proofs.Energies.{energies_are_kept}

-- ---- what the tests of the call say of the tests of the others
lists_right : (n a b : ℕ) → count_within n ≡ true → a ≡ 4 * sheet → b ≡ 3 * sheet → right_lists n a b ≡ true
unfolding right_lists
lists_right n a b p q r = rw (p, eq-eqb a (4 * sheet) q, eq-eqb b (3 * sheet) r)

lengths_right : (n : ℕ) (x rho table : List Float) → count_within n ≡ true → length x ≡ n → length rho ≡ n → length table ≡ 4 * sheet → state_lengths n x rho table ≡ true
unfolding state_lengths
lengths_right n x rho table p q r s = rw (p, eq-eqb (length x) n q, eq-eqb (length rho) n r, eq-eqb (length table) (4 * sheet) s)

temperature_right : (n : ℕ) (t : Float) (x rho : List Float) → state_within n t x rho ≡ true → temperature_within t ≡ true
unfolding state_within
temperature_right n t x rho p =
    let a = temperature_within t in
    let b = shares_within n (at x) in
    (and_parts a b (and_parts (a && b) (shares_within n (at rho)) p).0).0

-- ---- the call, taken apart
module _ (s : SaftVRQMiePars) (q : SlopedState) (wanted : Bool) (e : EnergiesIn (DualOf Float)) where
  abbrev t : DualOf Float
  t = q.temperature

  abbrev worked : SlopedList → Ans (EnergiesIn (DualOf Float))
  worked w = energies_slope_at port s q w wanted

  abbrev table : Ans SlopedList
  table = table_slopes port s.count s.sheets s.orders t

  abbrev within : Bool
  within = state_within s.count t.re q.fractions.values q.densities.values

  record Accepted : Type 0 where
    lists : sloped_lengths s.count q ≡ true
    limits : within ≡ true
    entries : SlopedList
    tabled : table ≡ held entries
    given : worked entries ≡ held e

  accepted : energies_slopes s q wanted ≡ held e → Accepted
  unfolding energies_slopes_by
  accepted p =
      let a = then_held (demand 1 (sloped_lengths s.count q)) (λ _. demand 2 within >>= λ _. demand 7 (supplied_finite s.count q) >>= λ _. table >>= worked) e p in
      let b = then_held (demand 2 within) (λ _. demand 7 (supplied_finite s.count q) >>= λ _. table >>= worked) e a.2 in
      let c = then_held (demand 7 (supplied_finite s.count q)) (λ _. table >>= worked) e b.2 in
      let d = then_held table worked e c.2 in
      record { lists = demanded 1 (sloped_lengths s.count q) a.0 a.1; limits = demanded 2 within b.0 b.1; entries = d.0; tabled = d.1; given = d.2 }

  pub energies_kept : (l : Lent) → length l.values ≡ 4 * sheet → length l.numbers ≡ 3 * sheet → energies_slopes s q wanted ≡ held e
      → (w : Lent) × (temperature_table s t.re l ≡ held w) × (energies s t.re q.fractions.values q.densities.values w.values wanted ≡ held (duals_values e))
  energies_kept l p r h =
      let a = accepted h in
      let b = right s.count q a.lists in
      let f = table_kept s t a.entries l (lists_right s.count (length l.values) (length l.numbers) b.within p r) (temperature_right s.count t.re q.fractions.values q.densities.values a.limits) a.tabled in
      let n = lengths_right s.count q.fractions.values q.densities.values a.entries.values b.within b.fractions.values b.densities.values (table_long s t a.entries a.tabled) in (
        record { values = a.entries.values; numbers = f.0 },
        f.1,
        energies_are_kept.energies_kept port s t q.fractions.values q.fractions.slopes q.densities.values q.densities.slopes a.entries.values a.entries.slopes wanted e a.given n a.limits,
      )
