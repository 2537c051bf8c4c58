-- A pair read where it lies is the pair of the place's set. Assumes nothing.
use Prim.Native.Nat.{ℕ, ◌+◌, ◌*◌, ◌<◌}
use native.Mathlib.Omega.{arith}
use mathlib.Core.Path.{◌≡◌, sym, ap, ◌∙◌}
use mathlib.Core.List.{List}
use lib.Ieee.{Float, nan}
use lib.ListN.{get_or, replicate, length-replicate}
use Rattle.number.specs.Arith.{zero64}
use Rattle.number.specs.Lists.{at}
use Rattle.sizes.specs.Sizes.{sheet}
use Rattle.saftvrqmie_parameters.specs.Parameters.{order_of, unused}
use Rattle.saftvrqmie_parameters.specs.declared.OrderRecord.{OrderRecord}
use Rattle.saftvrqmie_parameters.specs.declared.FeynmanHibbsOrder.{FeynmanHibbsOrder}
use Rattle.saftvrqmie_potential.specs.Potential.{pair_at_entry}
use Rattle.set_lists.specs.Sets.{copied, taken, orders_read, quantum_read}
use Rattle.desk_place.specs.Layout.{part, Lists, sheets_at, orders_at, set_of, temperature_of}
use Rattle.desk_place.proofs.Parts.{filled_at, part_at}

pub taken_at : (n i : ℕ) (d : List Float) → i < n → at (taken n d 0) i ≡ at d (0 + i)
unfolding copied
taken_at n i d h = filled_at (λ i. at d (0 + i)) n i (replicate n zero64) nan h (rw (length-replicate n zero64) h)

pub orders_at_entry : (l : List ℕ) (e : ℕ) → e < sheet → (get_or (orders_read l) e unused).order ≡ order_of (get_or l e 0)
unfolding orders_read
orders_at_entry l e h =
    ap (λ (r : OrderRecord). r.order) (filled_at (λ e. record { order = order_of (get_or l e 0) }) sheet e (replicate sheet unused) unused h (rw (length-replicate sheet unused) h))

module _ (p : Lists) where
  sheet_at : (i j : ℕ) → i < 6 * sheet → j ≡ sheets_at + i → at p.floats j ≡ at (set_of p).sheets i
  unfolding quantum_read
  sheet_at i j h e =
      let l = part sheets_at (6 * sheet) p.floats in
      let z : 0 + i ≡ i = omega arith in
      sym (taken_at (6 * sheet) i l h ∙ ap (at l) z ∙ part_at sheets_at (6 * sheet) i p.floats nan h ∙ ap (at p.floats) (sym e))

  order_at : (e : ℕ) → e < sheet → order_of (get_or p.bytes (4 + e) 0) ≡ (get_or (set_of p).orders e unused).order
  unfolding quantum_read
  order_at e h =
      let l = part orders_at sheet p.bytes in
      sym (orders_at_entry l e h ∙ ap order_of (part_at orders_at sheet e p.bytes 0 h))

  pub pair_is : (e : ℕ) (o : FeynmanHibbsOrder) → e < sheet → o ≡ order_of (get_or p.bytes (4 + e) 0)
      → record { sigma = at p.floats (37 + e); epsilon_k = at p.floats (181 + e); c = at p.floats (325 + e); lr = at p.floats (469 + e); la = at p.floats (613 + e); mass = at p.floats (757 + e); order = o; temperature = temperature_of p }
      ≡ pair_at_entry (set_of p).sheets (set_of p).orders (temperature_of p) e
  pair_is e o h q =
      rw (
        sheet_at e (37 + e) (omega arith) (omega arith),
        sheet_at (1 * sheet + e) (181 + e) (omega arith) (omega arith),
        sheet_at (2 * sheet + e) (325 + e) (omega arith) (omega arith),
        sheet_at (3 * sheet + e) (469 + e) (omega arith) (omega arith),
        sheet_at (4 * sheet + e) (613 + e) (omega arith) (omega arith),
        sheet_at (5 * sheet + e) (757 + e) (omega arith) (omega arith),
        q,
        order_at e h,
      )
