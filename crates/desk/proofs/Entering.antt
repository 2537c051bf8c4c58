-- A query that came in is held by its place, with every pair to work. Assumes nothing.
use Prim.Native.Nat.{ℕ, suc, ◌+◌, ◌-◌, ◌*◌, ◌≤◌, ◌<◌}
use native.Mathlib.Omega.{arith}
use native.Mathlib.Nat.{mul-suc}
use mathlib.Core.Path.{◌≡◌, refl, sym, ap, ◌∙◌}
use mathlib.Core.Bool.{Bool, true, false, not, cond}
use mathlib.Core.List.{List}
use lib.Dec.{eqb}
use lib.Ieee.{Float, nan}
use lib.ListN.{length, get_or, set, length-set, length-replicate}
use lib.Seq.{get_or-set_same, get_or-set_other}
use Rattle.number.specs.Arith.{zero64}
use Rattle.number.specs.Lists.{at}
use Rattle.sizes.specs.Sizes.{side, sheet}
use Rattle.mie_parameters.proofs.Laws.{count_low, count_high}
use Rattle.saftvrqmie.specs.Table.{blank}
use Rattle.desk_place.specs.Layout.{part, over, Lists, m_at, fractions_at, densities_at, sheets_at, table_at, place_floats, orders_at, place_bytes, count_in, row_in, column_in, wanted_in}
use Rattle.desk_place.specs.Place.{Query, floats_entered, bytes_entered, enter}
use Rattle.desk_place.proofs.Parts.{over_length, over_before}
use Rattle.desk_place.proofs.Steps.{four_length}
use Rattle.desk.proofs.Read.{laid_part, over_at_before}
use Rattle.desk.proofs.Shelf.{Whole}
use Rattle.desk.proofs.Pairs.{far_none}
use Rattle.desk.proofs.Held.{Passed, Holds, units_left, quantum_are, waits_by}

-- the floats: five lists laid one behind the other
module _ (l m sheets x rho : List Float) (t : Float) (long : length l ≡ place_floats) (lm : length m ≡ side) (ls : length sheets ≡ 6 * sheet) (n : ℕ) (lx : length x ≡ n) (lr : length rho ≡ n) (high : n ≤ side) where
  abbrev l0 : List Float
  l0 = set l 0 t

  abbrev l1 : List Float
  l1 = over m_at m l0

  abbrev l2 : List Float
  l2 = over fractions_at x l1

  abbrev l3 : List Float
  l3 = over densities_at rho l2

  abbrev l4 : List Float
  l4 = over sheets_at sheets l3

  abbrev l5 : List Float
  l5 = over table_at blank.values l4

  lb : length blank.values ≡ 4 * sheet
  lb = length-replicate (4 * sheet) zero64

  g0 : length l0 ≡ place_floats
  g0 = length-set l 0 t ∙ long

  f1 : m_at + length m ≤ length l0
  f1 = let g = g0 in omega (arith, g, lm)

  g1 : length l1 ≡ place_floats
  g1 = over_length m_at m l0 f1 ∙ g0

  f2 : fractions_at + length x ≤ length l1
  f2 = let g = g1 in omega (arith, g, lx, high)

  g2 : length l2 ≡ place_floats
  g2 = over_length fractions_at x l1 f2 ∙ g1

  f3 : densities_at + length rho ≤ length l2
  f3 = let g = g2 in omega (arith, g, lr, high)

  g3 : length l3 ≡ place_floats
  g3 = over_length densities_at rho l2 f3 ∙ g2

  f4 : sheets_at + length sheets ≤ length l3
  f4 = let g = g3 in omega (arith, g, ls)

  g4 : length l4 ≡ place_floats
  g4 = over_length sheets_at sheets l3 f4 ∙ g3

  f5 : table_at + length blank.values ≤ length l4
  f5 = let g = g4 in let k = lb in omega (arith, g, k)

  pub g5 : length l5 ≡ place_floats
  g5 = over_length table_at blank.values l4 f5 ∙ g4

  table_is : part table_at (4 * sheet) l5 ≡ blank.values
  table_is = laid_part table_at (4 * sheet) blank.values l4 lb (let g = g4 in omega (arith, g))

  sheets_are : part sheets_at (6 * sheet) l5 ≡ sheets
  sheets_are = over_before table_at blank.values l4 f5 sheets_at (6 * sheet) (omega arith) ∙ laid_part sheets_at (6 * sheet) sheets l3 ls (let g = g3 in omega (arith, g))

  to_3 : (a k : ℕ) → a + k ≤ sheets_at → part a k l5 ≡ part a k l3
  to_3 a k h = over_before table_at blank.values l4 f5 a k (omega (arith, h)) ∙ over_before sheets_at sheets l3 f4 a k h

  rho_is : part densities_at n l5 ≡ rho
  rho_is = to_3 densities_at n (omega (arith, high)) ∙ laid_part densities_at n rho l2 lr (let g = g2 in omega (arith, g, high))

  x_is : part fractions_at n l5 ≡ x
  x_is =
      to_3 fractions_at n (omega (arith, high)) ∙ over_before densities_at rho l2 f3 fractions_at n (omega (arith, high))
      ∙ laid_part fractions_at n x l1 lx (let g = g1 in omega (arith, g, high))

  m_is : part m_at side l5 ≡ m
  m_is =
      to_3 m_at side (omega arith) ∙ over_before densities_at rho l2 f3 m_at side (omega arith) ∙ over_before fractions_at x l1 f2 m_at side (omega arith)
      ∙ laid_part m_at side m l0 lm (let g = g0 in omega (arith, g))

  t_is : at l5 0 ≡ t
  t_is =
      over_at_before table_at blank.values l4 0 nan f5 (omega arith)
      ∙ over_at_before sheets_at sheets l3 0 nan f4 (omega arith)
      ∙ over_at_before densities_at rho l2 0 nan f3 (omega arith)
      ∙ over_at_before fractions_at x l1 0 nan f2 (omega arith)
      ∙ over_at_before m_at m l0 0 nan f1 (omega arith)
      ∙ get_or-set_same l 0 t nan (omega (arith, long))

-- the bytes
module _ (b o : List ℕ) (n : ℕ) (wanted : Bool) (long : length b ≡ place_bytes) (lo : length o ≡ sheet) where
  abbrev f : ℕ
  f = cond wanted 1 0

  abbrev s : List ℕ
  s = set (set (set (set b 0 n) 1 0) 2 0) 3 f

  abbrev e : List ℕ
  e = over orders_at o s

  ls : length s ≡ place_bytes
  ls = four_length b n f ∙ long

  fo : orders_at + length o ≤ length s
  fo = let g = ls in omega (arith, g, lo)

  pub le : length e ≡ place_bytes
  le = over_length orders_at o s fo ∙ ls

  orders_are : part orders_at sheet e ≡ o
  orders_are = laid_part orders_at sheet o s lo (let g = ls in omega (arith, g))

  front : (i : ℕ) → i < orders_at → get_or e i 0 ≡ get_or s i 0
  front i h = over_at_before orders_at o s i 0 fo h

  count_is : count_in e ≡ n
  count_is =
      front 0 (omega arith)
      ∙ get_or-set_other (set (set (set b 0 n) 1 0) 2 0) 3 0 f 0 (λ z. omega (arith, z))
      ∙ get_or-set_other (set (set b 0 n) 1 0) 2 0 0 0 (λ z. omega (arith, z))
      ∙ get_or-set_other (set b 0 n) 1 0 0 0 (λ z. omega (arith, z))
      ∙ get_or-set_same b 0 n 0 (omega (arith, long))

  row_is : row_in e ≡ 0
  row_is =
      front 1 (omega arith)
      ∙ get_or-set_other (set (set (set b 0 n) 1 0) 2 0) 3 1 f 0 (λ z. omega (arith, z))
      ∙ get_or-set_other (set (set b 0 n) 1 0) 2 1 0 0 (λ z. omega (arith, z))
      ∙ get_or-set_same (set b 0 n) 1 0 0 (let k = length-set b 0 n in omega (arith, k, long))

  column_is : column_in e ≡ 0
  column_is =
      front 2 (omega arith)
      ∙ get_or-set_other (set (set (set b 0 n) 1 0) 2 0) 3 2 f 0 (λ z. omega (arith, z))
      ∙ get_or-set_same (set (set b 0 n) 1 0) 2 0 0 (let k = length-set b 0 n in let k2 = length-set (set b 0 n) 1 0 in omega (arith, k, k2, long))

  flag_is : get_or e 3 0 ≡ f
  flag_is =
      front 3 (omega arith)
      ∙ get_or-set_same (set (set (set b 0 n) 1 0) 2 0) 3 f 0 (let k = length-set b 0 n in let k2 = length-set (set b 0 n) 1 0 in let k3 = length-set (set (set b 0 n) 1 0) 2 0 in omega (arith, k, k2, k3, long))

  wanted_is : wanted_in e ≡ wanted
  wanted_is = ap (λ (k : ℕ). not (eqb k 0)) flag_is ∙ by wanted
    where
      by : (t : Bool) → not (eqb (cond t 1 0) 0) ≡ t
      by true = refl
      by false = refl

all_left : (n : ℕ) → 1 ≤ n → n * n ≡ units_left n 0 0
all_left n h =
    let a : n ≡ suc (n - (0 + 1)) = omega arith in
    let c : n * n ≡ n * (n - (0 + 1)) + n = ap (λ (k : ℕ). n * k) a ∙ mul-suc n (n - (0 + 1)) in
    omega (arith, c)

module _ (q : Query) (p : Lists) (w : Whole p) (d : Passed q) where
  abbrev c : ℕ
  c = q.lists.count

  high : c ≤ side
  high = count_high c d.count

  abbrev L : Lists
  L = enter q p

  pub enter_whole : Whole L
  unfolding floats_entered bytes_entered
  enter_whole =
      record {
        floats = g5 p.floats q.lists.m q.lists.sheets q.fractions q.densities q.temperature w.floats d.parts.places d.parts.flat c d.fractions d.densities high;
        bytes = le p.bytes q.lists.orders c q.wanted w.bytes d.parts.records;
      }

  pub enter_holds : Holds q L (c * c)
  unfolding floats_entered bytes_entered
  enter_holds =
      let k = count_is p.bytes q.lists.orders c q.wanted w.bytes d.parts.records in
      let r = row_is p.bytes q.lists.orders c q.wanted w.bytes d.parts.records in
      let z = column_is p.bytes q.lists.orders c q.wanted w.bytes d.parts.records in
      let low = count_low c d.count in
      record {
        passed = d;
        waits = waits_by _ c 0 0 k r z d.count low low;
        lists =
            quantum_are _ _ _ _ _ _ _ _ k
            (m_is p.floats q.lists.m q.lists.sheets q.fractions q.densities q.temperature w.floats d.parts.places d.parts.flat c d.fractions d.densities high)
            (sheets_are p.floats q.lists.m q.lists.sheets q.fractions q.densities q.temperature w.floats d.parts.places d.parts.flat c d.fractions d.densities high)
            (orders_are p.bytes q.lists.orders c q.wanted w.bytes d.parts.records);
        temperature = t_is p.floats q.lists.m q.lists.sheets q.fractions q.densities q.temperature w.floats d.parts.places d.parts.flat c d.fractions d.densities high;
        fractions =
            ap (λ (n : ℕ). part fractions_at n L.floats) k
            ∙ x_is p.floats q.lists.m q.lists.sheets q.fractions q.densities q.temperature w.floats d.parts.places d.parts.flat c d.fractions d.densities high;
        densities =
            ap (λ (n : ℕ). part densities_at n L.floats) k
            ∙ rho_is p.floats q.lists.m q.lists.sheets q.fractions q.densities q.temperature w.floats d.parts.places d.parts.flat c d.fractions d.densities high;
        wanted = wanted_is p.bytes q.lists.orders c q.wanted w.bytes d.parts.records;
        table = blank;
        far = rw (r, z) (far_none c _ _ q.temperature);
        values = table_is p.floats q.lists.m q.lists.sheets q.fractions q.densities q.temperature w.floats d.parts.places d.parts.flat c d.fractions d.densities high;
        left = all_left c low ∙ sym (rw (k, r, z));
      }
