-- A desk begun empty, a desk with no query waiting, and a place that is finished. Assumes nothing.
use Prim.Native.Nat.{ℕ, ◌+◌, ◌*◌, ◌<◌}
use native.Mathlib.Omega.{arith}
use mathlib.Core.Path.{◌≡◌, refl, sym, ap, ◌∙◌}
use mathlib.Core.Bool.{Bool, true, false, cond}
use mathlib.Core.List.{List}
use lib.Dec.{eqb}
use lib.Ieee.{Float}
use lib.ListN.{length, get_or, set, replicate, get_or-replicate, length-replicate}
use lib.Seq.{get_or-set_same}
use Rattle.number.specs.Ans.{Ans, held, refused, demand}
use Rattle.number.proofs.Walk.{then_held, held_inj}
use Rattle.limits.specs.Limits.{count_within, index_within}
use Rattle.saftvrqmie.specs.Table.{Lent}
use Rattle.saftvrqmie_energies.specs.Energies.{EnergiesIn}
use Rattle.round_robin.specs.Desk.{places, Step, going, done, idle, next, leaves, serve}
use Rattle.desk_place.specs.Layout.{part, Lists, place_bytes, count_in, waits_in}
use Rattle.desk_place.specs.Place.{last_pair, moved, answer_of, settled, paired, unit}
use Rattle.desk_place.proofs.Parts.{part_at}
use Rattle.desk_place.proofs.Steps.{turn}
use Rattle.desk.specs.Desk.{last_at, right_desk, occupied_in, shelf, quantum, begun}
use Rattle.desk.proofs.Read.{set_behind}
use Rattle.desk.proofs.Shelf.{Whole}

-- bytes without a count are a free place
pub no_count : (b : List ℕ) → count_in b ≡ 0 → waits_in b ≡ false
unfolding waits_in index_within count_within
no_count b e = rw e

-- ---- 'a desk begun empty'

empty : List ℕ
empty = set (replicate (last_at + 1) 0) last_at 15

empty_at : (k : ℕ) → k < places → occupied_in empty k ≡ false
unfolding empty
empty_at k h =
    let z : ℕ = 0 in
    no_count (part (place_bytes * k) place_bytes (set (replicate (last_at + 1) z) last_at 15))
    (ap (λ (b : List ℕ). get_or b 0 0) (set_behind (place_bytes * k) place_bytes last_at 15 (replicate (last_at + 1) z) (omega (arith, h)))
    ∙ part_at (place_bytes * k) place_bytes 0 (replicate (last_at + 1) z) 0 (omega arith)
    ∙ get_or-replicate (last_at + 1) (place_bytes * k + 0) z 0 (omega (arith, h)))

-- every place is free, and the search for the next begins above 15: 'after 15 again from 0, where a new desk begins'
pub begun_empty : (l e : Lists) → begun l ≡ held e → (k : ℕ) → k < places → occupied_in e.bytes k ≡ false
unfolding begun empty
begun_empty l e h k s =
    let f = then_held (demand 1 (right_desk (length l.floats) (length l.bytes))) _ e h in
    ap (λ (x : Lists). occupied_in x.bytes k) (sym (held_inj _ e f.2)) ∙ empty_at k s

pub begun_last : (l e : Lists) → begun l ≡ held e → get_or e.bytes last_at 0 ≡ 15
unfolding begun
begun_last l e h =
    let z : ℕ = 0 in
    let f = then_held (demand 1 (right_desk (length l.floats) (length l.bytes))) _ e h in
    let k : length (replicate (last_at + 1) z) ≡ last_at + 1 = length-replicate (last_at + 1) z in
    ap (λ (x : Lists). get_or x.bytes last_at 0) (sym (held_inj _ e f.2)) ∙ get_or-set_same (replicate (last_at + 1) z) last_at 15 0 (omega (arith, k))

-- ---- 'With no query waiting a call says so and changes nothing'

never_idle : (l : Lists) (k : ℕ) (s : Step Lists (Ans (EnergiesIn Float))) → (leaves shelf quantum l k s).told ≡ idle → ⊥
unfolding leaves
never_idle l k (going p) e = let z : ◌≡◌ {A = ℕ} 0 1 = cc in omega arith
never_idle l k (done p a) e = let z : ◌≡◌ {A = ℕ} 0 1 = cc in omega arith

pub idle_changes_nothing : (l : Lists) → (serve shelf quantum l).told ≡ idle → (serve shelf quantum l).desk ≡ l
unfolding serve
idle_changes_nothing l e = by (eqb (next shelf quantum l) places) e
  where
    by : (t : Bool) → (cond t (record { desk = l; told = idle }) (leaves shelf quantum l (next shelf quantum l) (unit (shelf.place l (next shelf quantum l))))).told ≡ idle
        → (cond t (record { desk = l; told = idle }) (leaves shelf quantum l (next shelf quantum l) (unit (shelf.place l (next shelf quantum l))))).desk ≡ l
    by true e = refl
    by false e = absurd (never_idle l _ _ e)

-- ---- 'frees the place'

freed_free : (b : List ℕ) → length b ≡ place_bytes → waits_in (set b 0 0) ≡ false
freed_free b h = no_count (set b 0 0) (get_or-set_same b 0 0 0 (omega (arith, h)))

-- what a finished query leaves is a free place
pub data Freed : Step Lists (Ans (EnergiesIn Float)) → Type 0 where
  on : {p : Lists} → Freed (going p)
  free : {p : Lists} {a : Ans (EnergiesIn Float)} → waits_in p.bytes ≡ false → Freed (done p a)

settled_frees : (p : Lists) → length p.bytes ≡ place_bytes → Freed (settled p)
unfolding settled
settled_frees p h = by (last_pair p.bytes)
  where
    by : (t : Bool) → Freed (cond t (done (record { floats = p.floats; bytes = set p.bytes 0 0 }) (answer_of p)) (going (record { floats = p.floats; bytes = moved p.bytes })))
    by true = free (freed_free p.bytes h)
    by false = on

paired_frees : (p : Lists) → length p.bytes ≡ place_bytes → (a : Ans Lent) → Freed (paired p a)
unfolding paired
paired_frees p h (held w) = settled_frees _ h
paired_frees p h (refused n) = free (freed_free p.bytes h)

pub unit_frees : (p : Lists) → Whole p → Freed (unit p)
unfolding unit
unit_frees p w = paired_frees p w.bytes (turn p)
