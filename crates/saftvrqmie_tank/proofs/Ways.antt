-- The tank, test by test and layer by layer, over plain values. Assumes nothing.
use Prim.Native.Nat.{ℕ, ◌+◌, ◌*◌, ◌-◌, ◌≤◌, ◌<◌}
use Rattle.std.proofs.lemmas.Bool.{and_parts}
use Rattle.std.specs.Prelude.{Err, Ok, Result}
use Rattle.number.specs.declared.refusal.Refusal.{Refusal}
use native.Mathlib.Nat.{mul-le-mul_left, mul-le-mul, mul-add}
use native.Mathlib.Omega.{arith}
use lib.Dec.{eqb, leb}
use lib.Ieee.{Float}
use lib.ListN.{length, take, drop, length-drop}
use lib.Seq.{length-take-le}
use mathlib.Core.List.{List}
use mathlib.Core.Path.{◌≡◌, refl, sym, ap, ◌∙◌}
use mathlib.Core.Bool.{Bool, true, false, ◌&&◌}
use borrow.Author.Tests.{eqb-true, leb-true}
use Rattle.number.specs.Answer.{code}
use Rattle.number.specs.Ans.{Ans, held, refused, ◌>>=◌, demand}
use Rattle.number.specs.Arith.{Arith}
use Rattle.number.specs.Functions.{calls}
use Rattle.elementary.specs.Port.{port}
use Rattle.number.specs.Lists.{at}
use Rattle.number.specs.Walk.{walk}
use Rattle.number.proofs.Walk.{walk_next, walk_stop}
use Rattle.sizes.specs.Sizes.{side}
use Rattle.limits.specs.Limits.{count_within}
use Rattle.mie_parameters.proofs.Laws.{count_high, held_at, refused_at}
use Rattle.mie_parameters.specs.Answer.{outcome, verdict, stored}
use Rattle.saftvrqmie_parameters.specs.declared.SaftVRQMiePars.{SaftVRQMiePars}
use Rattle.saftvrqmie.specs.Table.{Lent, blank, temperature_table, pairs_of}
use Rattle.saftvrqmie_energies.specs.Energies.{EnergiesIn, each_in, contributions_of, energies_finite, energies_by, energies}
use Rattle.saftvrqmie_tank.specs.Tank.{TankLists, Layer, most_layers, layer_at, layers_within, tank_lengths, layer_within, layer_piled, bottom, tank_sum, layer_from, table_of, layer_of, behind, layer_answer, layers_answer, tank_answer}

-- ---- lengths and places
pub product_small : (n k : ℕ) → n ≤ side → k ≤ most_layers → n * k ≤ side * most_layers
product_small n k p q = mul-le-mul p q

-- layer l lies within the lists
pub row_within : (n l k : ℕ) → l < k → n * l + n ≤ n * k
row_within n l k p =
    let h : n * (l + 1) ≤ n * k = mul-le-mul_left n (omega arith) in
    let g : n * (l + 1) ≡ n * l + n * 1 = mul-add n l 1 in
    omega arith

-- what the tests for 1 say
pub record Long (n : ℕ) (q : TankLists) : Type 0 where
  pub high : n ≤ side
  pub temperatures : length q.temperatures ≡ q.layers
  pub fractions : length q.fractions ≡ n * q.layers
  pub densities : length q.densities ≡ n * q.layers
  pub volumes : length q.volumes ≡ q.layers

pub long : (n : ℕ) (q : TankLists) → tank_lengths n q ≡ true → Long n q
unfolding tank_lengths
long n q p =
    let a = count_within n in
    let b = eqb (length q.temperatures) q.layers in
    let c = eqb (length q.fractions) (n * q.layers) in
    let d = eqb (length q.densities) (n * q.layers) in
    let e = eqb (length q.volumes) q.layers in
    let abcd = (and_parts (a && b && c && d) e p).0 in
    let abc = (and_parts (a && b && c) d abcd).0 in
    let ab = (and_parts (a && b) c abc).0 in
    record {
      high = count_high n (and_parts a b ab).0;
      temperatures = eqb-true (length q.temperatures) q.layers (and_parts a b ab).1;
      fractions = eqb-true (length q.fractions) (n * q.layers) (and_parts (a && b) c abc).1;
      densities = eqb-true (length q.densities) (n * q.layers) (and_parts (a && b && c) d abcd).1;
      volumes = eqb-true (length q.volumes) q.layers (and_parts (a && b && c && d) e p).1;
    }

pub layers_high : (k : ℕ) → layers_within k ≡ true → k ≤ most_layers
unfolding layers_within
layers_high k p = leb-true k most_layers (and_parts (leb 1 k) (leb k most_layers) p).1

pub row_small : (n l k : ℕ) → n ≤ side → k ≤ most_layers → l < k → n * l + n ≤ side * most_layers
row_small n l k p q b = omega (arith, product_small n k p q, row_within n l k b)

-- the part of a list that is lent for layer l
pub part_is : (n l : ℕ) (d : List Float) → take (n * l + n - n * l) (drop (n * l) d) ≡ take n (drop (n * l) d)
part_is n l d = let h : n * l + n - n * l ≡ n = omega arith in rw h

pub share_length : (n l k : ℕ) (d : List Float) → length d ≡ n * k → l < k → length (take n (drop (n * l) d)) ≡ n
share_length n l k d p b =
    let h : n ≤ length (drop (n * l) d) = rw length-drop (omega (arith, p, row_within n l k b)) in
    length-take-le n (drop (n * l) d) h

-- what an operation's answer, and what it was lent, say of it
was : {S : Type 0} (a : Ans S) (l : S) → verdict a ≡ held true → a ≡ held (stored l a)
unfolding verdict stored
was (held x) l e = refl
was (refused n) l e = absurd (apart e)
  where
    apart : refused n ≡ held true → ⊥
    apart p = let z : ◌≡◌ {A = ℕ} 0 1 = cc in omega arith

pub verdict_held : {S : Type 0} (a : Ans S) (l : S) (r : Result (Unit {0}) Refusal) → outcome r true ≡ verdict a → r ≡ Ok tt → a ≡ held (stored l a)
verdict_held a l r p e = was a l (held_at r true (verdict a) p e)

was_not : {S : Type 0} (a : Ans S) (n : ℕ) → verdict a ≡ refused n → a ≡ refused n
unfolding verdict
was_not (held x) n e = absurd (apart e)
  where
    apart : held true ≡ refused n → ⊥
    apart p = let z : ◌≡◌ {A = ℕ} 0 1 = cc in omega arith
was_not (refused k) n e = cc

pub verdict_refused : {S : Type 0} (a : Ans S) (r : Result (Unit {0}) Refusal) (k : Refusal) → outcome r true ≡ verdict a → r ≡ Err k → a ≡ refused (code k)
verdict_refused a r k p e = was_not a (code k) (refused_at r true (verdict a) k p e)

-- ---- a layer
module _ (A : Arith) (s : SaftVRQMiePars) (y : Layer) (wanted : Bool) where
  pub layer_2 : layer_within s.count y ≡ false → refused 2 ≡ layer_answer A s y wanted
  unfolding layer_answer layer_from demand ◌>>=◌
  layer_2 p = rw p

  module _ (p : layer_within s.count y ≡ true) where
    abbrev worked : Ans Lent
    worked = temperature_table (pairs_of s.count s.sheets s.orders) y.temperature blank

    table_reads_no_m : temperature_table s y.temperature blank ≡ worked
    unfolding temperature_table
    table_reads_no_m = refl

    pub layer_table : (a : Ans (EnergiesIn A.Num)) (k : ℕ) → worked ≡ refused k → a ≡ refused k → a ≡ layer_answer A s y wanted
    unfolding layer_answer layer_from table_of demand ◌>>=◌
    layer_table a k q r = rw (p, table_reads_no_m, q, r)

    pub layer_energies : (a : Ans (EnergiesIn A.Num)) (w : Lent) (table : List Float) (given : SaftVRQMiePars) → worked ≡ held w → table ≡ w.values → given ≡ s → a ≡ behind (energies given y.temperature y.fractions y.densities table wanted) (contributions_of A (calls A port) given y.temperature y.fractions y.densities table wanted) → a ≡ layer_answer A s y wanted
    unfolding layer_answer layer_from table_of energies_by demand ◌>>=◌
    layer_energies a w table given q e is r = rw (p, table_reads_no_m, q, ← e) (rw is at r)

-- what layer l answers
abbrev pub answers_of : SaftVRQMiePars → TankLists → Bool → ℕ → Ans (EnergiesIn Float)
answers_of s q wanted l = layer_of s (layer_at s.count q l) wanted

abbrev pub answers_in : (A : Arith) → SaftVRQMiePars → TankLists → Bool → ℕ → Ans (EnergiesIn A.Num)
answers_in A s q wanted l = layer_answer A s (layer_at s.count q l) wanted

abbrev part : ℕ → ℕ → List Float → List Float
part n l d = take (n * l + n - n * l) (drop (n * l) d)

abbrev lent_layer : ℕ → TankLists → ℕ → Layer
lent_layer n q l = record { temperature = at q.temperatures l; fractions = part n l q.fractions; densities = part n l q.densities; volume = at q.volumes l }

pub layer_is : (n : ℕ) (q : TankLists) (l : ℕ) → lent_layer n q l ≡ layer_at n q l
unfolding layer_at
layer_is n q l = rw (part_is n l q.fractions, part_is n l q.densities)

-- a layer that is layer l
module _ (n : ℕ) (q : TankLists) (l : ℕ) (y : Layer) (is : y ≡ layer_at n q l) where
  pub layer_lengths : tank_lengths n q ≡ true → l < q.layers → (length y.fractions ≡ n) × (length y.densities ≡ n)
  unfolding layer_at
  layer_lengths p b = let h = long n q p in rw is (share_length n l q.layers q.fractions h.fractions b, share_length n l q.layers q.densities h.densities b)

  pub layer_volume : y.volume ≡ at q.volumes l
  unfolding layer_at
  layer_volume = ap (λ (y : Layer). y.volume) is

  pub layer_temperature : y.temperature ≡ at q.temperatures l
  unfolding layer_at
  layer_temperature = ap (λ (y : Layer). y.temperature) is

pub answer_at : (A : Arith) (s : SaftVRQMiePars) (q : TankLists) (wanted : Bool) (l : ℕ) (y : Layer) (a : Ans (EnergiesIn A.Num)) → y ≡ layer_at s.count q l → a ≡ layer_answer A s y wanted → a ≡ answers_in A s q wanted l
answer_at A s q wanted l y a is h = h ∙ ap (λ (y : Layer). layer_answer A s y wanted) is

-- ---- the layers, in any run
module _ (A : Arith) (q : TankLists) (wanted : Bool) (answers : ℕ → Ans (EnergiesIn A.Num)) where
  unfoldable pub turn : ℕ → EnergiesIn A.Num → Ans (EnergiesIn A.Num)
  turn l below = answers l >>= λ e. held (layer_piled A wanted (at q.volumes l) (at q.temperatures l) e below)

  pub pile_next : (l : ℕ) (below e next : EnergiesIn A.Num) (v t : Float) → v ≡ at q.volumes l → t ≡ at q.temperatures l → held below ≡ walk l turn (bottom A) → answers l ≡ held e → next ≡ layer_piled A wanted v t e below → held next ≡ walk (l + 1) turn (bottom A)
  unfolding turn ◌>>=◌
  pile_next l below e next v t is-v is-t h g p = walk_next turn (bottom A) l below next h (rw (g, p, is-v, is-t))

  pub pile_stop : (l : ℕ) (below : EnergiesIn A.Num) → l < q.layers → held below ≡ walk l turn (bottom A) → (a : Ans (EnergiesIn A.Num)) (k : ℕ) → a ≡ answers l → a ≡ refused k → a ≡ tank_sum A q wanted answers
  unfolding tank_sum turn ◌>>=◌
  pile_stop l below b h a k g e =
      let r : answers l ≡ refused k = sym g ∙ e in
      e ∙ walk_stop turn (bottom A) q.layers l k below b h (rw r)

  pub pile_end : (l : ℕ) (below : EnergiesIn A.Num) → l ≤ q.layers → q.layers ≤ l → held below ≡ walk l turn (bottom A) → held below ≡ tank_sum A q wanted answers
  unfolding tank_sum turn
  pile_end l below a b h = let d : l ≡ q.layers = omega arith in rw d at h

-- ---- the operation, in any run
module _ (A : Arith) (s : SaftVRQMiePars) (q : TankLists) (wanted : Bool) where
  pub tank_14 : layers_within q.layers ≡ false → refused 14 ≡ tank_answer A s q wanted
  unfolding tank_answer demand ◌>>=◌
  tank_14 p = rw p

  module _ (p : layers_within q.layers ≡ true) where
    pub tank_1 : tank_lengths s.count q ≡ false → refused 1 ≡ tank_answer A s q wanted
    unfolding tank_answer demand ◌>>=◌
    tank_1 r = rw (p, r)

    module _ (r : tank_lengths s.count q ≡ true) where
      pub tank_layer : (a : Ans (EnergiesIn A.Num)) (k : ℕ) → layers_answer A s q wanted ≡ refused k → a ≡ refused k → a ≡ tank_answer A s q wanted
      unfolding tank_answer demand ◌>>=◌
      tank_layer a k h e = rw (p, r, h, e)

      module _ (e : EnergiesIn A.Num) (h : layers_answer A s q wanted ≡ held e) where
        pub tank_7 : energies_finite (each_in A.val e) ≡ false → refused 7 ≡ tank_answer A s q wanted
        unfolding tank_answer demand ◌>>=◌
        tank_7 f = rw (p, r, h, f)

        pub tank_held : energies_finite (each_in A.val e) ≡ true → held e ≡ tank_answer A s q wanted
        unfolding tank_answer demand ◌>>=◌
        tank_held f = rw (p, r, h, f)
