-- The tank's sum keeps what holds between the layers' energies of two runs, and what a tested tank holds, the sum without tests holds. Assumes nothing.
use Prim.Native.Nat.{ℕ, zero, suc}
use lib.Ieee.{Float}
use mathlib.Core.List.{List}
use mathlib.Core.Path.{◌≡◌, refl, subst}
use mathlib.Core.Bool.{Bool}
use Rattle.number.specs.Ans.{Ans, held, refused, ◌>>=◌, demand}
use Rattle.number.specs.Arith.{Arith, floats}
use Rattle.number.specs.Functions.{Answers, calls}
use Rattle.number.specs.Lists.{at}
use Rattle.number.specs.Walk.{walk}
use Rattle.number.proofs.Rel.{Rel, Both, both_held, both_refused, then_both, walk_rel, cond_rel, calls_rel}
use Rattle.number.proofs.Walk.{then_held, held_inj}
use Rattle.elementary.specs.Port.{port}
use Rattle.limits.specs.Limits.{state_within}
use Rattle.saftvrqmie_parameters.specs.declared.SaftVRQMiePars.{SaftVRQMiePars}
use Rattle.saftvrqmie_energies.specs.Energies.{EnergiesIn, state_lengths, energies_finite, contributions_of, energies_from, energies_by, energies}
use Rattle.saftvrqmie_energies.proofs.Relation.{EnergiesR, contributions_of_rel}
use Rattle.saftvrqmie_tank.specs.Tank.{TankLists, Layer, layer_at, layers_within, tank_lengths, layer_within, piled, layer_piled, tank_sum, tank_run, layer_from, layers_from, tank_from, runs_by, layer_run, table_of, layer_of, layers_of, behind, layer_answer, layers_answer, tank_answer, tank}

-- ---- one answer beside itself
pub same : {S : Type 0} (a : Ans S) → Both (λ (x y : S). x ≡ y) a a
same (held x) = both_held refl
same (refused n) = both_refused

-- ---- two runs
module _ (A B : Arith) (K : Rel A B) where
  open K use {R, r_add, r_mul, r_lit}

  piled_rel : (v t : Float) {e below : A.Num} {e' below' : B.Num} → R e e' → R below below' → R (piled A v t e below) (piled B v t e' below')
  unfolding piled
  piled_rel v t p q = r_add q (r_mul (r_mul p (r_lit v)) (r_lit t))

  layer_rel : (wanted : Bool) (v t : Float) {e below : EnergiesIn A.Num} {e' below' : EnergiesIn B.Num} → EnergiesR R e e' → EnergiesR R below below' → EnergiesR R (layer_piled A wanted v t e below) (layer_piled B wanted v t e' below')
  unfolding layer_piled
  layer_rel wanted v t p q =
      record {
        hard_sphere = piled_rel v t p.hard_sphere q.hard_sphere;
        dispersion = piled_rel v t p.dispersion q.dispersion;
        non_additive = cond_rel R wanted wanted refl (piled_rel v t p.non_additive q.non_additive) (r_lit _);
      }

  pub sum_rel : (q : TankLists) (wanted : Bool) (f : ℕ → Ans (EnergiesIn A.Num)) (g : ℕ → Ans (EnergiesIn B.Num)) → ((l : ℕ) → Both (EnergiesR R) (f l) (g l)) → Both (EnergiesR R) (tank_sum A q wanted f) (tank_sum B q wanted g)
  unfolding tank_sum
  sum_rel q wanted f g h =
      walk_rel (EnergiesR R) q.layers _ _ (λ l x y p. then_both (h l) (λ _ _ e. both_held (layer_rel wanted (at q.volumes l) (at q.temperatures l) e p)))
      (record { hard_sphere = r_lit _; dispersion = r_lit _; non_additive = r_lit _ })

  pub tank_rel : (q : TankLists) (tables : ℕ → Ans (List Float)) (wanted : Bool) (f : ℕ → List Float → Ans (EnergiesIn A.Num)) (g : ℕ → List Float → Ans (EnergiesIn B.Num))
      → ((l : ℕ) (table : List Float) → Both (EnergiesR R) (f l table) (g l table)) → Both (EnergiesR R) (tank_run A q tables wanted f) (tank_run B q tables wanted g)
  tank_rel q tables wanted f g h = sum_rel q wanted _ _ (λ l. then_both (same (tables l)) (λ x y e. subst (λ (z : List Float). Both (EnergiesR R) (f l x) (g l z)) e (h l x)))

  -- of runs with the same answers
  pub runs_rel : (E : Answers) (s : SaftVRQMiePars) (q : TankLists) (tables : ℕ → Ans (List Float)) (wanted : Bool) → Both (EnergiesR R) (tank_run A q tables wanted (runs_by A E s q wanted)) (tank_run B q tables wanted (runs_by B E s q wanted))
  runs_rel E s q tables wanted = tank_rel q tables wanted _ _ (λ l table.
      let y = layer_at s.count q l in
      contributions_of_rel A B K (calls A E) (calls B E) (calls_rel A B K E) s y.temperature y.fractions y.densities table wanted)

-- ---- a sum of tested layers
walk_passes : {S : Type 0} (n : ℕ) (f g : ℕ → S → Ans S) (s v : S) → ((l : ℕ) (x y : S) → f l x ≡ held y → g l x ≡ held y) → walk n f s ≡ held v → walk n g s ≡ held v
unfolding walk ◌>>=◌
walk_passes zero f g s v k h = h
walk_passes (suc n) f g s v k h =
    let a = then_held (walk n f s) (f n) v h in
    rw (walk_passes n f g s a.0 k a.1) (k n a.0 v a.2)

pub sum_passes : (A : Arith) (q : TankLists) (wanted : Bool) (f g : ℕ → Ans (EnergiesIn A.Num)) (v : EnergiesIn A.Num) → ((l : ℕ) (e : EnergiesIn A.Num) → f l ≡ held e → g l ≡ held e) → tank_sum A q wanted f ≡ held v → tank_sum A q wanted g ≡ held v
unfolding tank_sum ◌>>=◌
sum_passes A q wanted f g v k h =
    walk_passes q.layers _ _ _ v (λ l x y p.
    let a = then_held (f l) (λ e. held (layer_piled A wanted (at q.volumes l) (at q.temperatures l) e x)) y p in
    rw (k l a.0 a.1) a.2) h

module _ (s : SaftVRQMiePars) where
  pub energies_passes : (t : Float) (x rho table : List Float) (run : Ans (EnergiesIn Float)) (v : EnergiesIn Float) → energies_from s t x rho table run ≡ held v → run ≡ held v
  energies_passes t x rho table run v h =
      let a = then_held (demand 1 (state_lengths s.count x rho table)) _ v h in
      let b = then_held (demand 2 (state_within s.count t x rho)) _ v a.2 in
      let c = then_held run _ v b.2 in
      let d = then_held (demand 7 (energies_finite c.0)) _ v c.2 in
      subst (λ (u : EnergiesIn Float). run ≡ held u) (held_inj _ v d.2) c.1

  pub layer_passes : (y : Layer) (tabled : Ans (List Float)) (run : List Float → Ans (EnergiesIn Float)) (v : EnergiesIn Float) → layer_from s y tabled run ≡ held v → (tabled >>= run) ≡ held v
  unfolding layer_from ◌>>=◌
  layer_passes y tabled run v h =
      let a = then_held (demand 2 (layer_within s.count y)) _ v h in
      let b = then_held tabled _ v a.2 in
      rw b.1 (energies_passes y.temperature y.fractions y.densities b.0 (run b.0) v b.2)

  module _ (q : TankLists) (tables : ℕ → Ans (List Float)) (wanted : Bool) (run : ℕ → List Float → Ans (EnergiesIn Float)) (v : EnergiesIn Float) where
    pub tank_passes : tank_from s q tables wanted run ≡ held v → tank_run floats q tables wanted run ≡ held v
    unfolding tank_from
    tank_passes h =
        let a = then_held (demand 14 (layers_within q.layers)) _ v h in
        let b = then_held (demand 1 (tank_lengths s.count q)) _ v a.2 in
        let c = then_held (layers_from s q tables wanted run) _ v b.2 in
        let d = then_held (demand 7 (energies_finite c.0)) _ v c.2 in
        let e = subst (λ (u : EnergiesIn Float). layers_from s q tables wanted run ≡ held u) (held_inj _ v d.2) c.1 in
        sum_passes floats q wanted _ _ v (λ l w p. layer_passes (layer_at s.count q l) (tables l) (run l) w p) e

-- ---- the float run behind the float operation is that operation
behind_itself : {S : Type 0} (a run : Ans S) → ((v : S) → a ≡ held v → run ≡ held v) → (a >>= λ _. run) ≡ a
unfolding ◌>>=◌
behind_itself (held v) run h = h v refl
behind_itself (refused n) run h = refl

pub float_run : (s : SaftVRQMiePars) (t : Float) (x rho table : List Float) (wanted : Bool) → behind (energies s t x rho table wanted) (contributions_of floats (calls floats port) s t x rho table wanted) ≡ energies s t x rho table wanted
unfolding energies_by
float_run s t x rho table wanted = behind_itself _ _ (energies_passes s t x rho table (contributions_of floats (calls floats port) s t x rho table wanted))

layer_same : (s : SaftVRQMiePars) (y : Layer) (wanted : Bool) → layer_answer floats s y wanted ≡ layer_of s y wanted
unfolding layer_answer
layer_same s y wanted = behind_itself _ _ (layer_passes s y (table_of s y) (layer_run floats (calls floats port) s y wanted))

then_same : {S T : Type 0} (a : Ans S) (f g : S → Ans T) → ((v : S) → f v ≡ g v) → (a >>= f) ≡ (a >>= g)
unfolding ◌>>=◌
then_same (held v) f g h = h v
then_same (refused n) f g h = refl

walk_same : {S : Type 0} (n : ℕ) (f g : ℕ → S → Ans S) (s : S) → ((l : ℕ) (x : S) → f l x ≡ g l x) → walk n f s ≡ walk n g s
unfolding walk
walk_same zero f g s h = refl
walk_same (suc n) f g s h = rw (walk_same n f g s h) (then_same (walk n g s) (f n) (g n) (h n))

pub layers_same : (s : SaftVRQMiePars) (q : TankLists) (wanted : Bool) → layers_answer floats s q wanted ≡ layers_of s q wanted
unfolding tank_sum
layers_same s q wanted = walk_same q.layers _ _ _ (λ l x. rw (layer_same s (layer_at s.count q l) wanted) refl)

pub tank_same : (s : SaftVRQMiePars) (q : TankLists) (wanted : Bool) → tank_answer floats s q wanted ≡ tank s q wanted
unfolding tank_answer tank_from
tank_same s q wanted = rw (layers_same s q wanted) refl
