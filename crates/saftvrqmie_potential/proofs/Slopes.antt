-- At a radius with a slope each part of the potential has one, whatever the elementary functions answer. Assumes nothing.
use Prim.Native.Nat.{ℕ}
use lib.Ieee.{Float}
use mathlib.Core.Path.{◌≡◌, refl}
use mathlib.Core.Bool.{Bool, true, false, cond}
use Rattle.number.specs.Ans.{Ans, held, refused, ◌>>=◌}
use Rattle.number.specs.Functions.{Answers, Functions}
use Rattle.dual.specs.Dual.{DualOf}
use Rattle.slopes.specs.Mixed.{Mixed, plain, sloped, mixed}
use Rattle.slopes.specs.Rules.{real_power, mixed_functions}
use Rattle.saftvrqmie_potential.specs.Potential.{PotentialIn, FloatPair, q1, q2, quantum_d, prefactor, scaled, after_shared, line, mie, add_first, add_second, potential, first_order, second_order}
use Rattle.saftvrqmie_potential.specs.Slopes.{mixed_pair, as_duals, potential_slope}

abbrev D : Type 0
D = DualOf Float

abbrev pub sloped_parts : PotentialIn D → PotentialIn Mixed
sloped_parts v = record { u = sloped v.u; u_r = sloped v.u_r; u_rr = sloped v.u_rr }

-- an answer with a slope, or a refusal
data OneSloped : Ans Mixed → Type 0 where
  one_held : (x : D) → OneSloped (held (sloped x))
  one_refused : (n : ℕ) → OneSloped (refused n)

data AllSloped : Ans (PotentialIn Mixed) → Type 0 where
  all_held : (v : PotentialIn D) → AllSloped (held (sloped_parts v))
  all_refused : (n : ℕ) → AllSloped (refused n)

-- a line from its four powers
line_from : (f : Mixed → Mixed → Mixed → Mixed → Mixed) (g : D → Float → D → Float → D) → ((x : D) (y : Float) (z : D) (w : Float) → f (sloped x) (plain y) (sloped z) (plain w) ≡ sloped (g x y z w)) → (a : Ans D) (b : Ans Float) (c : Ans D) (d : Ans Float)
    → OneSloped ((a >>= λ v. held (sloped v)) >>= λ rr. (b >>= λ v. held (plain v)) >>= λ sr. (c >>= λ v. held (sloped v)) >>= λ ra. (d >>= λ v. held (plain v)) >>= λ sa. held (f rr sr ra sa))
unfolding ◌>>=◌
line_from f g h (held x) (held y) (held z) (held w) = rw (h x y z w) (one_held (g x y z w))
line_from f g h (refused n) b c d = one_refused n
line_from f g h (held x) (refused n) c d = one_refused n
line_from f g h (held x) (held y) (refused n) d = one_refused n
line_from f g h (held x) (held y) (held z) (refused n) = one_refused n

lines_from : (g : Mixed → Mixed → Mixed → PotentialIn Mixed) (h : D → D → D → PotentialIn D) → ((x y z : D) → g (sloped x) (sloped y) (sloped z) ≡ sloped_parts (h x y z)) → {a b c : Ans Mixed} → OneSloped a → OneSloped b → OneSloped c
    → AllSloped (a >>= λ x. b >>= λ y. c >>= λ z. held (g x y z))
unfolding ◌>>=◌
lines_from g h e (one_held x) (one_held y) (one_held z) = rw (e x y z) (all_held (h x y z))
lines_from g h e (one_refused n) b c = all_refused n
lines_from g h e (one_held x) (one_refused n) c = all_refused n
lines_from g h e (one_held x) (one_held y) (one_refused n) = all_refused n

then_all : {a : Ans (PotentialIn Mixed)} (g : PotentialIn Mixed → Ans (PotentialIn Mixed)) → AllSloped a → ((v : PotentialIn D) → AllSloped (g (sloped_parts v))) → AllSloped (a >>= g)
unfolding ◌>>=◌
then_all g (all_held v) h = h v
then_all g (all_refused n) h = all_refused n

choice : (b : Bool) {x y : Ans (PotentialIn Mixed)} → AllSloped x → AllSloped y → AllSloped (cond b x y)
choice true p q = p
choice false p q = q

all_is : {a : Ans (PotentialIn Mixed)} → AllSloped a → a ≡ (a >>= (λ v. held (as_duals v)) >>= λ v. held (sloped_parts v))
unfolding ◌>>=◌
all_is (all_held v) = refl
all_is (all_refused n) = refl

module _ (E : Answers) (p : FloatPair) (t r : D) where
  abbrev F : Functions Mixed
  F = mixed_functions E

  line_sloped : (er ea : Float) (f : Mixed → Mixed → Mixed → Mixed → Mixed) (g : D → Float → D → Float → D) → ((x : D) (y : Float) (z : D) (w : Float) → f (sloped x) (plain y) (sloped z) (plain w) ≡ sloped (g x y z w))
      → OneSloped (line mixed F (mixed_pair p t) (sloped r) (plain er) (plain ea) f)
  unfolding line
  line_sloped er ea f g h = line_from f g h (real_power E r er) (E.powf p.sigma p.lr) (real_power E r ea) (E.powf p.sigma p.la)

  mie_sloped : AllSloped (mie mixed F (mixed_pair p t) (sloped r))
  unfolding mie
  mie_sloped = lines_from _ _ (λ x y z. refl) (line_sloped _ _ _ _ (λ x y z w. refl)) (line_sloped _ _ _ _ (λ x y z w. refl)) (line_sloped _ _ _ _ (λ x y z w. refl))

  first_sloped : (v : PotentialIn D) → AllSloped (add_first mixed F (mixed_pair p t) (sloped r) (sloped_parts v))
  unfolding add_first q1 quantum_d prefactor
  first_sloped v = lines_from _ _ (λ x y z. refl) (line_sloped _ _ _ _ (λ x y z w. refl)) (line_sloped _ _ _ _ (λ x y z w. refl)) (line_sloped _ _ _ _ (λ x y z w. refl))

  second_sloped : (v : PotentialIn D) → AllSloped (add_second mixed F (mixed_pair p t) (sloped r) (sloped_parts v))
  unfolding add_second q2 quantum_d prefactor
  second_sloped v = lines_from _ _ (λ x y z. refl) (line_sloped _ _ _ _ (λ x y z w. refl)) (line_sloped _ _ _ _ (λ x y z w. refl)) (line_sloped _ _ _ _ (λ x y z w. refl))

  all_sloped : AllSloped (potential mixed F (mixed_pair p t) (sloped r))
  unfolding potential scaled after_shared
  all_sloped =
      then_all _ mie_sloped (λ v.
      then_all _ (choice (first_order p.order) (first_sloped v) (all_held v)) (λ v₁.
      then_all _ (choice (second_order p.order) (second_sloped v₁) (all_held v₁)) (λ v₂. all_held _)))

  pub potential_sloped : potential mixed F (mixed_pair p t) (sloped r) ≡ (potential_slope E p t r >>= λ v. held (sloped_parts v))
  unfolding potential_slope
  potential_sloped = all_is all_sloped
