-- A line of the potential by its two powers of the radius, from what a pair's radii share. Assumes nothing.
use Prim.Native.Nat.{ℕ}
use mathlib.Core.Path.{◌≡◌, refl, sym, ap, ◌∙◌, fun_ext}
use mathlib.Core.Bool.{Bool}
use Rattle.number.specs.Ans.{Ans, held, refused, ◌>>=◌}
use Rattle.number.specs.Arith.{Arith}
use Rattle.number.specs.Functions.{Functions}
use Rattle.saftvrqmie_potential.specs.Potential.{PairIn, line, mie, potential}
use Rattle.saftvrqmie_potential.specs.Shared.{Stands, Sharing}
use Rattle.saftvrqmie_potential.specs.declared.Shared.{Shared}

-- ---- a line by its two powers of the radius
abbrev pub both : {N : Type 0} → Ans N → Ans N → Ans (N × N)
both a b = a >>= λ x. b >>= λ y. held (x, y)

module _ (A : Arith) (F : Functions A.Num) (p : PairIn A.Num) (r sr sa : A.Num) (is-sr : F.powf p.sigma p.lr ≡ held sr) (is-sa : F.powf p.sigma p.la ≡ held sa) where
  abbrev from : Ans (A.Num × A.Num) → (A.Num → A.Num → A.Num → A.Num → A.Num) → Ans A.Num
  from a f = a >>= λ x. held (f x.0 sr x.1 sa)

  made : (a b : Ans A.Num) (f : A.Num → A.Num → A.Num → A.Num → A.Num)
      → (a >>= λ rr. F.powf p.sigma p.lr >>= λ sr. b >>= λ ra. F.powf p.sigma p.la >>= λ sa. held (f rr sr ra sa)) ≡ from (both a b) f
  unfolding ◌>>=◌
  made (held x) (held y) f = rw (is-sr, is-sa)
  made (held x) (refused n) f = rw is-sr
  made (refused n) b f = refl

  line_is : (e e' : A.Num) (f : A.Num → A.Num → A.Num → A.Num → A.Num) → line A F p r e e' f ≡ from (both (F.powf r e) (F.powf r e')) f
  unfolding line
  line_is e e' f = made (F.powf r e) (F.powf r e') f

module _ {A : Arith} {F : Functions A.Num} {D P B E : Type 0} {plain : P → A.Num} {power_at : B → A.Num → Ans A.Num} {power_by : B → E → Ans A.Num} {of : D → A.Num} {exponent_in : E → Bool}
    {p : PairIn A.Num} {s : Shared D P E} (h : Sharing A F plain power_at power_by of exponent_in p s) {r : A.Num} {b : B} (is-b : power_at b ≡ F.powf r) where
  at : {n : E} {e : A.Num} → Stands power_at power_by n e → F.powf r e ≡ power_by b n
  at {e = e} k = sym (k b ∙ ap (λ (f : A.Num → Ans A.Num). f e) is-b)

  module _ {n m : E} {e e' : A.Num} (k : Stands power_at power_by n e) (k' : Stands power_at power_by m e') where
    both_is : both (F.powf r e) (F.powf r e') ≡ both (power_by b n) (power_by b m)
    both_is = rw (at k, at k')

    pub line_by : (a : Ans (A.Num × A.Num)) → both (power_by b n) (power_by b m) ≡ a → (f : A.Num → A.Num → A.Num → A.Num → A.Num)
        → line A F p r e e' f ≡ from A F p r (plain s.r.power) (plain s.a.power) h.r.power h.a.power a f
    line_by a q f = line_is A F p r _ _ h.r.power h.a.power e e' f ∙ ap (λ (z : Ans (A.Num × A.Num)). z >>= λ x. held (f x.0 (plain s.r.power) x.1 (plain s.a.power))) (both_is ∙ q)

    pub line_refused : {j : ℕ} → both (power_by b n) (power_by b m) ≡ refused j → line A F p r e e' ≡ (λ f. refused j)
    unfolding ◌>>=◌
    line_refused q = fun_ext (λ f. line_by _ q f)

-- ---- a pair whose sigma has no power has a potential at no radius
module _ (A : Arith) (F : Functions A.Num) (powf_law : (x y : A.Num) (n : ℕ) → F.powf x y ≡ refused n → n ≡ 6) where
  then_6 : {T : Type 0} (a : Ans A.Num) (f : A.Num → Ans T) → ((n : ℕ) → a ≡ refused n → n ≡ 6) → ((v : A.Num) → f v ≡ refused 6) → (a >>= f) ≡ refused 6
  unfolding ◌>>=◌
  then_6 (held v) f k h = h v
  then_6 (refused n) f k h = ap refused (k n refl)

  module _ (p : PairIn A.Num) (r : A.Num) where
    line_first : (er ea : A.Num) (f : A.Num → A.Num → A.Num → A.Num → A.Num) → F.powf p.sigma p.lr ≡ refused 6 → line A F p r er ea f ≡ refused 6
    unfolding line ◌>>=◌
    line_first er ea f h = then_6 (F.powf r er) _ (powf_law r er) (λ v. rw h)

    line_second : (er ea : A.Num) (f : A.Num → A.Num → A.Num → A.Num → A.Num) → F.powf p.sigma p.la ≡ refused 6 → line A F p r er ea f ≡ refused 6
    unfolding line ◌>>=◌
    line_second er ea f h =
        then_6 (F.powf r er) _ (powf_law r er) (λ v. then_6 (F.powf p.sigma p.lr) _ (powf_law p.sigma p.lr) (λ w. then_6 (F.powf r ea) _ (powf_law r ea) (λ x. rw h)))

    pub first_outside : {n : ℕ} → F.powf p.sigma p.lr ≡ refused n → potential A F p r ≡ refused n
    unfolding potential mie ◌>>=◌
    first_outside {n = n} h = let k = powf_law _ _ n h in rw k (rw (line_first p.lr p.la _ (rw k at h)))

    pub second_outside : {n : ℕ} → F.powf p.sigma p.la ≡ refused n → potential A F p r ≡ refused n
    unfolding potential mie ◌>>=◌
    second_outside {n = n} h = let k = powf_law _ _ n h in rw k (rw (line_second p.lr p.la _ (rw k at h)))
