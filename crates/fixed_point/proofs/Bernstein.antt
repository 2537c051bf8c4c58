-- Polynomials in two numbers s and t, each term of one degree, as lists of natural coefficients: products with a linear form, and the comparison term by term. Assumes nothing.
use mathlib.Core.Path.{◌≡◌, refl, sym, ap, ◌∙◌}
use mathlib.Core.List.{List, [], ◌∷◌}
use mathlib.Core.Bool.{Bool, true, false, ◌&&◌}
use Prim.Native.Nat.{ℕ, zero, suc, ◌+◌, ◌*◌, ◌^◌, ◌≤◌}
use native.Mathlib.Nat.{suc_inj, le_trans, le_of_eq, add-le-add, mul_assoc, mul_comm, mul-zero, zero-mul, one-mul, mul-one, add-zero, zero-add, mul-le-mul_left, mul-le-mul_right, pow-suc, pow-zero}
use native.Mathlib.Omega.{arith}
use lib.Dec.{T, leb, leb→le}
use lib.ListN.{length}
use lib.Ieee.Fits.{and_l, and_r}
use Rattle.fixed_point.proofs.Polynomial.{hom}
use Rattle.fixed_point.proofs.Horner.{ring}

-- (p s + q t) times the polynomial, and x times the highest power of s
unfoldable pub times : ℕ → ℕ → ℕ → List ℕ → List ℕ
times p q x [] = x ∷ []
times p q x (a ∷ ps) = (x + p * a) ∷ times p q (q * a) ps

pub times_length : (p q x : ℕ) (ps : List ℕ) → length (times p q x ps) ≡ suc (length ps)
unfolding times
times_length p q x [] = refl
times_length p q x (a ∷ ps) = ap suc (times_length p q (q * a) ps)

pub times_is : (p q x s t : ℕ) (ps : List ℕ) → hom (times p q x ps) t s ≡ x * s ^ length ps + (p * s + q * t) * hom ps t s
unfolding times hom
times_is p q x s t [] = ap (λ (z : ℕ). x * s ^ 0 + z) (mul-zero t ∙ sym (mul-zero (p * s + q * t)))
times_is p q x s t (a ∷ ps) =
    ap (λ (l : ℕ). (x + p * a) * s ^ l + t * hom (times p q (q * a) ps) t s) (times_length p q (q * a) ps)
    ∙ ap (λ (z : ℕ). (x + p * a) * s ^ suc (length ps) + t * z) (times_is p q (q * a) s t ps)
    ∙ ap (λ (z : ℕ). (x + p * a) * z + t * (q * a * s ^ length ps + (p * s + q * t) * hom ps t s)) (pow-suc s (length ps))
    ∙ go p q x a s t (s ^ length ps) (hom ps t s)
    ∙ ap (λ (z : ℕ). x * z + (p * s + q * t) * (a * s ^ length ps + t * hom ps t s)) (sym (pow-suc s (length ps)))
  where
    go : (p q x a s t S H : ℕ) → (x + p * a) * (S * s) + t * (q * a * S + (p * s + q * t) * H) ≡ x * (S * s) + (p * s + q * t) * (a * S + t * H)
    go p q x a s t S H = simp ring

-- k times one and the other
unfoldable pub fma : ℕ → List ℕ → List ℕ → List ℕ
fma k [] qs = []
fma k (a ∷ ps) [] = []
fma k (a ∷ ps) (b ∷ qs) = (k * a + b) ∷ fma k ps qs

pub fma_length : (k : ℕ) (ps qs : List ℕ) → length ps ≡ length qs → length (fma k ps qs) ≡ length ps
unfolding fma
fma_length k [] qs h = refl
fma_length k (a ∷ ps) [] h = impossible (length ps) h
  where
    impossible : (n : ℕ) → suc n ≡ 0 → 0 ≡ suc n
    impossible n h = omega arith
fma_length k (a ∷ ps) (b ∷ qs) h = ap suc (fma_length k ps qs (suc_inj h))

pub fma_is : (k s t : ℕ) (ps qs : List ℕ) → length ps ≡ length qs → hom (fma k ps qs) t s ≡ k * hom ps t s + hom qs t s
unfolding fma hom
fma_is k s t [] [] h = sym (add-zero (k * 0) ∙ mul-zero k)
fma_is k s t [] (b ∷ qs) h = impossible (length qs) (k * 0 + hom (b ∷ qs) t s) h
  where
    impossible : (n x : ℕ) → 0 ≡ suc n → 0 ≡ x
    impossible n x h = omega arith
fma_is k s t (a ∷ ps) [] h = impossible (length ps) (k * hom (a ∷ ps) t s + 0) h
  where
    impossible : (n x : ℕ) → suc n ≡ 0 → 0 ≡ x
    impossible n x h = omega arith
fma_is k s t (a ∷ ps) (b ∷ qs) h =
    let e : length ps ≡ length qs = suc_inj h in
    ap (λ (l : ℕ). (k * a + b) * s ^ l + t * hom (fma k ps qs) t s) (fma_length k ps qs e ∙ e)
    ∙ ap (λ (z : ℕ). (k * a + b) * s ^ length qs + t * z) (fma_is k s t ps qs e)
    ∙ go k a b t (s ^ length qs) (hom ps t s) (hom qs t s)
    ∙ ap (λ (l : ℕ). k * (a * s ^ l + t * hom ps t s) + (b * s ^ length qs + t * hom qs t s)) (sym e)
  where
    go : (k a b t S H G : ℕ) → (k * a + b) * S + t * (k * H + G) ≡ k * (a * S + t * H) + (b * S + t * G)
    go k a b t S H G = simp ring

-- the sum of aᵢ nⁱ d^(l - i), where f stands for a product with n and g for one with d
unfoldable pub front : (List ℕ → List ℕ) → (List ℕ → List ℕ) → List ℕ → List ℕ → List ℕ → List ℕ
front f g [] P A = A
front f g (a ∷ cs) P A = front f g cs (f P) (fma a P (g A))

-- f is a product with n, of degree e
pub record Acts (f : List ℕ → List ℕ) (n e s t : ℕ) : Type 0 where
  pub value : (l : List ℕ) → hom (f l) t s ≡ n * hom l t s
  pub longer : (l : List ℕ) → length (f l) ≡ e + length l

pub front_is : (f g : List ℕ → List ℕ) (n d e s t : ℕ) → Acts f n e s t → Acts g d e s t → (cs P A : List ℕ) → length P ≡ e + length A
    → hom (front f g cs P A) t s ≡ d ^ length cs * hom A t s + hom P t s * hom cs n d
unfolding front hom
front_is f g n d e s t hf hg [] P A h = sym (go (d ^ 0) (hom A t s) (hom P t s) (pow-zero d))
  where
    go : (x y z : ℕ) → x ≡ 1 → x * y + z * 0 ≡ y
    go x y z h = ap (λ (w : ℕ). w * y + z * 0) h ∙ ap (λ (w : ℕ). 1 * y + w) (mul-zero z) ∙ add-zero (1 * y) ∙ one-mul y
front_is f g n d e s t hf hg (a ∷ cs) P A h =
    let eq : length P ≡ length (g A) = h ∙ sym (hg.longer A) in
    front_is f g n d e s t hf hg cs (f P) (fma a P (g A)) (hf.longer P ∙ ap (λ (l : ℕ). e + l) (sym (fma_length a P (g A) eq)))
    ∙ ap (λ (z : ℕ). d ^ length cs * z + hom (f P) t s * hom cs n d) (fma_is a s t P (g A) eq ∙ ap (λ (z : ℕ). a * hom P t s + z) (hg.value A))
    ∙ ap (λ (z : ℕ). d ^ length cs * (a * hom P t s + d * hom A t s) + z * hom cs n d) (hf.value P)
    ∙ go a n d (d ^ length cs) (hom P t s) (hom A t s) (hom cs n d)
    ∙ ap (λ (z : ℕ). z * hom A t s + hom P t s * (a * d ^ length cs + n * hom cs n d)) (sym (pow-suc d (length cs)))
  where
    go : (a n d D p x H : ℕ) → D * (a * p + d * x) + n * p * H ≡ D * d * x + p * (a * D + n * H)
    go a n d D p x H = simp ring

pub front_start : (f g : List ℕ → List ℕ) (n d e s t : ℕ) → Acts f n e s t → Acts g d e s t → (c : ℕ) (cs : List ℕ)
    → hom (front f g cs (f (1 ∷ [])) (c ∷ [])) t s ≡ hom (c ∷ cs) n d
unfolding hom
front_start f g n d e s t hf hg c cs =
    front_is f g n d e s t hf hg cs (f (1 ∷ [])) (c ∷ []) (hf.longer (1 ∷ []))
    ∙ ap (λ (z : ℕ). d ^ length cs * hom (c ∷ []) t s + z * hom cs n d) (hf.value (1 ∷ []))
    ∙ go c n t (s ^ 0) (d ^ length cs) (hom cs n d) (pow-zero s)
  where
    go : (c n t S D H : ℕ) → S ≡ 1 → D * (c * S + t * 0) + n * (1 * S + t * 0) * H ≡ c * D + n * H
    go c n t S D H h = ap (λ (z : ℕ). D * (c * z + t * 0) + n * (1 * z + t * 0) * H) h ∙ simp (mul-zero, add-zero, mul-one, mul_comm)

-- f k times
unfoldable pub again : ℕ → (List ℕ → List ℕ) → List ℕ → List ℕ
again zero f l = l
again (suc k) f l = again k f (f l)

pub again_is : (k : ℕ) (f : List ℕ → List ℕ) (n e s t : ℕ) → Acts f n e s t → (l : List ℕ) → hom (again k f l) t s ≡ n ^ k * hom l t s
unfolding again
again_is zero f n e s t h l = sym (ap (λ (z : ℕ). z * hom l t s) (pow-zero n) ∙ one-mul (hom l t s))
again_is (suc k) f n e s t h l = again_is k f n e s t h (f l) ∙ ap (λ (z : ℕ). n ^ k * z) (h.value l) ∙ sym (mul_assoc (n ^ k) n (hom l t s)) ∙ ap (λ (z : ℕ). z * hom l t s) (sym (pow-suc n k))

abbrev pub once : (p q : ℕ) → List ℕ → List ℕ
once p q l = times p q 0 l

abbrev pub twice : (p q : ℕ) → List ℕ → List ℕ
twice p q l = times p q 0 (times p q 0 l)

pub once_acts : (p q s t : ℕ) → Acts (once p q) (p * s + q * t) 1 s t
once_acts p q s t = record { value = λ (l : List ℕ). times_is p q 0 s t l ∙ ap (λ (z : ℕ). z + (p * s + q * t) * hom l t s) (zero-mul (s ^ length l)) ∙ zero-add ((p * s + q * t) * hom l t s); longer = λ (l : List ℕ). times_length p q 0 l ∙ one (length l) }
  where
    one : (n : ℕ) → suc n ≡ 1 + n
    one n = omega arith

pub twice_acts : (p q s t : ℕ) → Acts (twice p q) ((p * s + q * t) * (p * s + q * t)) 2 s t
twice_acts p q s t = record { value = λ (l : List ℕ). (once_acts p q s t).value (once p q l) ∙ ap (λ (z : ℕ). (p * s + q * t) * z) ((once_acts p q s t).value l) ∙ sym (mul_assoc (p * s + q * t) (p * s + q * t) (hom l t s)); longer = λ (l : List ℕ). times_length p q 0 (times p q 0 l) ∙ ap suc (times_length p q 0 l) ∙ two (length l) }
  where
    two : (n : ℕ) → suc (suc n) ≡ 2 + n
    two n = omega arith

-- ---- the comparison, term by term
unfoldable pub under : ℕ → ℕ → ℕ → ℕ → ℕ → ℕ → List ℕ → List ℕ → List ℕ → Bool
under a b c a' b' c' [] [] [] = true
under a b c a' b' c' [] [] (x ∷ xs) = false
under a b c a' b' c' [] (v ∷ vs) [] = false
under a b c a' b' c' [] (v ∷ vs) (x ∷ xs) = false
under a b c a' b' c' (u ∷ us) [] [] = false
under a b c a' b' c' (u ∷ us) [] (x ∷ xs) = false
under a b c a' b' c' (u ∷ us) (v ∷ vs) [] = false
under a b c a' b' c' (u ∷ us) (v ∷ vs) (x ∷ xs) = leb (a * u + b * v + c * x) (a' * u + b' * v + c' * x) && under a b c a' b' c' us vs xs

module _ (a b c a' b' c' : ℕ) where
  -- the lists are of one length
  same : (us vs xs : List ℕ) → T (under a b c a' b' c' us vs xs) → (length us ≡ length xs) × (length vs ≡ length xs)
  unfolding under
  same [] [] [] h = (refl, refl)
  same [] [] (x ∷ xs) h = absurd h
  same [] (v ∷ vs) [] h = absurd h
  same [] (v ∷ vs) (x ∷ xs) h = absurd h
  same (u ∷ us) [] [] h = absurd h
  same (u ∷ us) [] (x ∷ xs) h = absurd h
  same (u ∷ us) (v ∷ vs) [] h = absurd h
  same (u ∷ us) (v ∷ vs) (x ∷ xs) h =
      let r = same us vs xs (and_r (leb (a * u + b * v + c * x) (a' * u + b' * v + c' * x)) (under a b c a' b' c' us vs xs) h) in
      (ap suc r.0, ap suc r.1)

  pub under_le : (s t : ℕ) (us vs xs : List ℕ) → T (under a b c a' b' c' us vs xs)
      → a * hom us t s + b * hom vs t s + c * hom xs t s ≤ a' * hom us t s + b' * hom vs t s + c' * hom xs t s
  unfolding under hom
  under_le s t [] [] [] h = le_of_eq (nil a b c ∙ sym (nil a' b' c'))
    where
      nil : (a b c : ℕ) → a * 0 + b * 0 + c * 0 ≡ 0
      nil a b c = simp (mul-zero, add-zero)
  under_le s t [] [] (x ∷ xs) h = absurd h
  under_le s t [] (v ∷ vs) [] h = absurd h
  under_le s t [] (v ∷ vs) (x ∷ xs) h = absurd h
  under_le s t (u ∷ us) [] [] h = absurd h
  under_le s t (u ∷ us) [] (x ∷ xs) h = absurd h
  under_le s t (u ∷ us) (v ∷ vs) [] h = absurd h
  under_le s t (u ∷ us) (v ∷ vs) (x ∷ xs) h =
      let k = and_r (leb (a * u + b * v + c * x) (a' * u + b' * v + c' * x)) (under a b c a' b' c' us vs xs) h in
      let e = same us vs xs k in
      rw e.0 (rw e.1
      (step a b c a' b' c' u v x (s ^ length xs) t (hom us t s) (hom vs t s) (hom xs t s)
      (leb→le (a * u + b * v + c * x) (a' * u + b' * v + c' * x) (and_l (leb (a * u + b * v + c * x) (a' * u + b' * v + c' * x)) (under a b c a' b' c' us vs xs) h))
      (under_le s t us vs xs k)))
    where
      form : (a b c u v x S t U Y X : ℕ) → a * (u * S + t * U) + b * (v * S + t * Y) + c * (x * S + t * X) ≡ (a * u + b * v + c * x) * S + t * (a * U + b * Y + c * X)
      form a b c u v x S t U Y X = simp ring

      step : (a b c a' b' c' u v x S t U Y X : ℕ) → a * u + b * v + c * x ≤ a' * u + b' * v + c' * x → a * U + b * Y + c * X ≤ a' * U + b' * Y + c' * X
          → a * (u * S + t * U) + b * (v * S + t * Y) + c * (x * S + t * X) ≤ a' * (u * S + t * U) + b' * (v * S + t * Y) + c' * (x * S + t * X)
      step a b c a' b' c' u v x S t U Y X h k = le_trans (le_of_eq (form a b c u v x S t U Y X)) (le_trans (add-le-add (mul-le-mul_right S h) (mul-le-mul_left t k)) (le_of_eq (sym (form a' b' c' u v x S t U Y X))))

-- ---- lengths
pub front_length : (f g : List ℕ → List ℕ) (n d s t : ℕ) → Acts f n 1 s t → Acts g d 1 s t → (cs P A : List ℕ) → length P ≡ 1 + length A → length (front f g cs P A) ≡ length cs + length A
unfolding front
front_length f g n d s t hf hg [] P A h = sym (zero-add (length A))
front_length f g n d s t hf hg (a ∷ cs) P A h =
    let eq : length P ≡ length (g A) = h ∙ sym (hg.longer A) in
    let lf : length (fma a P (g A)) ≡ length P = fma_length a P (g A) eq in
    front_length f g n d s t hf hg cs (f P) (fma a P (g A)) (hf.longer P ∙ ap (λ (l : ℕ). 1 + l) (sym lf)) ∙ ap (λ (l : ℕ). length cs + l) (lf ∙ h) ∙ lin (length cs) (length A)
  where
    lin : (x y : ℕ) → x + (1 + y) ≡ suc x + y
    lin x y = omega arith

pub again_length : (k : ℕ) (f : List ℕ → List ℕ) (n s t : ℕ) → Acts f n 1 s t → (l : List ℕ) → length (again k f l) ≡ k + length l
unfolding again
again_length zero f n s t h l = sym (zero-add (length l))
again_length (suc k) f n s t h l = again_length k f n s t h (f l) ∙ ap (λ (x : ℕ). k + x) (h.longer l) ∙ lin k (length l)
  where
    lin : (x y : ℕ) → x + (1 + y) ≡ suc x + y
    lin x y = omega arith
