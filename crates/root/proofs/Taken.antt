-- The root's digits from a reciprocal that is a little too small: never too large, and not much too small. Assumes nothing.
use mathlib.Core.Path.{◌≡◌, sym, ap, subst}
use Prim.Native.Nat.{ℕ, ◌+◌, ◌-◌, ◌*◌, ◌/◌, ◌^◌, ◌≤◌, ◌<◌}
use native.Mathlib.Nat.{le_trans, le_of_eq, le_of_lt, mul-pos, mul-le-mul, mul-le-mul_left, mul-le-mul_right, le_of_mul-le-mul_left, div-mul-le_self, lt-div-mul-add}
use native.Mathlib.Omega.{arith}
use Rattle.number.proofs.Frac.{ring}
use Rattle.root.specs.Inverse.{Inverse}
use Rattle.root.proofs.Square.{root_lt, root_le}

-- ---- the first digits s of the root of a, from w near B / √a
module _ (a w s B : ℕ) (pos : 0 < B) (over : w * w * a ≤ B * B) where
  square_le : s * B ≤ a * w → s * s ≤ a
  square_le h = le_of_mul-le-mul_left {k = B * B} (chain (mul-le-mul h h) (mul-le-mul_left a over)) (mul-pos pos pos)
    where
      chain : s * B * (s * B) ≤ a * w * (a * w) → a * (w * w * a) ≤ a * (B * B) → B * B * (s * s) ≤ B * B * a
      chain p q = let b = simp ring at p in let c = simp ring at q in simp ring (omega arith)

  unit_le : s * s ≤ a → s * w ≤ B
  unit_le h = root_le (s * w) B (chain (mul-le-mul_right (w * w) h))
    where
      chain : s * s * (w * w) ≤ a * (w * w) → s * w * (s * w) ≤ B * B
      chain p = let b = simp ring at p in let c = simp ring at over in simp ring (omega arith)

  module _ (E F : ℕ) (near : B * B ≤ w * w * (a + E) + B * F) (h : a * w ≤ (s + 2) * B) where
    unit_near : w * w ≤ B → B ≤ s * w + 2 * w + E + F
    unit_near k = le_of_mul-le-mul_left {k = B} (chain (mul-le-mul_right w h) (mul-le-mul_right E k)) pos
      where
        chain : a * w * w ≤ (s + 2) * B * w → w * w * E ≤ B * E → B * B ≤ B * (s * w + 2 * w + E + F)
        chain p q = let b = simp ring at p in let c = simp ring at near in let d = simp ring at q in simp ring (omega arith)

    square_near : (G H : ℕ) → F * G ≡ H * B → G * a ≤ G * ((s + 2) * (s + 2) + E) + H * a
    square_near G H e =
        le_of_mul-le-mul_left {k = B * B} (chain (mul-le-mul h h) (mul-le-mul_left (a * G) near) (mul-le-mul_left (E * G) over) (le_of_eq (ap (λ (z : ℕ). a * B * z) e))) (mul-pos pos pos)
      where
        chain : a * w * (a * w) ≤ (s + 2) * B * ((s + 2) * B) → a * G * (B * B) ≤ a * G * (w * w * (a + E) + B * F) → E * G * (w * w * a) ≤ E * G * (B * B) → a * B * (F * G) ≤ a * B * (H * B) → B * B * (G * a) ≤ B * B * (G * ((s + 2) * (s + 2) + E) + H * a)
        chain p q r t =
            let b = simp ring at (mul-le-mul_left G p) in
            let c = simp ring at q in
            let d = simp ring at r in
            let f = simp ring at t in
            simp ring (omega arith)

-- ---- the further digits t, from what is left: n, with W units to the next digit
further_over : (s n t w Q W G H : ℕ) → 0 < W → G * W ≡ 4 * Q → H * (W * W) ≡ 4 * (Q * Q) → t * W ≤ n * w → s * w ≤ Q → n * (w * w) + s * w * (s * w) ≤ Q * Q → G * (s * t) + t * t ≤ n * H
further_over s n t w Q W G H pos eg eh h k l =
    le_of_mul-le-mul_left {k = W * W}
    (chain (mul-le-mul_left (G * W * s) h) (mul-le-mul h h) (mul-le-mul_left n (room (n * (w * w)) (s * w) (Q - s * w) (back (s * w) Q k) l)) (ap (λ (z : ℕ). z * (s * (n * w))) eg) (ap (λ (z : ℕ). n * z) eh)) (mul-pos pos pos)
  where
    back : (x Q : ℕ) → x ≤ Q → Q ≡ x + (Q - x)
    back x Q h = omega arith

    room : (m x k : ℕ) → Q ≡ x + k → m + x * x ≤ Q * Q → 4 * (Q * x) + m ≤ 4 * (Q * Q)
    room m x k e h =
        subst (λ (z : ℕ). 4 * (z * x) + m ≤ 4 * (z * z)) (sym e)
        (let b = simp ring at (subst (λ (z : ℕ). m + x * x ≤ z * z) e h) in simp ring (omega arith))

    chain : G * W * s * (t * W) ≤ G * W * s * (n * w) → t * W * (t * W) ≤ n * w * (n * w) → n * (4 * (Q * (s * w)) + n * (w * w)) ≤ n * (4 * (Q * Q)) → G * W * (s * (n * w)) ≡ 4 * Q * (s * (n * w)) → n * (H * (W * W)) ≡ n * (4 * (Q * Q)) → W * W * (G * (s * t) + t * t) ≤ W * W * (n * H)
    chain p q r u v =
        let b = simp ring at p in
        let c = simp ring at q in
        let d = simp ring at r in
        let e = simp ring at u in
        let f = simp ring at v in
        simp ring (omega arith)

-- ---- the code's numbers, for a number a of 63 or 64 digits
module _ (a w : ℕ) (long : 2 ^ 62 ≤ a) (fits : a < 2 ^ 64) (inv : Inverse a w) where
  abbrev pub s : ℕ
  s = a / 2147483648 * w / 2147483648

  abbrev pub n : ℕ
  n = a - s * s

  abbrev pub t : ℕ
  t = n / 16 * w / 137438953472

  w_square : w * w ≤ 2 ^ 62
  w_square = le_of_mul-le-mul_left {k = 2 ^ 62} (le_trans (swap (w * w) (mul-le-mul_left (w * w) long)) inv.over) (omega arith)
    where
      swap : (x : ℕ) → x * 4611686018427387904 ≤ x * a → 4611686018427387904 * x ≤ x * a
      swap x h = omega arith

  w_le : w ≤ 2 ^ 31
  w_le = root_le w (2 ^ 31) w_square

  s_over : s * 2 ^ 62 ≤ a * w
  s_over = lin (a / 2147483648 * w) (a * w) (let h = simp ring at (mul-le-mul_right w (div-mul-le_self a 2147483648)) in simp ring (omega arith))
    where
      lin : (x y : ℕ) → x * 2147483648 ≤ y → x / 2147483648 * 4611686018427387904 ≤ y
      lin x y h = omega arith

  s_near : a * w ≤ (s + 2) * 2 ^ 62
  s_near = lin (a / 2147483648 * w) (a * w) w w_le (let h = simp ring at (mul-le-mul_right w (le_of_lt (lt-div-mul-add {a = a} {b = 2147483648} (omega arith)))) in simp ring (omega arith))
    where
      lin : (x y w : ℕ) → w ≤ 2 ^ 31 → y ≤ x * 2147483648 + w * 2147483648 → y ≤ (x / 2147483648 + 2) * 4611686018427387904
      lin x y w k h = omega arith

  pub square_fits : s * s ≤ a
  square_fits = square_le a w s (2 ^ 62) (omega arith) inv.over s_over

  sw_le : s * w ≤ 2 ^ 62
  sw_le = unit_le a w s (2 ^ 62) (omega arith) inv.over square_fits

  sw_near : 2 ^ 62 ≤ s * w + 24 * 2 ^ 31
  sw_near = lin (s * w) w w_le (unit_near a w s (2 ^ 62) (omega arith) inv.over (2 ^ 34) (7 * 2 ^ 32) inv.near s_near w_square)
    where
      lin : (x w : ℕ) → w ≤ 2 ^ 31 → 2 ^ 62 ≤ x + 2 * w + 2 ^ 34 + 7 * 2 ^ 32 → 2 ^ 62 ≤ x + 24 * 2 ^ 31
      lin x w h k = omega arith

  s_size : (2147483624 ≤ s) × (s < 2 ^ 32)
  s_size = (low s (s * w) (mul-le-mul_left s w_le) sw_near, root_lt s (2 ^ 32) (few (s * s) square_fits))
    where
      low : (r x : ℕ) → x ≤ r * 2147483648 → 2 ^ 62 ≤ x + 24 * 2 ^ 31 → 2147483624 ≤ r
      low r x h k = omega arith

      few : (x : ℕ) → x ≤ a → x < 4294967296 * 4294967296
      few x h = omega arith

  -- what the first digits leave
  n_le : n ≤ 41 * s
  n_le =
      lin (s * s) s s_size.0 (mul-le-mul_left s s_size.0) (mul-le-mul_left s (le_of_lt s_size.1))
      (let h = simp ring at (square_near a w s (2 ^ 62) (omega arith) inv.over (2 ^ 34) (7 * 2 ^ 32) inv.near s_near (2 ^ 30) 7 (omega arith)) in simp ring (omega arith))
    where
      hundredth : (x r : ℕ) → 2147483624 ≤ r → r * 2147483624 ≤ x → 200 * (4 * r + 4 + 17179869184) ≤ x
      hundredth x r h k = omega arith

      rough : (b x y : ℕ) → 200 * y ≤ x → 1073741824 * b ≤ 1073741824 * (x + y) + 7 * b → 100 * b ≤ 101 * x
      rough b x y h k = omega arith

      fine : (b x r : ℕ) → 100 * b ≤ 101 * x → x ≤ r * 4294967296 → 1073741824 * b ≤ 1073741824 * (x + (4 * r + 4 + 17179869184)) + 7 * b → 100 * b ≤ 100 * (x + 4 * r + 4 + 17179869184) + 2828 * r
      fine b x r h k l = omega arith

      end : (b x r : ℕ) → 2147483624 ≤ r → 100 * b ≤ 100 * (x + 4 * r + 4 + 17179869184) + 2828 * r → b - x ≤ 41 * r
      end b x r h k = omega arith

      lin : (x r : ℕ) → 2147483624 ≤ r → r * 2147483624 ≤ x → x ≤ r * 4294967296 → 1073741824 * a ≤ 1073741824 * (x + (4 * r + 4 + 17179869184)) + 7 * a → a - x ≤ 41 * r
      lin x r h k l m = end a x r h (fine a x r (rough a x (4 * r + 4 + 17179869184) (hundredth x r h k) m) l m)

  t_over : 8388608 * (s * t) + t * t ≤ n * 17592186044416
  t_over = further_over s n t w (2 ^ 62) (2 ^ 41) 8388608 17592186044416 (omega arith) (omega arith) (omega arith) under sw_le (chain n (back (s * s) square_fits))
    where
      under : t * 2199023255552 ≤ n * w
      under = lin (n / 16 * w) (n * w) (let h = simp ring at (mul-le-mul_right w (div-mul-le_self n 16)) in simp ring (omega arith))
        where
          lin : (x y : ℕ) → x * 16 ≤ y → x / 137438953472 * 2199023255552 ≤ y
          lin x y h = omega arith

      back : (x : ℕ) → x ≤ a → a - x + x ≡ a
      back x h = omega arith

      chain : (m : ℕ) → m + s * s ≡ a → m * (w * w) + s * w * (s * w) ≤ 4611686018427387904 * 4611686018427387904
      chain m e = let b = simp ring at (subst (λ (z : ℕ). w * w * z ≤ 2 ^ 62 * 2 ^ 62) (sym e) inv.over) in simp ring (omega arith)

  t_near : n * 17592186044416 ≤ 8388608 * (s * t) + 16777216 * s
  t_near = lin n s (s * t) (s * w) (n * (s * w)) s_size.0 (chain (mul-le-mul_left s over)) sw_le (part (mul-le-mul_left n sw_near)) n_le
    where
      over : n * w ≤ t * 2199023255552 + 2199023255552 + 15 * w
      over = go (n / 16 * w) (n * w) w (let h = simp ring at (mul-le-mul_right w (above n)) in simp ring (omega arith))
        where
          above : (m : ℕ) → m ≤ m / 16 * 16 + 15
          above m = omega arith

          go : (x y w : ℕ) → y ≤ 16 * x + 15 * w → y ≤ x / 137438953472 * 2199023255552 + 2199023255552 + 15 * w
          go x y w h = omega arith

      chain : s * (n * w) ≤ s * (t * 2199023255552 + 2199023255552 + 15 * w) → n * (s * w) ≤ 2199023255552 * (s * t) + 2199023255552 * s + 15 * (s * w)
      chain h = let b = simp ring at h in simp ring (omega arith)

      part : n * 2 ^ 62 ≤ n * (s * w + 24 * 2 ^ 31) → n * 2 ^ 62 ≤ n * (s * w) + 51539607552 * n
      part h = let b = simp ring at h in simp ring (omega arith)

      lin : (m r x u y : ℕ) → 2147483624 ≤ r → y ≤ 2199023255552 * x + 2199023255552 * r + 15 * u → u ≤ 2 ^ 62 → m * 2 ^ 62 ≤ y + 51539607552 * m → m ≤ 41 * r → m * 17592186044416 ≤ 8388608 * x + 16777216 * r
      lin m r x u y g h k l o = omega arith

  nw_le : n * w ≤ 41 * 2 ^ 62
  nw_le = le_trans (mul-le-mul_right w n_le) (lin (s * w) (41 * s * w) sw_le (assoc s))
    where
      assoc : (r : ℕ) → 41 * r * w ≡ 41 * (r * w)
      assoc r = simp ring

      lin : (x y : ℕ) → x ≤ 2 ^ 62 → y ≡ 41 * x → y ≤ 41 * 2 ^ 62
      lin x y h e = omega arith

  -- what is worked out on the way fits 64 bits
  pub first_fits : a / 2147483648 * w < 2 ^ 64
  first_fits = lin (a / 2147483648 * w) (a * w) s s_size.1 s_near (let h = simp ring at (mul-le-mul_right w (div-mul-le_self a 2147483648)) in simp ring (omega arith))
    where
      lin : (x y r : ℕ) → r < 2 ^ 32 → y ≤ (r + 2) * 2 ^ 62 → x * 2147483648 ≤ y → x < 2 ^ 64
      lin x y r h k l = omega arith

  sixteenth : n / 16 * w * 16 ≤ 41 * 2 ^ 62
  sixteenth = le_trans (let h = simp ring at (mul-le-mul_right w (div-mul-le_self n 16)) in simp ring (omega arith)) nw_le

  pub further_fits : n / 16 * w < 2 ^ 64
  further_fits = let h = sixteenth in omega arith

  pub root_fits : (s < 2 ^ 32) × (t ≤ 85983232) × (n ≤ 41 * 2 ^ 32)
  root_fits = (s_size.1, lin (n / 16 * w) sixteenth, le_trans n_le (mul-le-mul_left 41 (le_of_lt s_size.1)))
    where
      lin : (x : ℕ) → x * 16 ≤ 41 * 2 ^ 62 → x / 137438953472 ≤ 85983232
      lin x h = omega arith

  pub left_fits : (s * t ≤ n * 2097152) × (t * t ≤ (n * 2097152 - s * t) * 8388608) × ((n * 2097152 - s * t) * 8388608 ≤ 16777216 * s)
  left_fits = lin n (s * t) (t * t) s t_over t_near
    where
      lin : (m x y r : ℕ) → 8388608 * x + y ≤ m * 17592186044416 → m * 17592186044416 ≤ 8388608 * x + 16777216 * r → (x ≤ m * 2097152) × (y ≤ (m * 2097152 - x) * 8388608) × ((m * 2097152 - x) * 8388608 ≤ 16777216 * r)
      lin m x y r h k = (omega arith, omega arith, omega arith)

  -- ---- what all digits leave
  abbrev pub digits : ℕ
  digits = s * 4194304 + t

  abbrev pub rest : ℕ
  rest = (n * 2097152 - s * t) * 8388608 - t * t

  pub all_digits : digits * digits + rest ≡ a * 2 ^ 44
  all_digits = lin (digits * digits) (s * s) (s * t) (t * t) (spread s t) square_fits left_fits.0 left_fits.1
    where
      spread : (s t : ℕ) → (s * 4194304 + t) * (s * 4194304 + t) ≡ s * s * 17592186044416 + 8388608 * (s * t) + t * t
      spread s t = simp ring (omega arith)

      lin : (q ss x y : ℕ) → q ≡ ss * 17592186044416 + 8388608 * x + y → ss ≤ a → x ≤ (a - ss) * 2097152 → y ≤ ((a - ss) * 2097152 - x) * 8388608 → q + (((a - ss) * 2097152 - x) * 8388608 - y) ≡ a * 17592186044416
      lin q ss x y e h k l = omega arith

  pub rest_le : rest ≤ 4 * digits
  rest_le = lin ((n * 2097152 - s * t) * 8388608) (t * t) s t left_fits.2
    where
      lin : (x y r t : ℕ) → x ≤ 16777216 * r → x - y ≤ 4 * (r * 4194304 + t)
      lin x y r t h = omega arith
