-- Laws of the whole power's loop, over any product. Assumes nothing.
use Rattle.std.proofs.Common.{◌≡◌, ℕ, zero, suc, ◌/◌, ◌%◌, ◌^◌, ◌<◌, ◌≤◌, cond, eqb, [], ◌∷◌, sym, refl, ◌∙◌, arith, ne_eqb}
use native.Mathlib.Nat.{two-pow-succ}
use Rattle.number.specs.Power.{digits, pow_digits, pow_up}

digits_more : (k n : ℕ) → 0 < n → digits (suc k) n ≡ eqb (n % 2) 1 ∷ digits k (n / 2)
unfolding digits
digits_more k n p = rw (ne_eqb n 0 (λ e. omega arith))

digits_none : (k : ℕ) → digits k 0 ≡ []
unfolding digits
digits_none zero = refl
digits_none (suc k) = refl

-- ---- the whole power
module _ {N : Type 0} (mul : N → N → N) where
  abbrev pub run : ℕ → ℕ → N → N → N
  run k n sq acc = pow_digits mul (digits k n) sq acc

  abbrev pub times : ℕ → N → N → N
  times n sq acc = cond (eqb (n % 2) 1) (mul acc sq) acc

  run_zero : (k : ℕ) (sq acc : N) → run k 0 sq acc ≡ acc
  unfolding digits pow_digits
  run_zero zero sq acc = refl
  run_zero (suc k) sq acc = refl

  -- the last digit
  run_last : (k n : ℕ) (sq acc : N) → 0 < n → n / 2 ≡ 0 → run (suc k) n sq acc ≡ times n sq acc
  unfolding pow_digits
  run_last k n sq acc p e = rw (digits_more k n, e, digits_none)

  -- a digit with another after it
  run_more : (k n : ℕ) (sq acc : N) → 0 < n → 0 < n / 2 → run (suc (suc k)) n sq acc ≡ run (suc k) (n / 2) (mul sq sq) (times n sq acc)
  unfolding pow_digits
  run_more k n sq acc p q = rw (digits_more (suc k) n, digits_more k (n / 2))

  -- what holds at the head of the loop: the digits that are left, run on from here, give the power
  abbrev pub Turn : N → N → ℕ → N → N → ℕ → Type 0
  Turn one x n acc sq left = (k : ℕ) × (left < 2 ^ k) × (run k left sq acc ≡ pow_up mul one x n)

  pub start : (one x : N) (n : ℕ) → n < 2 ^ 32 → Turn one x n one x n
  unfolding pow_up
  start one x n p = (32, p, refl)

  pub done : (one x : N) (n : ℕ) (acc sq : N) (left : ℕ) → left ≤ 0 → Turn one x n acc sq left → acc ≡ pow_up mul one x n
  done one x n acc sq left p t =
      let z : left ≡ 0 = omega arith in
      sym (run_zero t.0 sq acc) ∙ rw z at t.2

  pub turn_more : (one x : N) (n : ℕ) (acc sq : N) (left : ℕ) → 0 < left / 2 → Turn one x n acc sq left → Turn one x n (times left sq acc) (mul sq sq) (left / 2)
  turn_more one x n acc sq left q t = go t.0 t.1 t.2
    where
      go : (k : ℕ) → left < 2 ^ k → run k left sq acc ≡ pow_up mul one x n → Turn one x n (times left sq acc) (mul sq sq) (left / 2)
      go zero p e = absurd (omega arith)
      go (suc zero) p e = absurd (omega arith)
      go (suc (suc k)) p e = (suc k, omega (arith, two-pow-succ (suc k)), sym (run_more k left sq acc (omega arith) q) ∙ e)

  pub turn_last : (one x : N) (n : ℕ) (acc sq : N) (left : ℕ) → 0 < left → left / 2 ≤ 0 → Turn one x n acc sq left → Turn one x n (times left sq acc) sq (left / 2)
  turn_last one x n acc sq left p q t = go t.0 t.1 t.2
    where
      z : left / 2 ≡ 0
      z = omega arith

      go : (k : ℕ) → left < 2 ^ k → run k left sq acc ≡ pow_up mul one x n → Turn one x n (times left sq acc) sq (left / 2)
      go zero b e = absurd (omega arith)
      go (suc k) b e = (0, omega arith, rw z (run_zero 0 sq (times left sq acc)) ∙ sym (run_last k left sq acc p z) ∙ e)
