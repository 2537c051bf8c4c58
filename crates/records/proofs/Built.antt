-- An array that one function of the index made, where no call changes the function. Assumes nothing.
use Rattle.std.proofs.Common.{◌≡◌, ℕ, zero, suc, ◌+◌, ◌<◌, List, slice_index_or, arith}
use Rattle.std.specs.Fn.{Mut, Called}
use Rattle.std.specs.Array.{IsFromFnResultFrom}

pub built : {F B : Type 0} (g : Mut F (ℕ × Unit {0}) B) (P : ℕ → B → Type 0) (f : F) (each : (i : ℕ) (y : B) (q : F) → Called g f (i, tt) y q → P i y × (q ≡ f)) (ys : List B) (i n : ℕ) → IsFromFnResultFrom g f ys i n → (k j : ℕ) (d : B) → i + k ≡ j → k < n → P j (slice_index_or ys j d)
built g P f each ys i zero made zero j d e h = elim h [ ]
built g P f each ys i zero made (suc k) j d e h = elim h [ ]
built g P f each ys i (suc n) (q, y, lies, called, more) zero j d e h =
    let e' : j ≡ i = omega (arith, e) in
    rw (e', lies.1 d) (each i y q called).0
built g P f each ys i (suc n) (q, y, lies, called, more) (suc k) j d e h =
    let same = (each i y q called).1 in
    built g P f each ys (i + 1) n (rw (← same) more) k j d (omega (arith, e)) (omega (arith, h))
