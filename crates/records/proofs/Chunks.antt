-- Where a run of a list's runs of one length lies in the list. Assumes nothing.
use Rattle.std.proofs.Common.{◌≡◌, refl, ℕ, zero, suc, ◌+◌, ◌*◌, ◌<◌, List, take, drop, slice_index_or, arith}
use Rattle.std.specs.Simd.{first_chunks}
use Rattle.std.proofs.lemmas.List.{drop-drop}

pub at_first_chunks : {X : Type 0} (n k c : ℕ) (xs d : List X) → k < c → slice_index_or (first_chunks n c xs) k d ≡ take n (drop (n * k) xs)
at_first_chunks {X = X} n zero zero xs d h = elim h [ ]
at_first_chunks {X = X} n (suc k) zero xs d h = elim h [ ]
at_first_chunks n zero (suc c) xs d h = let e : n * 0 ≡ 0 = omega arith in rw e refl
at_first_chunks n (suc k) (suc c) xs d h =
    let e : n * suc k ≡ n + n * k = omega arith in
    rw (e, ← drop-drop (n * k) n xs) (at_first_chunks n k c (drop n xs) d (omega arith))
