-- The ways of the operation, test by test, over plain values. Assumes nothing.
use Prim.Native.Nat.{ℕ, ◌*◌, ◌≤◌}
use lib.Dec.{eqb}
use lib.Ieee.{Float}
use lib.ListN.{length}
use mathlib.Core.List.{List}
use mathlib.Core.Path.{◌≡◌}
use mathlib.Core.Bool.{Bool, true, false, ◌&&◌}
use borrow.Author.Tests.{eqb-true}
use Rattle.std.proofs.lemmas.Bool.{and_parts}
use Rattle.number.specs.Ans.{Ans, held, refused, ◌>>=◌, demand}
use Rattle.number.specs.Arith.{Arith}
use Rattle.sizes.specs.Sizes.{side, sheet}
use Rattle.limits.specs.Limits.{count_within, state_within}
use Rattle.mie_parameters.proofs.Laws.{count_low, count_high}
use Rattle.saftvrqmie_parameters.specs.declared.SaftVRQMiePars.{SaftVRQMiePars}
use Rattle.saftvrqmie_energies.specs.Energies.{EnergiesIn, each_in, energies_finite, state_lengths, tested}

-- what the first test says
pub record Right (n : ℕ) (x rho table : List Float) : Type 0 where
  pub low : 1 ≤ n
  pub high : n ≤ side
  pub fractions : length x ≡ n
  pub densities : length rho ≡ n
  pub places : length table ≡ 4 * sheet

pub right : (n : ℕ) (x rho table : List Float) → state_lengths n x rho table ≡ true → Right n x rho table
unfolding state_lengths
right n x rho table p =
    let a = count_within n in
    let b = eqb (length x) n in
    let c = eqb (length rho) n in
    let d = eqb (length table) (4 * sheet) in
    let q = (and_parts (a && b && c) d p).0 in
    let r = (and_parts (a && b) c q).0 in
    record {
      low = count_low n (and_parts a b r).0;
      high = count_high n (and_parts a b r).0;
      fractions = eqb-true (length x) n (and_parts a b r).1;
      densities = eqb-true (length rho) n (and_parts (a && b) c q).1;
      places = eqb-true (length table) (4 * sheet) (and_parts (a && b && c) d p).1;
    }

module _ (A : Arith) (s : SaftVRQMiePars) (t : Float) (x rho table : List Float) (run : Ans (EnergiesIn A.Num)) where
  abbrev outcome : Ans (EnergiesIn A.Num)
  outcome = tested A s t x rho table run

  pub refuses_1 : state_lengths s.count x rho table ≡ false → refused 1 ≡ outcome
  unfolding demand ◌>>=◌
  refuses_1 p = rw p

  module _ (p : state_lengths s.count x rho table ≡ true) where
    pub refuses_2 : state_within s.count t x rho ≡ false → refused 2 ≡ outcome
    unfolding demand ◌>>=◌
    refuses_2 q = rw (p, q)

    module _ (q : state_within s.count t x rho ≡ true) where
      pub stops : (k : ℕ) → run ≡ refused k → refused k ≡ outcome
      unfolding demand ◌>>=◌
      stops k h = rw (p, q, h)

      module _ (found : EnergiesIn A.Num) (is-found : run ≡ held found) where
        pub refuses_7 : energies_finite (each_in A.val found) ≡ false → refused 7 ≡ outcome
        unfolding demand ◌>>=◌
        refuses_7 h = rw (p, q, is-found, h)

        pub holds : energies_finite (each_in A.val found) ≡ true → held found ≡ outcome
        unfolding demand ◌>>=◌
        holds h = rw (p, q, is-found, h)
