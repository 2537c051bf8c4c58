-- What the test for 1 says. Assumes nothing.
use Prim.Native.Nat.{ℕ, ◌≤◌}
use lib.Dec.{eqb}
use lib.ListN.{length}
use mathlib.Core.Path.{◌≡◌}
use mathlib.Core.Bool.{true, ◌&&◌}
use borrow.Author.Tests.{eqb-true}
use Rattle.std.proofs.lemmas.Bool.{and_parts}
use Rattle.sizes.specs.Sizes.{side}
use Rattle.limits.specs.Limits.{count_within}
use Rattle.mie_parameters.proofs.Laws.{count_low, count_high}
use Rattle.slopes_lists.specs.Lists.{SlopedList, SlopedState, right_lengths, sloped_lengths}

pub record Long (n : ℕ) (l : SlopedList) : Type 0 where
  pub values : length l.values ≡ n
  pub slopes : length l.slopes ≡ n

long : (n : ℕ) (l : SlopedList) → right_lengths n l ≡ true → Long n l
unfolding right_lengths
long n l p =
    let a = eqb (length l.values) n in
    let b = eqb (length l.slopes) n in
    record { values = eqb-true (length l.values) n (and_parts a b p).0; slopes = eqb-true (length l.slopes) n (and_parts a b p).1 }

pub record Right (n : ℕ) (q : SlopedState) : Type 0 where
  pub within : count_within n ≡ true
  pub low : 1 ≤ n
  pub high : n ≤ side
  pub fractions : Long n q.fractions
  pub densities : Long n q.densities

pub right : (n : ℕ) (q : SlopedState) → sloped_lengths n q ≡ true → Right n q
unfolding sloped_lengths
right n q p =
    let a = count_within n in
    let b = right_lengths n q.fractions in
    let c = right_lengths n q.densities in
    let r = (and_parts (a && b) c p).0 in
    let w = (and_parts a b r).0 in
    record { within = w; low = count_low n w; high = count_high n w; fractions = long n q.fractions (and_parts a b r).1; densities = long n q.densities (and_parts (a && b) c p).1 }
