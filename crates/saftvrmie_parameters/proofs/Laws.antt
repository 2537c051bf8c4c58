-- Laws over plain values, cited at the returns. Assumes nothing.
use Prim.Native.Nat.{ℕ, ◌*◌, ◌≤◌}
use mathlib.Core.Path.{◌≡◌}
use mathlib.Core.Bool.{true, false, ◌&&◌}
use lib.Dec.{eqb}
use lib.ListN.{length}
use lib.Ieee.{Float}
use mathlib.Core.List.{List}
use borrow.Author.Tests.{eqb-true}
use Rattle.std.proofs.lemmas.Bool.{and_parts}
use Rattle.number.specs.Ans.{Ans, held, refused, ◌>>=◌, demand}
use Rattle.number.specs.Arith.{floats}
use Rattle.number.specs.Lists.{at}
use Rattle.sizes.specs.Sizes.{side}
use Rattle.limits.specs.Limits.{square, count_within}
use Rattle.mie_parameters.specs.Places.{in_places}
use Rattle.mie_parameters.proofs.Laws.{count_low, count_high}
use Rattle.saftvrmie_parameters.specs.Parameters.{Lists, Fitting, sheets_of, right_lengths, within_in, component_of, saft_vr_mie_pars}

-- what right lengths say
pub record Right (l : Lists) : Type 0 where
  pub low : 1 ≤ l.count
  pub high : l.count ≤ side
  pub m : length l.m ≡ l.count
  pub sigma : length l.sigma ≡ l.count
  pub epsilon_k : length l.epsilon_k ≡ l.count
  pub lr : length l.lr ≡ l.count
  pub la : length l.la ≡ l.count
  pub k_ij : length l.k_ij ≡ l.count * l.count
  pub gamma_ij : length l.gamma_ij ≡ l.count * l.count

pub lengths : (l : Lists) → right_lengths l ≡ true → Right l
unfolding right_lengths
lengths l p7 =
    let n = l.count in
    let c0 = count_within n in
    let e1 = eqb (length l.m) n in
    let c1 = c0 && e1 in
    let e2 = eqb (length l.sigma) n in
    let c2 = c1 && e2 in
    let e3 = eqb (length l.epsilon_k) n in
    let c3 = c2 && e3 in
    let e4 = eqb (length l.lr) n in
    let c4 = c3 && e4 in
    let e5 = eqb (length l.la) n in
    let c5 = c4 && e5 in
    let e6 = eqb (length l.k_ij) (n * n) in
    let c6 = c5 && e6 in
    let e7 = eqb (length l.gamma_ij) (n * n) in
    let p6 = (and_parts c6 e7 p7).0 in
    let p5 = (and_parts c5 e6 p6).0 in
    let p4 = (and_parts c4 e5 p5).0 in
    let p3 = (and_parts c3 e4 p4).0 in
    let p2 = (and_parts c2 e3 p3).0 in
    let p1 = (and_parts c1 e2 p2).0 in
    let p0 = (and_parts c0 e1 p1).0 in
    record {
      low = count_low n p0;
      high = count_high n p0;
      m = eqb-true (length l.m) n (and_parts c0 e1 p1).1;
      sigma = eqb-true (length l.sigma) n (and_parts c1 e2 p2).1;
      epsilon_k = eqb-true (length l.epsilon_k) n (and_parts c2 e3 p3).1;
      lr = eqb-true (length l.lr) n (and_parts c3 e4 p4).1;
      la = eqb-true (length l.la) n (and_parts c4 e5 p5).1;
      k_ij = eqb-true (length l.k_ij) (n * n) (and_parts c5 e6 p6).1;
      gamma_ij = eqb-true (length l.gamma_ij) (n * n) (and_parts c6 e7 p7).1;
    }

pub fitting : (l : Lists) → right_lengths l ≡ true → Fitting l
fitting l p = let h = lengths l p in (h.high, h.sigma, h.epsilon_k, h.lr, h.la, h.k_ij, h.gamma_ij)

-- the operation, test by test
abbrev pub sheets_in : Lists → Ans (List Float)
sheets_in l = sheets_of l.count (component_of l) (square l.count l.k_ij) (square l.count l.gamma_ij)

module _ (l : Lists) where
  pub refuses_1 : right_lengths l ≡ false → saft_vr_mie_pars l ≡ refused 1
  unfolding saft_vr_mie_pars demand ◌>>=◌
  refuses_1 p = rw p

  pub refuses_2 : right_lengths l ≡ true → within_in l ≡ false → saft_vr_mie_pars l ≡ refused 2
  unfolding saft_vr_mie_pars demand ◌>>=◌
  refuses_2 p q = rw (p, q)

  pub refuses_6 : (k : ℕ) → right_lengths l ≡ true → within_in l ≡ true → sheets_in l ≡ refused k → saft_vr_mie_pars l ≡ refused k
  unfolding saft_vr_mie_pars demand ◌>>=◌
  refuses_6 k p q t = rw (p, q, t)

  pub holds : (x m s e r a : List Float) → right_lengths l ≡ true → within_in l ≡ true → sheets_in l ≡ held x
      → m ≡ in_places floats l.count (at l.m) → s ≡ in_places floats l.count (at l.sigma) → e ≡ in_places floats l.count (at l.epsilon_k) → r ≡ in_places floats l.count (at l.lr) → a ≡ in_places floats l.count (at l.la)
      → held (record { count = l.count; m = m; sigma = s; epsilon_k = e; lr = r; la = a; sheets = x }) ≡ saft_vr_mie_pars l
  unfolding saft_vr_mie_pars demand ◌>>=◌
  holds x m s e r a p q t u v w y z = rw (p, q, t, u, v, w, y, z)
