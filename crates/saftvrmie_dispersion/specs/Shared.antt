-- A pair's formulas from what the code works once: of an exponent, and of alpha. The contracts of helpers alone; that these are the formulas is shown in proofs/Shared.
use Rattle.number.specs.Ans.{Ans}
use Rattle.number.specs.Arith.{Arith, whole}
use Rattle.number.specs.Functions.{Functions}
use Rattle.saftvrmie_dispersion.specs.Sutherland.{FluidIn, c_row, zeta_eff_from, a1s_from, i_from, j_from, b_of}
use Rattle.mie_parameters.specs.Tables.{phi0, phi1, phi2, phi3, phi4, phi5, c0, c1, c2, c3}
use Rattle.saftvrmie_dispersion.specs.Terms.{BarIn, f, xi_from, a3_from}
use Rattle.saftvrmie_dispersion.specs.declared.Lambda.{Lambda}
use Rattle.saftvrmie_dispersion.specs.declared.Six.{Six}

abbrev pub lambda_by : {S N : Type 0} → (S → N) → Lambda S → Lambda N
lambda_by of s = record { l3 = of s.l3; l4 = of s.l4; c0 = of s.c0; c1 = of s.c1; c2 = of s.c2; c3 = of s.c3 }

abbrev pub six_by : {S N : Type 0} → (S → N) → Six S → Six N
six_by of s = record { f0 = of s.f0; f1 = of s.f1; f2 = of s.f2; f3 = of s.f3; f4 = of s.f4; f5 = of s.f5 }

module _ (A : Arith) where
  open A use {Num, sub as ◌⊖◌, mul as ◌⊗◌, div as ◌⊘◌}

  infixl 60 ◌⊖◌
  infixl 70 ◌⊗◌
  infixl 70 ◌⊘◌
  unfoldable pub lambda_of : Num → Lambda Num
  lambda_of lambda =
      let li = whole A 1 ⊘ lambda in
      let li2 = li ⊗ li in
      let li3 = li ⊗ li2 in
      record {
        l3 = lambda ⊖ whole A 3;
        l4 = lambda ⊖ whole A 4;
        c0 = c_row A li li2 li3 c0;
        c1 = c_row A li li2 li3 c1;
        c2 = c_row A li li2 li3 c2;
        c3 = c_row A li li2 li3 c3;
      }

  unfoldable pub six_of : Num → Six Num
  six_of alpha =
      record {
        f0 = f A phi0 alpha;
        f1 = f A phi1 alpha;
        f2 = f A phi2 alpha;
        f3 = f A phi3 alpha;
        f4 = f A phi4 alpha;
        f5 = f A phi5 alpha;
      }

  unfoldable pub xi_by : BarIn Num → Six Num → Num
  xi_by bar of = xi_from A bar of.f0 of.f1 of.f2

  unfoldable pub a3_by : Functions Num → Num → Six Num → Num → Ans Num
  a3_by F zeta_x_bar of eps-k = a3_from A F zeta_x_bar of.f3 of.f4 of.f5 eps-k

-- the Sutherland sums, in the plain arithmetic or in dual numbers
module _ (A D : Arith) (plain : A.Num → D.Num) where
  open D use {Num, add as ◌⊕◌, mul as ◌⊗◌}

  infixl 60 ◌⊕◌
  infixl 70 ◌⊗◌
  unfoldable pub zeta_eff_by : Num → Lambda A.Num → Num
  zeta_eff_by zeta of = zeta_eff_from A D plain zeta of.c0 of.c1 of.c2 of.c3

  unfoldable pub a1s_by : Num → Lambda A.Num → Num
  a1s_by zeta_x of = a1s_from A D plain (zeta_eff_by zeta_x of) of.l3

  unfoldable pub i_by : Num → A.Num → Num
  i_by x0-3ml l3 = i_from A D plain x0-3ml l3

  unfoldable pub j_by : Num → Num → A.Num → A.Num → Num
  j_by x0-4ml x0-3ml l3 l4 = j_from A D plain x0-4ml x0-3ml l3 l4

  unfoldable pub a1s_b_by : FluidIn Num → Lambda A.Num → A.Num → A.Num → A.Num → Num
  a1s_b_by w of p p3 p4 =
      plain p ⊗ (a1s_by w.zeta_x of ⊕ b_of A D plain w (i_by (plain p3) of.l3) (j_by (plain p4) (plain p3) of.l3 of.l4))
