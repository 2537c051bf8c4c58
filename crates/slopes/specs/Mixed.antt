-- Plain numbers beside numbers with a slope, as the Rust has f64 beside D: the arithmetic at which the quantum chain has slopes (document 02, Slip 1).
use Rattle.std.specs.Prelude.{ℕ, Float}
use Rattle.number.specs.Arith.{Arith, floats, nearest}
use Rattle.dual.specs.Dual.{DualOf, plain_d, add_d, sub_d, mul_d, div_d, neg_d, pow_d, down_d}

pub data Mixed : Type 0 where
  plain : Float → Mixed
  sloped : DualOf Float → Mixed

-- taken as a D: 'a plain number .. has slope +0'
abbrev pub as_dual : Mixed → DualOf Float
as_dual (plain x) = plain_d floats x
as_dual (sloped x) = x

-- plain numbers stay plain; beside a D a plain number is taken as one, and document 01's rules apply
abbrev pub on_mixed : (Float → Float → Float) → (DualOf Float → DualOf Float → DualOf Float) → Mixed → Mixed → Mixed
on_mixed f g (plain x) (plain y) = plain (f x y)
on_mixed f g (plain x) (sloped y) = sloped (g (plain_d floats x) y)
on_mixed f g (sloped x) (plain y) = sloped (g x (plain_d floats y))
on_mixed f g (sloped x) (sloped y) = sloped (g x y)

abbrev pub neg_m : Mixed → Mixed
neg_m (plain x) = plain (floats.neg x)
neg_m (sloped x) = sloped (neg_d floats x)

abbrev pub pow_m : Mixed → ℕ → Mixed
pow_m (plain x) n = plain (floats.pow x n)
pow_m (sloped x) n = sloped (pow_d floats x n)

abbrev pub down_m : Mixed → ℕ → Mixed
down_m (plain x) n = plain (floats.pow_down x n)
down_m (sloped x) n = sloped (down_d floats x n)

abbrev pub value_of : Mixed → Float
value_of (plain x) = x
value_of (sloped x) = x.re

-- a number of the source or of a set is plain; branches look at the value alone
abbrev pub mixed : Arith
mixed =
    record {
      Num = Mixed;
      add = on_mixed floats.add (add_d floats);
      sub = on_mixed floats.sub (sub_d floats);
      mul = on_mixed floats.mul (mul_d floats);
      div = on_mixed floats.div (div_d floats);
      neg = neg_m;
      pow = pow_m;
      pow_down = down_m;
      lit = plain;
      constant = λ c. plain (nearest c);
      val = value_of;
      after = λ u x. x;
    }

-- in the energies the Rust negates D's alone, D::one() among them: there a negated number is a D
abbrev pub neg_one : Mixed → Mixed
neg_one x = sloped (neg_d floats (as_dual x))

-- the arithmetic of the energies
abbrev pub mixed_one : Arith
mixed_one =
    record {
      Num = Mixed;
      add = mixed.add;
      sub = mixed.sub;
      mul = mixed.mul;
      div = mixed.div;
      neg = neg_one;
      pow = mixed.pow;
      pow_down = mixed.pow_down;
      lit = mixed.lit;
      constant = mixed.constant;
      val = mixed.val;
      after = mixed.after;
    }
