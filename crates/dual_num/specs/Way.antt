-- The two arithmetics of the runs with slopes as one: where a number is negated it is a D (true: in the energies), or stays plain (false: in the potential).
use Rattle.std.specs.Prelude.{Bool, cond}
use Rattle.number.specs.Arith.{Arith}
use Rattle.slopes.specs.Mixed.{Mixed, mixed, neg_m, neg_one}

abbrev pub mixed_way : Bool → Arith
mixed_way w =
    record {
      Num = Mixed;
      add = mixed.add;
      sub = mixed.sub;
      mul = mixed.mul;
      div = mixed.div;
      neg = cond w neg_one neg_m;
      pow = mixed.pow;
      pow_down = mixed.pow_down;
      lit = mixed.lit;
      constant = mixed.constant;
      val = mixed.val;
      after = mixed.after;
    }
