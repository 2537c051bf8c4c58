-- One operation again and again, in floats and in intervals: what the benchmark times.
use Rattle.std.specs.Prelude.{ℕ, Float, cond, eqb}
use Rattle.std.specs.Float.{binary64}
use Rattle.std.specs.Float.Ieee.{add, sub, mul, div}
use Rattle.number.specs.Walk.{turns}
use Rattle.interval.specs.declared.Interval.{Interval}
use Rattle.interval.specs.Interval.{point, add_i, sub_i, mul_i, div_i}
use Rattle.interval_bench.specs.declared.Operation.{Operation}
use Rattle.interval_bench.specs.declared.Operation.TheVariants.{Sum, Difference, Product, Quotient}

-- 0 is a sum, 1 a difference, 2 a product, all else a quotient
abbrev pub operation_of : ℕ → Operation
operation_of n = cond (eqb n 0) Sum (cond (eqb n 1) Difference (cond (eqb n 2) Product Quotient))

abbrev pub float_step : Operation → Float → Float → Float
float_step Sum x y = add binary64 x y
float_step Difference x y = sub binary64 x y
float_step Product x y = mul binary64 x y
float_step Quotient x y = div binary64 x y

abbrev pub interval_step : Operation → Interval → Interval → Interval
interval_step Sum x y = add_i x y
interval_step Difference x y = sub_i x y
interval_step Product x y = mul_i x y
interval_step Quotient x y = div_i x y

abbrev pub float_repeat : ℕ → Float → Float → ℕ → Float
float_repeat op x y n = turns n (λ i s. float_step (operation_of op) s y) x

abbrev pub interval_repeat : ℕ → Float → Float → ℕ → Interval
interval_repeat op x y n = turns n (λ i s. interval_step (operation_of op) s (point y)) (point x)
