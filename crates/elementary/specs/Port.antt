-- What the port's elementary functions answer, as the formulas take it.
use Rattle.number.specs.Functions.{Answers}
use Rattle.root.specs.Root.{root}
use Rattle.logarithm.specs.Logarithm.{ln_of, ln1p_of}
use Rattle.exponential.specs.Exp.{exp_of}
use Rattle.exponential.specs.ExpM1.{exp_m1_of}
use Rattle.exponential.specs.Tanh.{tanh_of}
use Rattle.power.specs.Power.{powf_of}

abbrev pub port : Answers
port = record { sqrt = root; ln = ln_of; ln1p = ln1p_of; exp = exp_of; expm1 = exp_m1_of; tanh = tanh_of; powf = powf_of }
