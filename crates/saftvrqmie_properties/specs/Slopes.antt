-- `TemperatureDependentProperties::new` of saftvrqmie/eos/mod.rs at D, at one pair: the definition read where every number is a D, over the potential with slopes.
use Rattle.std.specs.Prelude.{Float}
use Rattle.number.specs.Ans.{Ans}
use Rattle.number.specs.Arith.{floats}
use Rattle.number.specs.Functions.{Answers}
use Rattle.dual.specs.Dual.{DualOf, plain_d, duals}
use Rattle.slopes.specs.Rules.{dual_functions}
use Rattle.saftvrqmie_potential.specs.Potential.{PairIn, FloatPair}
use Rattle.saftvrqmie_potential.specs.Slopes.{potential_slope}
use Rattle.saftvrqmie_properties.specs.Properties.{PairPropertiesIn, properties_by}

-- a pair where the Rust takes its numbers as D's: D::one() * sigma, and D's divided by the mass
abbrev pub dual_pair : FloatPair → DualOf Float → PairIn (DualOf Float)
dual_pair p t =
    record {
      sigma = plain_d floats p.sigma;
      epsilon_k = plain_d floats p.epsilon_k;
      c = plain_d floats p.c;
      lr = plain_d floats p.lr;
      la = plain_d floats p.la;
      mass = plain_d floats p.mass;
      order = p.order;
      temperature = t;
    }

-- the properties of a pair at a temperature
unfoldable pub properties_slope : Answers → FloatPair → DualOf Float → Ans (PairPropertiesIn (DualOf Float))
properties_slope E p t = properties_by (duals floats) (dual_functions E) (dual_pair p t) (potential_slope E p t)
