-- `qmie_potential_ij` at D: the potential read where radius and temperature carry a slope and the pair's numbers are plain, as in the Rust.
use Rattle.std.specs.Prelude.{Float}
use Rattle.number.specs.Ans.{Ans, held, ◌>>=◌}
use Rattle.number.specs.Functions.{Answers}
use Rattle.dual.specs.Dual.{DualOf}
use Rattle.slopes.specs.Mixed.{Mixed, plain, sloped, as_dual, mixed}
use Rattle.slopes.specs.Rules.{mixed_functions}
use Rattle.saftvrqmie_potential.specs.Potential.{PairIn, PotentialIn, FloatPair, potential}

-- a pair's numbers are plain; its temperature is the D beside it
abbrev pub mixed_pair : FloatPair → DualOf Float → PairIn Mixed
mixed_pair p t =
    record {
      sigma = plain p.sigma;
      epsilon_k = plain p.epsilon_k;
      c = plain p.c;
      lr = plain p.lr;
      la = plain p.la;
      mass = plain p.mass;
      order = p.order;
      temperature = sloped t;
    }

-- the Rust's [D; 3]
abbrev pub as_duals : PotentialIn Mixed → PotentialIn (DualOf Float)
as_duals v = record { u = as_dual v.u; u_r = as_dual v.u_r; u_rr = as_dual v.u_rr }

-- the potential of a pair at a temperature and a radius, whatever the elementary functions answer
unfoldable pub potential_slope : Answers → FloatPair → DualOf Float → DualOf Float → Ans (PotentialIn (DualOf Float))
potential_slope E p t r = potential mixed (mixed_functions E) (mixed_pair p t) (sloped r) >>= λ v. held (as_duals v)
