-- `interval::Interval::point` meets its contract. Assumes nothing.
use Rattle.interval.proofs.Points.{point_is}
use Rattle.interval.proofs.Interval.point.Goals as goal

pub returns : goal.returns
returns c = point_is _ _ c.is_finite.ensures c.well_formed.0.1
