-- `enclosure::Enclosure::point` meets its contract. Assumes nothing.
use Rattle.enclosure.specs.Enclosure.{point}
use Rattle.enclosure.proofs.Enclosure.point.Goals as goal

pub returns : goal.returns
unfolding point
returns c =
    rw
    c.point.ensures
