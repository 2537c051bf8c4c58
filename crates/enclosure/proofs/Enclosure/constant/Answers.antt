-- `enclosure::Enclosure::constant` meets its contract. Assumes nothing.
use Rattle.enclosure.proofs.Entries.{made}
use Rattle.enclosure.proofs.Enclosure.constant.Goals as goal

pub returns : goal.returns
returns c k r = made k c.args.e r
