use Rattle.std.proofs.Common.{rules, arith, ◌/◌, length, []}
use Rattle.records.proofs.Chunks.{at_first_chunks}
use Rattle.records.proofs.word.Goals as goal

pub returns : goal.returns
returns c =
    let e = at_first_chunks 8 c.args.k (length c.args.bytes.now / 8) c.args.bytes.now [] (omega (arith, c.requires)) in
    search rules
