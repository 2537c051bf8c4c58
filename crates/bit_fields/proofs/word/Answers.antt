-- `bit_fields::word` meets its contract. Assumes nothing.
use native.Mathlib.Omega.{arith}
use lib.ListN.{get_or, take, drop}
use mathlib.Core.List.{[]}
use mathlib.Core.Path.{◌≡◌, ap, ◌∙◌}
use Rattle.std.specs.Int.{w64, from_be_bytes}
use Rattle.bit_fields.proofs.Bytes.{word_is, run_from}
use Rattle.bit_fields.proofs.word.Goals as goal

pub returns : goal.returns
returns c =
    let run : get_or c.as_chunks.result.0.now 0 [] ≡ take 8 (drop c.args.q c.args.l.now) = rw c.as_chunks.ensures.front (run_from c.args.l.now [] c.args.q c.requires) in
    c.from_be_bytes.ensures ∙ ap (from_be_bytes w64) run ∙ word_is c.args.l.now (λ i. omega (arith, c.shared_slice_known-1.given i)) c.args.q c.requires
