use Rattle.std.proofs.Common.{rules, arith, ◌≡◌, from_bits}
use Rattle.std.specs.Float.{binary64, nan}
use Rattle.records.specs.Words.{word_at}
use Rattle.records.proofs.Built.{built}
use Rattle.records.proofs.floats.Goals as goal

pub returns : goal.returns
returns g c = λ k h. built _ (λ i y. y ≡ from_bits binary64 (word_at c.args.bytes.now i)) _ (λ i y q e. search rules) _ 0 _ c.from_fn.ensures.items.each k k nan (omega arith) h
