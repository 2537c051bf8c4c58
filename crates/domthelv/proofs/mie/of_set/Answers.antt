-- `domthelv::mie::of_set` meets its contract. Assumes nothing.
use Rattle.set_lists.proofs.Sets.{mie_1, mie_holds}
use Rattle.number.proofs.Walk.{told}
use borrow.Author.Rules.{rules}
use mathlib.Core.Path.{refl}
use Rattle.domthelv.proofs.mie.of_set.Goals as goal

pub returns-then-not-mie_lengths : goal.returns-then-not-mie_lengths
returns-then-not-mie_lengths g c = rw (mie_1 (record { count = c.args.count; lists = c.args.lists.now; sheets = c.args.sheets.now }) (told c.mie_lengths.ensures c.if-not-mie_lengths.true)) refl

pub mie_set-requires : goal.mie_set-requires
mie_set-requires g c = told c.mie_lengths.ensures c.if-not-mie_lengths.false

pub returns : goal.returns
returns g c = rw (mie_holds (record { count = c.args.count; lists = c.args.lists.now; sheets = c.args.sheets.now }) (told c.mie_lengths.ensures c.if-not-mie_lengths.false)) (search rules)
