-- `desk::seek` meets its contract. Assumes nothing.
use Rattle.std.proofs.Common.{rules, refl, arith, true, false, ◌-◌}
use mathlib.Core.Path.{sym}
use Rattle.std.proofs.lemmas.Iterator.{YieldsList-from_range, first_from_find}
use Rattle.std.proofs.lemmas.Iterator.Consumers.{YieldsList-from_chain}
use Rattle.std.proofs.lemmas.Iterator.Adapters.{serves_from_places}
use Rattle.round_robin.specs.Desk.{places}
use Rattle.desk.proofs.Round.{Suits, Fails, found_round, in_round}
use Rattle.desk.proofs.seek.Goals as goal

pub find-requires-clause-callable : goal.find-requires-clause-callable
find-requires-clause-callable g c =
    serves_from_places (YieldsList-from_chain (YieldsList-from_range c.args.from places (places - c.args.from) c.chain.ensures.first refl) (YieldsList-from_range 0 c.args.from c.args.from c.chain.ensures.second (omega arith)) c.chain.ensures.first_done c.chain.ensures.second_done)
    (λ x q k. search rules)
    (λ x k low e y d. c.requires.suits y.now (rw d (in_round c.args.from k x c.requires.start low e)))

pub returns : goal.returns
returns g c = λ test h.
    found_round test c.args.from _ c.requires.start
    (first_from_find _ _ _ (Suits test) (Fails test) c.find.ensures.ran
    (YieldsList-from_chain (YieldsList-from_range c.args.from places (places - c.args.from) c.chain.ensures.first refl) (YieldsList-from_range 0 c.args.from c.args.from c.chain.ensures.second (omega arith)) c.chain.ensures.first_done c.chain.ensures.second_done)
    (λ x q k. λ s. sym (h x true s (search rules)))
    (λ x q k. (search rules, λ s. sym (h x false s (search rules)))))
