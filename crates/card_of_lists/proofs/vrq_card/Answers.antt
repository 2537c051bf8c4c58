-- `card_of_lists::vrq_card` meets its contract. Assumes nothing.
use mathlib.Core.Path.{ap}
use Rattle.card_writer.specs.Writing.{CardRoom}
use Rattle.card_writer.proofs.Stored.{refused_verdict, refused_stored}
use Rattle.saftvrqmie_parameters.specs.Parameters.{lists_of}
use Rattle.card_of_lists.proofs.Written.{passed_on, vrq_stops, vrq_lengths, vrq_goes}
use Rattle.number.proofs.Walk.{handed_on}
use Rattle.card_of_lists.proofs.vrq_card.Goals as goal

pub returns-in_err-passed : goal.returns-in_err-passed
returns-in_err-passed c =
    let r : CardRoom = record { card = c.args.card.now; length = c.args.told.now } in
    let s = vrq_stops (lists_of c.args.l.now) r _ (passed_on _ _ _ _ c.saft_vrq_mie_pars.ensures c.err.ensures.value c.passed.ensures) _ c.in_err-passed.was in
    rw (handed_on _ c.from_residual.ensures) (refused_verdict r _ _ s, ap (λ (x : CardRoom). x.card) (refused_stored r _ _ s), ap (λ (x : CardRoom). x.length) (refused_stored r _ _ s))

pub quantum_components-requires : goal.quantum_components-requires
quantum_components-requires c =
    let h = vrq_lengths (lists_of c.args.l.now) (record { card = c.args.card.now; length = c.args.told.now }) _ (passed_on _ _ _ _ c.saft_vrq_mie_pars.ensures c.err.ensures.value c.passed.ensures) c.in_ok-passed.was in
    (h.fh, (h.most, h.sigma, h.epsilon_k, h.lr, h.la, h.mass, h.k_ij, h.l_ij))

pub stored-requires : goal.stored-requires
stored-requires c =
    let h = vrq_lengths (lists_of c.args.l.now) (record { card = c.args.card.now; length = c.args.told.now }) _ (passed_on _ _ _ _ c.saft_vrq_mie_pars.ensures c.err.ensures.value c.passed.ensures) c.in_ok-passed.was in
    (h.some, (h.most, h.k_ij, h.l_ij))

pub returns : goal.returns
returns c =
    let g = vrq_goes (lists_of c.args.l.now) (record { card = c.args.card.now; length = c.args.told.now }) _ (passed_on _ _ _ _ c.saft_vrq_mie_pars.ensures c.err.ensures.value c.passed.ensures) c.in_ok-passed.was _ c.quantum_components.ensures in
    (rw g at c.stored.ensures.0, rw g at c.stored.ensures.1, rw g at c.stored.ensures.2)
