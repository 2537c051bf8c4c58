-- From a card to the parameters of either model: 'A card that reads well goes on to the parameters with their own refusals.'
use Rattle.std.specs.Prelude.{ℕ, eqb, Float, Bool, ◌&&◌, cond, List}
use Rattle.number.specs.Ans.{Ans, held, ◌>>=◌, demand}
use Rattle.saftvrqmie_parameters.specs.Parameters as Quantum
use Rattle.saftvrmie_parameters.specs.Parameters as Mie
use Rattle.set_lists.specs.Sets.{quantum_lengths, mie_lengths}
use Rattle.set_lists.specs.Written.{QuantumLent, MieLent, set_written, mie_written}
use Rattle.card.specs.Card.{Card, Form, read_card}
use Rattle.card_lists.specs.Lists.{quantum_lists, mie_lists}

-- what a call lends: the model (0 quantum, 1 SAFT-VR Mie) and the count that it is told, and the lists of a set of either model
pub record CardLent : Type 0 where
  pub model : ℕ
  pub count : ℕ
  pub m : List Float
  pub lists : List Float
  pub sheets : List Float
  pub orders : List ℕ

-- 1, first of all: a list of either set has another length
unfoldable pub card_lengths : List Float → List Float → List Float → List ℕ → Bool
card_lengths m lists sheets orders = quantum_lengths m sheets orders && mie_lengths lists sheets

unfoldable pub quantum_stored : Card → QuantumLent → Ans QuantumLent
quantum_stored c l = Quantum.saft_vrq_mie_pars (quantum_lists c) >>= λ s. held (set_written s l)

unfoldable pub mie_stored : Card → MieLent → Ans MieLent
mie_stored c l = Mie.saft_vr_mie_pars (mie_lists c) >>= λ s. held (mie_written s l)

-- the set in the lists of its model; those of the other keep their bits
unfoldable pub card_stored : Card → CardLent → Ans CardLent
card_stored c l =
    cond (eqb c.kind 0)
    (quantum_stored c (record { m = l.m; sheets = l.sheets; orders = l.orders }) >>= λ w. held (record { model = 0; count = c.count; m = w.m; lists = l.lists; sheets = w.sheets; orders = w.orders }))
    (mie_stored c (record { lists = l.lists; sheets = l.sheets }) >>= λ w. held (record { model = 1; count = c.count; m = l.m; lists = w.lists; sheets = w.sheets; orders = l.orders }))

unfoldable pub card_parameters : Form → List ℕ → CardLent → Ans CardLent
card_parameters f card l =
    demand 1 (card_lengths l.m l.lists l.sheets l.orders) >>= λ _.
    read_card f card >>= λ c.
    card_stored c l
