-- `domthelv::quantum::domthelv_vrq_radii` meets its contract. Assumes nothing.
use Rattle.domthelv.proofs.Operations.{radii_lengths_told, radii_1, radii_is, bind_refused, bind_held, refused_status, refused_stored, held_status, held_stored}
use Rattle.saftvrqmie.specs.Pairs.{searches_answer}
use Rattle.number.proofs.Walk.{told, via}
use mathlib.Core.Path.{ap, ◌∙◌}
use Rattle.saftvrqmie.specs.Table.{Lent}
use Rattle.domthelv.proofs.quantum.domthelv_vrq_radii.Goals as goal

pub returns-then-not-radii_lengths : goal.returns-then-not-radii_lengths
returns-then-not-radii_lengths c = let q = radii_1 _ _ _ _ _ (told c.radii_lengths.ensures c.if-not-radii_lengths.true) in (refused_status _ _ _ c.code.ensures q, ap (λ (l : Lent). l.values) (refused_stored _ _ _ q), ap (λ (l : Lent). l.numbers) (refused_stored _ _ _ q))

pub write_searches-requires : goal.write_searches-requires
write_searches-requires c = radii_lengths_told _ (told c.radii_lengths.ensures c.if-not-radii_lengths.false)

pub returns-in-Err : goal.returns-in-Err
returns-in-Err c = let q = radii_is _ _ _ _ _ (told c.radii_lengths.ensures c.if-not-radii_lengths.false) ∙ bind_refused _ _ _ (via searches_answer c.radii.ensures c.in-Err.is) in (refused_status _ _ _ c.code-in-Err.ensures q, ap (λ (l : Lent). l.values) (refused_stored _ _ _ q), ap (λ (l : Lent). l.numbers) (refused_stored _ _ _ q))

pub returns-in-Ok : goal.returns-in-Ok
returns-in-Ok c = let q = radii_is _ _ _ _ _ (told c.radii_lengths.ensures c.if-not-radii_lengths.false) ∙ bind_held _ _ _ (via searches_answer c.radii.ensures c.in-Ok.is) in (held_status _ _ q, ap (λ (l : Lent). l.values) (c.write_searches.ensures ∙ held_stored _ _ _ q), ap (λ (l : Lent). l.numbers) (c.write_searches.ensures ∙ held_stored _ _ _ q))
