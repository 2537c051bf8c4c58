use Rattle.set_lists.specs.Written.{MieLent}
use Rattle.number.specs.Answer.{answer}
use Rattle.domthelv.proofs.Operations.{mie_parameters_1, mie_parameters_refused, mie_parameters_held, refused_status, refused_stored, held_status, held_stored}
use Rattle.number.proofs.Walk.{told, via}
use mathlib.Core.Path.{ap, ◌∙◌}
use Rattle.domthelv.proofs.mie.domthelv_vr_parameters.Goals as goal

-- src/mie.rt:45:9
pub returns-then-not-mie_lengths : goal.returns-then-not-mie_lengths
returns-then-not-mie_lengths c = let q = mie_parameters_1 _ _ (told c.mie_lengths.ensures c.if-not-mie_lengths.true) in (refused_status _ _ _ c.code.ensures q, ap (λ (l : MieLent). l.lists) (refused_stored _ _ _ q), ap (λ (l : MieLent). l.sheets) (refused_stored _ _ _ q))

-- src/mie.rt:59:9
pub returns-in-Err : goal.returns-in-Err
returns-in-Err c = let q = (mie_parameters_refused _ _ _ (told c.mie_lengths.ensures c.if-not-mie_lengths.false) (via answer c.saft_vr_mie_pars.ensures c.in-Err.is)) in (refused_status _ _ _ c.code-in-Err.ensures q, ap (λ (l : MieLent). l.lists) (refused_stored _ _ _ q), ap (λ (l : MieLent). l.sheets) (refused_stored _ _ _ q))

-- src/mie.rt:62:5
pub write_mie-requires : goal.write_mie-requires
write_mie-requires c = (told c.mie_lengths.ensures c.if-not-mie_lengths.false)

-- src/mie.rt:15:1
pub returns-in-Ok : goal.returns-in-Ok
returns-in-Ok c = let q = (mie_parameters_held _ _ _ (told c.mie_lengths.ensures c.if-not-mie_lengths.false) (via answer c.saft_vr_mie_pars.ensures c.in-Ok.is)) in (held_status _ _ q, c.write_mie.ensures.0 ∙ ap (λ (l : MieLent). l.lists) (held_stored _ _ _ q), c.write_mie.ensures.1 ∙ ap (λ (l : MieLent). l.sheets) (held_stored _ _ _ q))
