-- `desk_calls::serve` meets its contract. Assumes nothing.
use Rattle.desk_calls.proofs.Ways.{serve_1, serve_refused, serve_held, filled_idle, filled_worked, slip_is}
use Rattle.number.proofs.Walk.{via}
use Rattle.desk.specs.Desk.{desk_answer}
use borrow.Author.Tests.{eq-eqb, ne_eqb}
use mathlib.Core.Path.{refl}
use Rattle.desk_calls.proofs.serve.Goals as goal

pub returns-then-out-ne3 : goal.returns-then-out-ne3
returns-then-out-ne3 c = rw c.code.ensures (serve_1 _ (ne_eqb _ _ c.if-out-ne3.true))

pub returns-in-Err : goal.returns-in-Err
returns-in-Err c = rw c.code-in-Err.ensures (serve_refused _ (eq-eqb _ _ c.if-out-ne3.false) _ _ (via desk_answer c.serve-answer.ensures.0 c.in-Err.is) c.serve-answer.ensures.1)

pub returns-in-Idle : goal.returns-in-Idle
returns-in-Idle c = serve_held _ (eq-eqb _ _ c.if-out-ne3.false) _ _ _ (rw c.in-Idle.is at (via desk_answer c.serve-answer.ensures.0 c.in-Ok.is)) c.serve-answer.ensures.1 (filled_idle _)

pub returns-in-Worked : goal.returns-in-Worked
returns-in-Worked c = serve_held _ (eq-eqb _ _ c.if-out-ne3.false) _ _ _ (rw c.in-Worked.is at (via desk_answer c.serve-answer.ensures.0 c.in-Ok.is)) c.serve-answer.ensures.1 (filled_worked _)

pub returns-in-Finished : goal.returns-in-Finished
returns-in-Finished c = serve_held _ (eq-eqb _ _ c.if-out-ne3.false) _ _ _ (rw c.in-Finished.is at (via desk_answer c.serve-answer.ensures.0 c.in-Ok.is)) c.serve-answer.ensures.1 (slip_is _ _ _ _ _ _ refl c.hand_out.ensures.0 c.hand_out.ensures.1)
