-- `desk::submit` meets its contract. Assumes nothing.
use Rattle.desk.proofs.Ways.{submit_1, submit_door, submit_17, submit_at, is_found, is_none, none_told, some_told, found_small, let_in}
use Rattle.number.proofs.Walk.{told, handed_on}
use Rattle.desk.proofs.Shelf.{desk_right}
use native.Mathlib.Omega.{arith}
use mathlib.Core.Path.{refl, sym, ◌∙◌}
use borrow.Author.Rules.{rules}
use Rattle.mie_parameters.proofs.Laws.{count_high}
use mathlib.Core.Bool.{not}
use Rattle.desk.specs.Desk.{query_of, occupied_in}
use Rattle.desk.proofs.submit.Goals as goal

pub returns-then-not-right_desk : goal.returns-then-not-right_desk
returns-then-not-right_desk c = submit_1 (record { floats = c.args.floats.now; bytes = c.args.bytes.now }) (query_of c.args.q.now) (told c.right_desk.ensures c.if-not-right_desk.true)

pub returns-in_err-door : goal.returns-in_err-door
returns-in_err-door c = rw (handed_on _ c.from_residual.ensures) (submit_door (record { floats = c.args.floats.now; bytes = c.args.bytes.now }) (query_of c.args.q.now) (told c.right_desk.ensures c.if-not-right_desk.false) _ c.door.ensures c.in_err-door.was)

pub seek-requires-clause-suits : goal.seek-requires-clause-suits
seek-requires-clause-suits c = λ k i κs r e w n u v. ((desk_right (record { floats = c.args.floats.now; bytes = c.args.bytes.now }) (told c.right_desk.ensures c.if-not-right_desk.false)).bytes, i)

pub returns-in_err-k : goal.returns-in_err-k
returns-in_err-k c =
    let n = none_told _ (sym c.ok_or.ensures.value ∙ c.in_err-k.was) in
    rw (handed_on _ c.from_residual-in_err-k.ensures, n.1) (submit_17 (record { floats = c.args.floats.now; bytes = c.args.bytes.now }) (query_of c.args.q.now) (told c.right_desk.ensures c.if-not-right_desk.false) _ c.door.ensures c.in_ok-door.was _ refl (is_none _ (sym n.0 ∙ c.seek.ensures (λ k. not (occupied_in c.args.bytes.now k)) (λ k b i e. search rules))))

pub enter-requires : goal.enter-requires
enter-requires c =
    let d = let_in (query_of c.args.q.now) _ c.door.ensures c.in_ok-door.was in
    let r = desk_right (record { floats = c.args.floats.now; bytes = c.args.bytes.now }) (told c.right_desk.ensures c.if-not-right_desk.false) in
    let f = is_found _ _ (sym (some_told _ (sym c.ok_or.ensures.value ∙ c.in_ok-k.was)) ∙ c.seek.ensures (λ k. not (occupied_in c.args.bytes.now k)) (λ k b i e. search rules)) in
    (r.floats, r.bytes, found_small (λ k. not (occupied_in c.args.bytes.now k)) 0 _ (omega arith) f.0 f.1, d.read, count_high _ d.count, d.fractions, d.densities)

pub returns : goal.returns
returns c =
    let f = is_found _ _ (sym (some_told _ (sym c.ok_or.ensures.value ∙ c.in_ok-k.was)) ∙ c.seek.ensures (λ k. not (occupied_in c.args.bytes.now k)) (λ k b i e. search rules)) in
    submit_at (record { floats = c.args.floats.now; bytes = c.args.bytes.now }) (query_of c.args.q.now) (told c.right_desk.ensures c.if-not-right_desk.false) _ c.door.ensures c.in_ok-door.was _ f.0 _ f.1 c.enter.ensures
