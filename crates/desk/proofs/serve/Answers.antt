-- `desk::serve` meets its contract. Assumes nothing.
use Rattle.desk.proofs.Ways.{serve_1, serve_idle, serve_on, is_found, is_none, found_small, found_passes}
use Rattle.number.proofs.Walk.{told}
use Rattle.desk.proofs.Shelf.{desk_right}
use native.Mathlib.Omega.{arith}
use mathlib.Core.Path.{refl}
use borrow.Author.Rules.{rules}
use Rattle.desk.specs.Desk.{occupied_in}
use Rattle.desk.proofs.serve.Goals as goal

pub returns-then-not-right_desk : goal.returns-then-not-right_desk
returns-then-not-right_desk c = serve_1 (record { floats = c.args.floats.now; bytes = c.args.bytes.now }) (told c.right_desk.ensures c.if-not-right_desk.true)

pub byte_at-last-requires : goal.byte_at-last-requires
byte_at-last-requires c = let r = (desk_right (record { floats = c.args.floats.now; bytes = c.args.bytes.now }) (told c.right_desk.ensures c.if-not-right_desk.false)).bytes in omega (arith, r)

pub seek-requires-clause-suits : goal.seek-requires-clause-suits
seek-requires-clause-suits c = λ k i κs r e w n u v. ((desk_right (record { floats = c.args.floats.now; bytes = c.args.bytes.now }) (told c.right_desk.ensures c.if-not-right_desk.false)).bytes, i)

pub returns-in_default : goal.returns-in_default
returns-in_default c = serve_idle (record { floats = c.args.floats.now; bytes = c.args.bytes.now }) (told c.right_desk.ensures c.if-not-right_desk.false) _ _ _ c.byte_at-last.ensures c.above-first.ensures.0 refl (is_none _ (c.in_default.ensures (λ k. occupied_in c.args.bytes.now k) (λ k b i e. search rules)))

pub serve_at-requires : goal.serve_at-requires
serve_at-requires c =
    let r = desk_right (record { floats = c.args.floats.now; bytes = c.args.bytes.now }) (told c.right_desk.ensures c.if-not-right_desk.false) in
    let f = is_found _ _ (c.in-Some.ensures (λ k. occupied_in c.args.bytes.now k) (λ k b i e. search rules)) in
    (r.floats, r.bytes, found_small (λ k. occupied_in c.args.bytes.now k) _ _ c.above-first.ensures.1 f.0 f.1, found_passes (λ k. occupied_in c.args.bytes.now k) _ _ f.0 f.1)

pub returns : goal.returns
returns c =
    let f = is_found _ _ (c.in-Some.ensures (λ k. occupied_in c.args.bytes.now k) (λ k b i e. search rules)) in
    serve_on (record { floats = c.args.floats.now; bytes = c.args.bytes.now }) (told c.right_desk.ensures c.if-not-right_desk.false) _ _ _ c.byte_at-last.ensures c.above-first.ensures.0 f.0 _ _ f.1 c.serve_at.ensures.0 c.serve_at.ensures.1
