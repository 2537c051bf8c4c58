-- `significand_log` meets its contract. Assumes nothing.
use mathlib.Core.Path.{◌≡◌, ap, subst, sym, ◌∙◌}
use Prim.Native.Nat.{ℕ, ◌-◌, ◌*◌, ◌^◌, ◌≤◌, ◌<◌}
use native.Mathlib.Omega.{arith}
use mir.Facts.{Fits-bits}
use lib.ListN.{get_or}
use Rattle.binary_log.specs.Tables.{logs}
use Rattle.binary_log.specs.BinaryLog.{eight_terms, significand_log, gap_of, place_of}
use Rattle.binary_log.proofs.Significand.{product_fits, gap_fits, table_fits, log_small}
use Rattle.binary_log.proofs.significand_log.Goals as goal

factor : {p q : ℕ × ℕ} → p ≡ q → p.0 ≡ q.0
factor e = ap (λ (z : ℕ × ℕ). z.0) e

log : {p q : ℕ × ℕ} → p ≡ q → p.1 ≡ q.1
log e = ap (λ (z : ℕ × ℕ). z.1) e

more : {x : ℕ} → x ≤ 2 ^ 63 → x < 2 ^ 64
more h = omega arith

pub overflow_sub-d : goal.overflow_sub-d
overflow_sub-d c = subst (λ (x : ℕ). x * c.args.m ≤ 2 ^ 63) (sym (factor c.log_entry-factor.ensures)) (product_fits c.args.m c.requires.0 c.requires.1)

pub overflow_mul-d-2 : goal.overflow_mul-d-2
overflow_mul-d-2 c = Fits-bits 64 tt (subst (λ (x : ℕ). (2 ^ 63 - x * c.args.m) * 128 < 2 ^ 64) (sym (factor c.log_entry-factor.ensures)) (gap_fits c.args.m c.requires.0 c.requires.1))

pub overflow_sub-result : goal.overflow_sub-result
overflow_sub-result c =
    let m = c.args.m in
    let p = c.requires in
    let e : c.eight_terms-e.result ≡ eight_terms (gap_of m) = c.eight_terms-e.ensures ∙ ap (λ (x : ℕ). eight_terms ((2 ^ 63 - x * m) * 128)) (factor c.log_entry-factor.ensures) in
    subst (λ (x : ℕ). x ≤ c.log_entry-factor.result.1) (sym e) (subst (λ (x : ℕ). eight_terms (gap_of m) ≤ x) (sym (log c.log_entry-factor.ensures)) (table_fits m p.0 p.1))

pub returns : goal.returns
returns c =
    let m = c.args.m in
    let p = c.requires in
    let e : c.eight_terms-e.result ≡ eight_terms (gap_of m) = c.eight_terms-e.ensures ∙ ap (λ (x : ℕ). eight_terms ((2 ^ 63 - x * m) * 128)) (factor c.log_entry-factor.ensures) in
    let v : c.log_entry-factor.result.1 - c.eight_terms-e.result ≡ significand_log m = ap (λ (x : ℕ). x - c.eight_terms-e.result) (log c.log_entry-factor.ensures) ∙ ap (λ (x : ℕ). get_or logs (place_of m) 0 - x) e in
    record { value = v; small = subst (λ (x : ℕ). x ≤ 2 ^ 61) (sym v) (log_small m p.0 p.1) }

pub overflow_mul-d : goal.overflow_mul-d
overflow_mul-d c = Fits-bits 64 tt (more (overflow_sub-d c))
