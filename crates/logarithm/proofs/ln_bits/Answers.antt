-- `logarithm::ln_bits` meets its contract. Assumes nothing.
use mathlib.Core.Path.{ap₂, ◌∙◌}
use Prim.Native.Nat.{ℕ, ◌*◌}
use Rattle.logarithm.specs.Logarithm.{reduced, ln_bits}
use Rattle.logarithm.proofs.ln_bits.Goals as goal

pub returns : goal.returns
unfolding ln_bits
returns c = c.reduced.ensures ∙ ap₂ (λ (f m : ℕ). reduced f (m * 2048)) c.exponent_field.ensures c.significand.ensures
