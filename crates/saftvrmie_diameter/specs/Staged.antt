-- What the code works of the diameter with the powers in their stages, and its nodes stage by stage, in any run: the contracts of helpers alone. That this is the diameter, values and refusals, is shown in proofs/Staged.
use Rattle.std.specs.Prelude.{ℕ, Bool, ◌≡◌}
use Rattle.number.specs.Ans.{Ans, held, ◌>>=◌, demand}
use Rattle.number.specs.Arith.{Arith}
use Rattle.number.specs.Functions.{Functions, entry}
use Rattle.saftvrmie_diameter.specs.Diameter.{positions, weights, radius_from, inverse_from, added_from}
use Rattle.saftvrmie_diameter.specs.declared.Exponents.{Exponents}

-- the exponents la and lr in fixed point: of any base their powers are those of la and lr
abbrev pub Fixed : {B E N : Type 0} → (B → E → Ans N) → (B → N → Ans N) → Exponents E → N → N → Type 0
Fixed power_by power_at e la lr = (b : _) → (power_by b e.lr ≡ power_at b lr) × (power_by b e.la ≡ power_at b la)

module _ (A : Arith) (F : Functions A.Num) where
  open A use {Num, neg}

  -- the inverse radius of node k
  unfoldable pub inverse_at : Num → ℕ → Num
  inverse_at r0 k = inverse_from A (radius_from A r0 (entry F positions k))

  -- a node from its `beta_u_mie`, where its inverse radius is inside the power's domain
  unfoldable pub node_at : Num → ℕ → Bool → Num → Num → Ans Num
  node_at r0 k inside u d =
      demand 6 inside >>= λ _.
      F.expm1 (neg u) >>= λ e.
      held (added_from A r0 (entry F weights k) e d)
