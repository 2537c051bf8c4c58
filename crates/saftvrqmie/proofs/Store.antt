-- A pair's properties, refused or stored. Assumes nothing.
use Prim.Native.Nat.{ℕ}
use mathlib.Core.Path.{◌≡◌}
use Rattle.std.specs.Prelude.{Err, Ok, Result}
use Rattle.number.specs.declared.refusal.Refusal.{Refusal}
use Rattle.number.specs.Answer.{code, answer_by}
use Rattle.number.specs.Ans.{Ans, held, refused, ◌>>=◌}
use Rattle.number.specs.Arith.{Arith}
use Rattle.number.specs.Functions.{Functions}
use Rattle.number.proofs.Walk.{via}
use Rattle.saftvrqmie_potential.specs.Potential.{PairIn, potential}
use Rattle.saftvrqmie_properties.specs.declared.PairProperties.{PairProperties}
use Rattle.saftvrqmie_properties.specs.Properties.{PairPropertiesIn, pair_properties_by, properties_from}
use Rattle.saftvrqmie.specs.Store.{Kept}

-- what the generic function says of a pair that is read as q
abbrev pub Worked : (A : Arith) → Functions A.Num → A.Num → {D : Type 0} → (D → A.Num) → Result (PairProperties D) Refusal → PairIn A.Num → Type 0
Worked A F one of a q = answer_by (pair_properties_by of) a ≡ properties_from A F (potential A F q) (A.mul one q.sigma) q.mass q.temperature

-- of an answer q at the entry e
module _ (K : Kept) (e : ℕ) (x : K.Lists) {D : Type 0} (read : D → K.Num) (a : Result (PairProperties D) Refusal) (q : Ans (PairPropertiesIn K.Num)) (told : answer_by (pair_properties_by read) a ≡ q) where
  pub pair_refused : (r : Refusal) → a ≡ Err r → (q >>= λ p. held (K.stored x e p)) ≡ refused (code r)
  unfolding ◌>>=◌
  pair_refused r h = rw (via (answer_by (pair_properties_by read)) told h)

  pub pair_held : (y : K.Lists) (p : PairProperties D) → a ≡ Ok p → y ≡ K.stored x e (pair_properties_by read p) → (q >>= λ p. held (K.stored x e p)) ≡ held y
  unfolding ◌>>=◌
  pair_held y p h s = rw (via (answer_by (pair_properties_by read)) told h, s)
