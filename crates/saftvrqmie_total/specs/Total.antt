-- Slip 5: the energies of a quantum set as one number, with what each rounded sum left.
use Rattle.std.specs.Prelude.{◌≡◌, List, Bool, cond, T, Float}
use Rattle.std.specs.Float.Ieee.Scale.{finite}
use Rattle.number.specs.Ans.{Ans, held, ◌>>=◌, demand}
use Rattle.number.specs.Arith.{zero64}
use Rattle.number.specs.Frac.{Frac, add_f, zero_f, val_f}
use Rattle.rounded_sum.specs.declared.RoundedSum.{RoundedSum}
use Rattle.rounded_sum.specs.RoundedSum.{Same, rounded_sum}
use Rattle.saftvrqmie_parameters.specs.declared.SaftVRQMiePars.{SaftVRQMiePars}
use Rattle.saftvrqmie_energies.specs.Energies.{EnergiesIn, energies}
use Rattle.saftvrqmie_total.specs.declared.QuantumTotal.{QuantumTotal}

-- 'If a rounded sum is not finite, refuse with 7.'
unfoldable pub finite_sum : Float → Float → Ans RoundedSum
finite_sum x y =
    demand 7 (finite (rounded_sum x y).sum) >>= λ _.
    held (rounded_sum x y)

-- 'the sum of hard sphere and dispersion, then of that and the non-additive part where wanted'; where it is not wanted the first sum is the last, and leaves nothing more
unfoldable pub contributions_total : EnergiesIn Float → Bool → Ans QuantumTotal
contributions_total e wanted =
    finite_sum e.hard_sphere e.dispersion >>= λ a.
    cond wanted (finite_sum a.sum e.non_additive) (held (record { sum = a.sum; remainder = zero64 })) >>= λ b.
    held (record { first = a; last = b })

-- the energies' refusals first
unfoldable pub total : SaftVRQMiePars → Float → List Float → List Float → List Float → Bool → Ans QuantumTotal
total s t x rho table wanted =
    energies s t x rho table wanted >>= λ e.
    contributions_total e wanted

-- the contributions of a call, added exactly
abbrev pub contributed : EnergiesIn Float → Bool → Frac
contributed e wanted = add_f (add_f (val_f e.hard_sphere) (val_f e.dispersion)) (cond wanted (val_f e.non_additive) zero_f)

-- 'Taken as fractions, the last sum plus all remainders equals the contributions added exactly.'
pub record TotalsExactly (e : EnergiesIn Float) (wanted : Bool) (w : QuantumTotal) : Type 0 where
  pub first_finite : T (finite w.first.sum)
  pub last_finite : T (finite w.last.sum)
  pub first_left_finite : T (finite w.first.remainder)
  pub last_left_finite : T (finite w.last.remainder)
  pub exact : Same (add_f (val_f w.last.sum) (add_f (val_f w.first.remainder) (val_f w.last.remainder))) (contributed e wanted)

-- of a call that was accepted: these were its contributions
pub record Totalled (s : SaftVRQMiePars) (t : Float) (x rho table : List Float) (wanted : Bool) (w : QuantumTotal) : Type 0 where
  pub contributions_of : EnergiesIn Float
  pub held_so : energies s t x rho table wanted ≡ held contributions_of
  pub totals : TotalsExactly contributions_of wanted w
