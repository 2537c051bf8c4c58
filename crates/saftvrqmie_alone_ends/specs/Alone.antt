-- What the code asks of a pair so that u's derivatives need not be worked: the contracts of helpers. That they are then sound, so that u alone is u after both, is shown in proofs/Derivatives (`alone_is`), and what u is there (`sound_is`, `numbers_sound`).
use Rattle.std.specs.Prelude.{ℕ, Bool, true, false, ◌&&◌, not, cond, Float, Result}
use Rattle.std.specs.Float.{binary64}
use Rattle.std.specs.Float.Ieee.{of_bits, fits, le, lt, neg, add}
use Rattle.number.specs.declared.refusal.Refusal.{Refusal}
use Rattle.number.specs.Ans.{Ans, held, ◌>>=◌}
use Rattle.number.specs.Arith.{one64, decimal}
use Rattle.number.specs.Domain.{exponent_inside}
use Rattle.number.specs.Functions.{calls}
use Rattle.elementary.specs.Port.{port}
use Rattle.binary_log.specs.declared.Log.{Log}
use Rattle.power.specs.Power.{exponent_of, power_of}
use Rattle.enclosure.specs.declared.Enclosure.{Enclosure}
use Rattle.enclosure.specs.Enclosure.{enclosures, point, add_e, mul_e, after_e}
use Rattle.dual_num.specs.declared.EnclosureExponent.{EnclosureExponent}
use Rattle.dual_num.specs.Base.{enclosure_power, enclosure_power_by}
use Rattle.saftvrqmie_potential.specs.Potential.{PairIn, PotentialIn, first_order, second_order, u_mie, u_quantum}
use Rattle.saftvrqmie_potential.specs.Shared.{Sharing, Shares}
use Rattle.saftvrqmie_potential.specs.declared.Term.{Term}
use Rattle.saftvrqmie_potential.specs.declared.Shared.{Shared}

abbrev pub EnclosureTerm : Type 0
EnclosureTerm = Term Enclosure EnclosureExponent

-- what the radii of a pair share in the two-ended run, and that it is the pair's
abbrev pub EnclosureShared : Type 0
EnclosureShared = Shared Enclosure Enclosure EnclosureExponent

abbrev pub EnclosureSharing : PairIn Enclosure → EnclosureShared → Type 0
EnclosureSharing = Sharing enclosures (calls enclosures port) (λ x. x) enclosure_power enclosure_power_by (λ x. x) (λ n. n.at.inside)

abbrev pub EnclosureShares : PairIn Enclosure → Result EnclosureShared Refusal → Type 0
EnclosureShares = Shares enclosures (calls enclosures port) (λ x. x) enclosure_power enclosure_power_by (λ x. x) (λ n. n.at.inside)

-- 2 ^ 100
abbrev pub big : Float
big = of_bits binary64 0x4630_0000_0000_0000

-- no further from zero than 2 ^ 100 (every f64 fits the format, so that the last test, here and below, is for the logic alone)
unfoldable pub within_of : Float → Bool
within_of a = le (neg big) a && le a big && fits binary64 a

unfoldable pub from_one : Float → Bool
from_one a = le one64 a && fits binary64 a

-- sound, and both ends within
unfoldable pub small_ends : Enclosure → Bool
small_ends x = x.ends.sound && within_of x.ends.lower && within_of x.ends.upper

-- a sound exponent of the power's domain, from 0 on and other than 1
unfoldable pub plain_of : EnclosureExponent → Bool
plain_of n = n.x.ends.sound && n.at.inside && not n.at.fixed.negative && not n.at.fixed.one

unfoldable pub tame_term : EnclosureTerm → Bool
tame_term t =
    (small_ends t.lambda && small_ends t.q1 && small_ends t.q2 && small_ends t.power)
    && (plain_of t.e0 && plain_of t.e1 && plain_of t.e2 && plain_of t.e3)
    && plain_of t.e4
    && plain_of t.e5
    && plain_of t.e6

unfoldable pub tame_of : EnclosureShared → Bool
tame_of s = tame_term s.r && tame_term s.a && small_ends s.d && small_ends s.d2 && small_ends s.ce

-- u, both derivatives having been worked on the way
unfoldable pub u_after : Ans (PotentialIn Enclosure) → Ans Enclosure
u_after a = a >>= λ v. held (after_e v.u_r (after_e v.u_rr v.u))

-- y and k more
abbrev pub plus : Float → ℕ → Float
plus y k = add binary64 y (decimal false k 0)

-- a number of the power's domain above 1
unfoldable pub plain_number : Float → Bool
plain_number y = exponent_inside y && lt one64 y && fits binary64 y

-- so are l to l + 6
unfoldable pub plain_from : Float → Bool
plain_from l =
    plain_number l
    && plain_number (plus l 1)
    && plain_number (plus l 2)
    && plain_number (plus l 3)
    && plain_number (plus l 4)
    && plain_number (plus l 5)
    && plain_number (plus l 6)

-- a pair called tame by its numbers alone, whatever its exponents in fixed point are
unfoldable pub tame_numbers : EnclosureShared → Bool
tame_numbers s =
    (small_ends s.r.lambda && small_ends s.a.lambda && small_ends s.r.power && small_ends s.a.power)
    && (small_ends s.r.q1 && small_ends s.a.q1 && small_ends s.r.q2 && small_ends s.a.q2)
    && (small_ends s.d && small_ends s.d2 && small_ends s.ce)
    && plain_from s.r.lambda.value
    && plain_from s.a.lambda.value

-- an enclosure with its flag set
abbrev pub sound_of : Enclosure → Enclosure
sound_of x = record { value = x.value; ends = record { lower = x.ends.lower; upper = x.ends.upper; sound = true } }

-- the power of a radius by its logarithm, as a point
abbrev pub power_point : Log → Float → Enclosure
power_point l y = point (power_of l (exponent_of y))

-- u by the radius' logarithm, no derivative being worked
module _ (s : EnclosureShared) (l : Log) where
  unfoldable pub u_alone : Enclosure
  u_alone =
      let lr = s.r.lambda.value in
      let la = s.a.lambda.value in
      let u = u_mie enclosures (power_point l lr) s.r.power (power_point l la) s.a.power in
      let u₁ = add_e u (mul_e s.d (u_quantum enclosures s.r.q1 s.a.q1 (power_point l (plus lr 2)) s.r.power (power_point l (plus la 2)) s.a.power)) in
      let u₂ = add_e u₁ (mul_e s.d2 (u_quantum enclosures s.r.q2 s.a.q2 (power_point l (plus lr 4)) s.r.power (power_point l (plus la 4)) s.a.power)) in
      mul_e (cond (first_order s.order) (cond (second_order s.order) u₂ u₁) u) s.ce
