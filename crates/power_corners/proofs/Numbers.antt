-- The formulas of a pair at 12 and 6, in floats: c is 4, and exponents 12 and 6 combine to themselves. Assumes nothing.
use Prim.Native.Nat.{ℕ}
use native.Mathlib.Omega.{arith}
use mathlib.Core.Path.{◌≡◌, refl}
use mathlib.Core.Bool.{Bool, true, false}
use lib.Ieee as Ieee
use lib.Ieee.{Float, fin}
use lib.IntN.{pos}
use lib.Dec.{T}
use Rattle.number.specs.Ans.{held, refused, ◌>>=◌, demand}
use Rattle.number.specs.Arith.{floats, bits, decimal, one64}
use Rattle.number.specs.Functions.{calls, answered, answered₂}
use Rattle.elementary.specs.Port.{port}
use Rattle.root.specs.Root.{whole_root, positive_root, root}
use Rattle.number.specs.Domain.{base_inside}
use Rattle.power.proofs.Corners.{exponent_one}
use Rattle.mie_parameters.specs.Combine.{lambda_ij, c_ij}
use Rattle.saftvrmie_parameters.specs.Combine.{lr_ij}

two_inside : T (base_inside (bits 0x4000_0000_0000_0000))
unfolding base_inside Ieee.of_bits Ieee.le Ieee.lt Ieee.eq
two_inside = tt

two_by_one : port.powf (bits 0x4000_0000_0000_0000) one64 ≡ held (bits 0x4000_0000_0000_0000)
two_by_one = exponent_one (bits 0x4000_0000_0000_0000) two_inside

-- the Mie prefactor, lr / (lr - la) * (lr / la) ^ (la / (lr - la))
pub c_12_6 : c_ij floats (calls floats port) (decimal false 12 0) (decimal false 6 0) ≡ held (bits 0x4010_0000_0000_0000)
unfolding c_ij answered₂ ◌>>=◌ decimal Ieee.of_bits Ieee.sub Ieee.add Ieee.neg Ieee.mul Ieee.div
c_12_6 = rw two_by_one

pub lambda_12 : lambda_ij floats (calls floats port) (decimal false 12 0) (decimal false 12 0) ≡ held (decimal false 12 0)
unfolding lambda_ij answered ◌>>=◌ root positive_root whole_root decimal Ieee.round Ieee.of_bits Ieee.size Ieee.add Ieee.sub Ieee.mul Ieee.neg
lambda_12 = refl

pub lambda_6 : lambda_ij floats (calls floats port) (decimal false 6 0) (decimal false 6 0) ≡ held (decimal false 6 0)
unfolding lambda_ij answered ◌>>=◌ root positive_root whole_root decimal Ieee.round Ieee.of_bits Ieee.size Ieee.add Ieee.sub Ieee.mul Ieee.neg
lambda_6 = refl

-- lr with a gamma_ij
pub lr_by : (gamma : Float) → lr_ij floats (calls floats port) (decimal false 12 0) (decimal false 12 0) gamma ≡ held (floats.add (floats.mul (floats.sub one64 gamma) (decimal false 9 0)) (decimal false 3 0))
unfolding lr_ij answered ◌>>=◌ root positive_root whole_root decimal Ieee.of_bits Ieee.size Ieee.add Ieee.sub Ieee.mul Ieee.neg
lr_by gamma = refl

-- one that leaves it
pub lr_12 : (gamma : Float) → floats.sub one64 gamma ≡ one64 → lr_ij floats (calls floats port) (decimal false 12 0) (decimal false 12 0) gamma ≡ held (decimal false 12 0)
unfolding lr_ij answered ◌>>=◌ root positive_root whole_root decimal Ieee.round Ieee.of_bits Ieee.size Ieee.add Ieee.sub Ieee.mul Ieee.neg
lr_12 gamma h = rw h

pub zero_leaves : (minus : Bool) → floats.sub one64 (fin minus 0 (pos 0)) ≡ one64
unfolding Ieee.of_bits Ieee.round Ieee.size Ieee.add Ieee.sub Ieee.neg
zero_leaves false = refl
zero_leaves true = refl
