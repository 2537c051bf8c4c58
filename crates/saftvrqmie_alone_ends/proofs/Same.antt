-- Two enclosures with one value and one pair of ends: no operation's value or ends hang on a flag. Assumes nothing.
use mathlib.Core.Path.{◌≡◌, refl, ap, ap₂}
use mathlib.Core.Bool.{Bool, true, false}
use lib.Dec.{T}
use Rattle.interval.specs.Interval.{around, outward, add_i, sub_i, mul_i, div_i, neg_i}
use Rattle.enclosure.specs.declared.Enclosure.{Enclosure}
use Rattle.enclosure.specs.Enclosure.{add_e, sub_e, mul_e, div_e, neg_e}
use Rattle.saftvrqmie_alone_ends.specs.Alone.{sound_of}

pub record Same (x y : Enclosure) : Type 0 where
  pub is : sound_of x ≡ sound_of y

pub same : {x : Enclosure} → Same x x
same = record { is = refl }

pub add_same : {a b x y : Enclosure} → Same a x → Same b y → Same (add_e a b) (add_e x y)
unfolding add_e add_i around outward
add_same p q = record { is = ap₂ (λ (x y : Enclosure). sound_of (add_e x y)) p.is q.is }

pub sub_same : {a b x y : Enclosure} → Same a x → Same b y → Same (sub_e a b) (sub_e x y)
unfolding sub_e sub_i around outward
sub_same p q = record { is = ap₂ (λ (x y : Enclosure). sound_of (sub_e x y)) p.is q.is }

pub mul_same : {a b x y : Enclosure} → Same a x → Same b y → Same (mul_e a b) (mul_e x y)
unfolding mul_e mul_i around outward
mul_same p q = record { is = ap₂ (λ (x y : Enclosure). sound_of (mul_e x y)) p.is q.is }

pub div_same : {a b x y : Enclosure} → Same a x → Same b y → Same (div_e a b) (div_e x y)
unfolding div_e div_i around outward
div_same p q = record { is = ap₂ (λ (x y : Enclosure). sound_of (div_e x y)) p.is q.is }

pub neg_same : {a x : Enclosure} → Same a x → Same (neg_e a) (neg_e x)
unfolding neg_e neg_i
neg_same p = record { is = ap (λ (x : Enclosure). sound_of (neg_e x)) p.is }

-- with one flag too they are one
abbrev flagged : Enclosure → Bool → Enclosure
flagged x g = record { value = x.value; ends = record { lower = x.ends.lower; upper = x.ends.upper; sound = g } }

pub one_flag : (x y : Enclosure) → Same x y → x.ends.sound ≡ y.ends.sound → x ≡ y
one_flag x y p q = ap₂ flagged p.is q

pub flags : (a b : Bool) → (T a → T b) → (T b → T a) → a ≡ b
flags true true f g = refl
flags false false f g = refl
flags true false f g = absurd (f tt)
flags false true f g = absurd (g tt)
