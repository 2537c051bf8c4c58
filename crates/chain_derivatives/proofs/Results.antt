-- Where the exact run has a result: an operation has one where its operands have, and it is over a positive whole number where theirs are. Assumes nothing.
use Prim.Native.Nat.{ℕ}
use mathlib.Core.Path.{◌≡◌, refl, sym, ap, ap₂, ◌∙◌, subst}
use mathlib.Core.Bool.{Bool, true, false, not, cond}
use mathlib.Core.Option.{Option, some, none}
use lib.Dec.{T}
use lib.Ieee.{Float}
use lib.Ieee.Scale.{finite}
use Rattle.number.specs.Frac.{Frac, Pos, add_f, sub_f, neg_f, mul_f, div_f, val_f}
use Rattle.number.specs.Arith.{Constant, one64}
use Rattle.number.proofs.Frac.{add_f_pos, mul_f_pos, neg_f_pos, val_f_pos}
use Rattle.number.proofs.Rel.{Rel, pow_up_rel}
use Rattle.enclosure.specs.Constants.{Choice}
use Rattle.enclosure.specs.Exact.{Exact, exacts, exactly, chosen, both, alone, is_zero, quotient_x, add_x, sub_x, mul_x, div_x, neg_x, after_x, pow_x, down_x}
use Rattle.chain_derivatives.specs.Chain.{OfFractions}
use Rattle.chain_derivatives.proofs.Stands.{itself, stands_div}

abbrev pub Has : Exact → Frac → Type 0
Has x v = x.exact ≡ some v

abbrev pub Some : Exact → Type 0
Some x = (v : Frac) × Has x v

pub none_some : {v : Frac} → ◌≡◌ {A = Option Frac} none (some v) → ⊥
none_some e = subst is_none e tt
  where
    is_none : Option Frac → Type 0
    is_none none = Unit {0}
    is_none (some v) = ⊥

some_same : {v w : Frac} → ◌≡◌ {A = Option Frac} (some v) (some w) → v ≡ w
some_same e = cc

pub one_result : (x : Exact) (v w : Frac) → Has x v → Has x w → v ≡ w
one_result x v w e f = some_same (sym e ∙ f)

-- ---- the operands of a result
operands : (f : Frac → Frac → Option Frac) (o o' : Option Frac) (v : Frac) → both f o o' ≡ some v → (p : Frac) × (q : Frac) × (o ≡ some p) × (o' ≡ some q) × (f p q ≡ some v)
operands f none o' v e = absurd (none_some e)
operands f (some p) none v e = absurd (none_some e)
operands f (some p) (some q) v e = (p, q, refl, refl, e)

pub from_add : (x y : Exact) → Some (add_x x y) → Some x × Some y
unfolding add_x
from_add x y (v, e) = let k = operands _ x.exact y.exact v e in ((k.0, k.2), (k.1, k.3))

pub from_sub : (x y : Exact) → Some (sub_x x y) → Some x × Some y
unfolding sub_x
from_sub x y (v, e) = let k = operands _ x.exact y.exact v e in ((k.0, k.2), (k.1, k.3))

pub from_mul : (x y : Exact) → Some (mul_x x y) → Some x × Some y
unfolding mul_x
from_mul x y (v, e) = let k = operands _ x.exact y.exact v e in ((k.0, k.2), (k.1, k.3))

divided : (b : Bool) (z v : Frac) → cond b none (some z) ≡ some v → T (not b)
divided true z v e = none_some e
divided false z v e = tt

-- the divisor is not zero
pub from_div : (x y : Exact) → Some (div_x x y) → Some x × ((q : Frac) × Has y q × T (not (is_zero q)))
unfolding div_x
from_div x y (v, e) = let k = operands quotient_x x.exact y.exact v e in ((k.0, k.2), (k.1, k.3, divided (is_zero k.1) _ v k.4))

alone_some : (f : Frac → Frac) (o : Option Frac) (v : Frac) → alone f o ≡ some v → (p : Frac) × (o ≡ some p)
alone_some f none v e = absurd (none_some e)
alone_some f (some p) v e = (p, refl)

pub from_neg : (x : Exact) → Some (neg_x x) → Some x
unfolding neg_x
from_neg x (v, e) = alone_some neg_f x.exact v e

pub from_after : (u x : Exact) → Some (after_x u x) → Some u × Some x
unfolding after_x
from_after u x (v, e) = let k = operands _ u.exact x.exact v e in ((k.0, k.2), (k.1, k.3))

-- ---- results of operations
module _ (x y : Exact) (p q : Frac) (h : Has x p) (k : Has y q) where
  pub has_add : Has (add_x x y) (add_f p q)
  unfolding add_x
  has_add = rw (h, k)

  pub has_sub : Has (sub_x x y) (sub_f p q)
  unfolding sub_x
  has_sub = rw (h, k)

  pub has_mul : Has (mul_x x y) (mul_f p q)
  unfolding mul_x
  has_mul = rw (h, k)

  pub has_div : T (not (is_zero q)) → Has (div_x x y) (div_f p q)
  unfolding div_x
  has_div t = rw (h, k) (go (is_zero q) t)
    where
      go : (b : Bool) → T (not b) → cond b none (some (div_f p q)) ≡ some (div_f p q)
      go true t = absurd t
      go false t = refl

  pub has_after : Has (after_x x y) q
  unfolding after_x
  has_after = rw (h, k)

pub has_neg : (x : Exact) (p : Frac) → Has x p → Has (neg_x x) (neg_f p)
unfolding neg_x
has_neg x p h = rw h

-- ---- over a positive whole number
abbrev pub Proper : Exact → Type 0
Proper x = (v : Frac) → Has x v → Pos v

-- one number in both runs, whose fraction is proper
pub record Known (x u : Exact) : Type 0 where
  pub same : x ≡ u
  pub proper : Proper x

finite_value : (b : Bool) (w v : Frac) → cond b (some w) none ≡ some v → w ≡ v
finite_value true w v e = some_same e
finite_value false w v e = absurd (none_some e)

pub exactly_known : (f : Float) → Known (exactly f) (exactly f)
unfolding exactly
exactly_known f = record { same = refl; proper = λ v e. subst Pos (finite_value (finite f) (val_f f) v e) (val_f_pos f) }

pub chosen_known : (C : Choice) → OfFractions C → (c : Constant) → Known (chosen C c) (chosen C c)
unfolding chosen
chosen_known C fine c = record { same = refl; proper = λ v e. subst Pos (some_same e) (fine c) }

module _ (x y u v : Exact) (h : Known x u) (k : Known y v) where
  pub known_add : Known (add_x x y) (add_x u v)
  known_add = record {
    same = ap₂ add_x h.same k.same;
    proper = λ w e.
        let s = from_add x y (w, e) in
        subst Pos (one_result (add_x x y) _ w (has_add x y _ _ s.0.1 s.1.1) e) (add_f_pos s.0.0 s.1.0 (h.proper _ s.0.1) (k.proper _ s.1.1));
  }

  pub known_sub : Known (sub_x x y) (sub_x u v)
  known_sub = record {
    same = ap₂ sub_x h.same k.same;
    proper = λ w e.
        let s = from_sub x y (w, e) in
        subst Pos (one_result (sub_x x y) _ w (has_sub x y _ _ s.0.1 s.1.1) e) (add_f_pos s.0.0 (neg_f s.1.0) (h.proper _ s.0.1) (neg_f_pos s.1.0 (k.proper _ s.1.1)));
  }

  pub known_mul : Known (mul_x x y) (mul_x u v)
  known_mul = record {
    same = ap₂ mul_x h.same k.same;
    proper = λ w e.
        let s = from_mul x y (w, e) in
        subst Pos (one_result (mul_x x y) _ w (has_mul x y _ _ s.0.1 s.1.1) e) (mul_f_pos s.0.0 s.1.0 (h.proper _ s.0.1) (k.proper _ s.1.1));
  }

  pub known_div : Known (div_x x y) (div_x u v)
  known_div = record {
    same = ap₂ div_x h.same k.same;
    proper = λ w e.
        let s = from_div x y (w, e) in
        subst Pos (one_result (div_x x y) _ w (has_div x y _ _ s.0.1 s.1.1 s.1.2) e)
        (stands_div s.0.0 s.1.0 _ _ (itself _ (h.proper _ s.0.1)) (itself _ (k.proper _ s.1.1)) s.1.2).1.positive;
  }

  pub known_after : Known (after_x x y) (after_x u v)
  known_after = record {
    same = ap₂ after_x h.same k.same;
    proper = λ w e.
        let s = from_after x y (w, e) in
        k.proper w (s.1.1 ∙ ap some (one_result (after_x x y) _ w (has_after x y _ _ s.0.1 s.1.1) e));
  }

pub known_neg : (x u : Exact) → Known x u → Known (neg_x x) (neg_x u)
known_neg x u h = record {
  same = ap neg_x h.same;
  proper = λ w e.
      let s = from_neg x (w, e) in
      subst Pos (one_result (neg_x x) _ w (has_neg x _ s.1) e) (neg_f_pos s.0 (h.proper _ s.1));
}

pub known_pow : (n : ℕ) (x u : Exact) → Known x u → Known (pow_x x n) (pow_x u n)
unfolding pow_x
known_pow n x u h = pow_up_rel Known mul_x mul_x known_mul (exactly one64) (exactly one64) (exactly_known one64) n x u h

pub known_down : (n : ℕ) (x u : Exact) → Known x u → Known (down_x x n) (down_x u n)
unfolding down_x
known_down n x u h = known_div _ _ _ _ (exactly_known one64) (known_pow n x u h)

abbrev pub known : (C : Choice) → OfFractions C → Rel (exacts C) (exacts C)
known C fine =
    record {
      R = Known;
      r_add = λ p q. known_add _ _ _ _ p q;
      r_sub = λ p q. known_sub _ _ _ _ p q;
      r_mul = λ p q. known_mul _ _ _ _ p q;
      r_div = λ p q. known_div _ _ _ _ p q;
      r_neg = λ p. known_neg _ _ p;
      r_pow = λ n p. known_pow n _ _ p;
      r_down = λ n p. known_down n _ _ p;
      r_lit = exactly_known;
      r_constant = chosen_known C fine;
      r_val = λ p. ap (λ (x : Exact). x.value) p.same;
      r_after = λ p q. known_after _ _ _ _ p q;
    }
