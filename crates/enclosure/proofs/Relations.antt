-- What holds between the runs: an enclosure's value is the float run's, and sound ends enclose the float and the exact run's fraction. Assumes nothing.
use Prim.Native.Nat.{ℕ}
use native.Mathlib.Omega.{arith}
use mathlib.Core.Path.{◌≡◌, refl, sym, ap, ap₂, subst}
use mathlib.Core.Logic.{◌⊎◌, inl, inr}
use mathlib.Core.Bool.{Bool, true, false, not, ◌&&◌, cond}
use mathlib.Core.Option.{Option, some, none}
use lib.Dec.{T, eqb, eqb→eq, not_T}
use lib.Ieee as Ieee
use lib.Ieee.{Float, binary64, fits}
use lib.Ieee.Fits.{and_l, and_r}
use lib.Ieee.Bits.{cond_no}
use lib.Ieee.Scale.{finite}
use Rattle.number.specs.Frac.{Frac, frac, lt_f, zero_f, neg_f, add_f, sub_f, mul_f, div_f, val_f}
use Rattle.number.specs.Arith.{Constant, floats, one64, nearest}
use Rattle.number.specs.Power.{pow_up}
use Rattle.number.proofs.Round.{Rounds}
use Rattle.number.proofs.Ops.{add_rounds, sub_rounds, mul_rounds, div_rounds, neg_val, neg_finite}
use Rattle.number.proofs.Rel.{Rel, pow_up_rel}
use Rattle.interval.specs.Interval as Outward
use Rattle.interval.specs.declared.Interval.{Interval}
use Rattle.interval.specs.Interval.{mul_i, neg_i, after_i, pow_i, down_i}
use Rattle.interval.proofs.Encloses.{In, point_in, rounded_in, add_in, sub_in, neg_in, mul_in, div_in, div_sign, sign_nonzero, add_sound, sub_sound, mul_sound, div_sound}
use Rattle.enclosure.specs.declared.Enclosure.{Enclosure}
use Rattle.enclosure.specs.Enclosure.{enclosures, point, constant_e, add_e, sub_e, mul_e, div_e, neg_e, after_e, pow_e, down_e}
use Rattle.enclosure.specs.Constants.{Choice, below, above}
use Rattle.enclosure.specs.Ends.{Fair}
use Rattle.enclosure.proofs.Constants.{nearest_between, nearest_finite}
use Rattle.enclosure.specs.Exact.{Exact, exacts, exactly, chosen, both, alone, is_zero, quotient_x, add_x, sub_x, mul_x, div_x, neg_x, after_x, pow_x, down_x}

-- ---- the value is the float run's
abbrev pub Value : Enclosure → Float → Type 0
Value b x = b.value ≡ x

pub value_point : (x : Float) → Value (point x) x
unfolding point
value_point x = refl

pub value_constant : (c : Constant) → Value (constant_e c) (nearest c)
unfolding constant_e
value_constant c = refl

pub value_add : (x y : Enclosure) (u v : Float) → Value x u → Value y v → Value (add_e x y) (Ieee.add binary64 u v)
unfolding add_e
value_add x y u v p q = ap₂ (Ieee.add binary64) p q

pub value_sub : (x y : Enclosure) (u v : Float) → Value x u → Value y v → Value (sub_e x y) (Ieee.sub binary64 u v)
unfolding sub_e
value_sub x y u v p q = ap₂ (Ieee.sub binary64) p q

pub value_mul : (x y : Enclosure) (u v : Float) → Value x u → Value y v → Value (mul_e x y) (Ieee.mul binary64 u v)
unfolding mul_e
value_mul x y u v p q = ap₂ (Ieee.mul binary64) p q

pub value_div : (x y : Enclosure) (u v : Float) → Value x u → Value y v → Value (div_e x y) (Ieee.div binary64 u v)
unfolding div_e
value_div x y u v p q = ap₂ (Ieee.div binary64) p q

pub value_neg : (x : Enclosure) (u : Float) → Value x u → Value (neg_e x) (Ieee.neg u)
unfolding neg_e
value_neg x u p = ap Ieee.neg p

pub value_pow : (n : ℕ) (x : Enclosure) (u : Float) → Value x u → Value (pow_e x n) (floats.pow u n)
unfolding pow_e
value_pow n x u p = ap (λ (z : Float). floats.pow z n) p

pub value_down : (n : ℕ) (x : Enclosure) (u : Float) → Value x u → Value (down_e x n) (floats.pow_down u n)
unfolding down_e
value_down n x u p = ap (λ (z : Float). floats.pow_down z n) p

pub value_after : (u x : Enclosure) (v : Float) → Value x v → Value (after_e u x) v
unfolding after_e
value_after u x v p = p

abbrev pub values : Rel enclosures floats
values =
    record {
      R = Value;
      r_add = λ p q. value_add _ _ _ _ p q;
      r_sub = λ p q. value_sub _ _ _ _ p q;
      r_mul = λ p q. value_mul _ _ _ _ p q;
      r_div = λ p q. value_div _ _ _ _ p q;
      r_neg = λ p. value_neg _ _ p;
      r_pow = λ n p. value_pow n _ _ p;
      r_down = λ n p. value_down n _ _ p;
      r_lit = value_point;
      r_constant = value_constant;
      r_val = λ p. p;
      r_after = λ p q. value_after _ _ _ q;
    }

-- ---- sound ends enclose the exact run's fraction and the float
pub record Held (x : Enclosure) (o : Option Frac) : Type 0 where
  pub exact : Frac
  pub is : o ≡ some exact
  pub exact_in : In x.ends exact
  pub run_finite : T (finite x.value)
  pub run_in : In x.ends (val_f x.value)

pub record Contains (x : Enclosure) (e : Exact) : Type 0 where
  pub same : x.value ≡ e.value
  pub holds : T x.ends.sound → Held x e.exact

both_is : (f : Frac → Frac → Option Frac) (o o' : Option Frac) (p q r : Frac) → o ≡ some p → o' ≡ some q → f p q ≡ some r → both f o o' ≡ some r
both_is f o o' p q r a b c = rw (a, b) c

-- p is the exact result, r the exact result on the float operands, and the float its rounding
made : (x : Enclosure) (o : Option Frac) (p r : Frac) → o ≡ some p → In x.ends p → In x.ends r → Rounds binary64 x.value r → Held x o
made x o p r e i j k =
    let z = rounded_in x.ends x.value r j k in
    record { exact = p; is = e; exact_in = i; run_finite = z.0; run_in = z.1 }

not_zero : (q : Frac) → lt_f zero_f q ⊎ lt_f q zero_f → T (not (is_zero q))
not_zero (frac p n d) (inl h) = not_T (eqb p n) (λ t. let e = eqb→eq p n t in omega arith)
not_zero (frac p n d) (inr h) = not_T (eqb p n) (λ t. let e = eqb→eq p n t in omega arith)

yes_of : (b : Bool) (o : Frac) → T b → cond b (some o) none ≡ some o
yes_of true o t = refl
yes_of false o t = absurd t

pub contains_point : (f : Float) → Contains (point f) (exactly f)
unfolding point Outward.point exactly
contains_point f = record {
  same = refl;
  holds = λ t.
      let a = and_l (finite f) (fits binary64 f) t in
      let i = point_in f (and_r (finite f) (fits binary64 f) t) a in
      record { exact = val_f f; is = yes_of (finite f) (val_f f) a; exact_in = i; run_finite = a; run_in = i };
}

-- the value of a constant, the fraction chosen for it, and its ends
pub contains_constant : (q : Choice) → Fair q → (c : Constant) → Contains (constant_e c) (chosen q c)
unfolding constant_e chosen Outward.point
contains_constant q fair c = record {
  same = refl;
  holds = λ t.
      let a = and_l (finite (below c) && fits binary64 (below c)) (finite (above c) && fits binary64 (above c)) t in
      let b = and_r (finite (below c) && fits binary64 (below c)) (finite (above c) && fits binary64 (above c)) t in
      let lf = and_l (finite (below c)) (fits binary64 (below c)) a in
      let uf = and_l (finite (above c)) (fits binary64 (above c)) b in
      let lt = and_r (finite (below c)) (fits binary64 (below c)) a in
      let ut = and_r (finite (above c)) (fits binary64 (above c)) b in
      let k = fair.between c lf uf in
      let n = nearest_between c lf uf in
      record {
        exact = q c;
        is = refl;
        exact_in = record { lower_finite = lf; upper_finite = uf; lower_fits = lt; upper_fits = ut; den = k.den; from = k.from; to = k.to };
        run_finite = nearest_finite c lf;
        run_in = record { lower_finite = lf; upper_finite = uf; lower_fits = lt; upper_fits = ut; den = n.den; from = n.from; to = n.to };
      };
}

module _ (x y : Enclosure) (u v : Exact) (h : Contains x u) (k : Contains y v) where
  -- the operands of a sound result
  first : T (x.ends.sound && y.ends.sound) → Held x u.exact
  first t = h.holds (and_l x.ends.sound y.ends.sound t)

  second : T (x.ends.sound && y.ends.sound) → Held y v.exact
  second t = k.holds (and_r x.ends.sound y.ends.sound t)

  pub contains_add : Contains (add_e x y) (add_x u v)
  unfolding add_x add_e
  contains_add = record {
    same = ap₂ (Ieee.add binary64) h.same k.same;
    holds = λ t.
        let g = add_sound x.ends y.ends t in
        let a = first g in
        let b = second g in
        made (add_e x y) _ (add_f a.exact b.exact) (add_f (val_f x.value) (val_f y.value))
        (both_is (λ p q. some (add_f p q)) _ _ a.exact b.exact _ a.is b.is refl)
        (add_in _ _ _ _ a.exact_in b.exact_in t) (add_in _ _ _ _ a.run_in b.run_in t)
        (add_rounds binary64 x.value y.value a.run_finite b.run_finite);
  }

  pub contains_sub : Contains (sub_e x y) (sub_x u v)
  unfolding sub_x sub_e
  contains_sub = record {
    same = ap₂ (Ieee.sub binary64) h.same k.same;
    holds = λ t.
        let g = sub_sound x.ends y.ends t in
        let a = first g in
        let b = second g in
        made (sub_e x y) _ (sub_f a.exact b.exact) (sub_f (val_f x.value) (val_f y.value))
        (both_is (λ p q. some (sub_f p q)) _ _ a.exact b.exact _ a.is b.is refl)
        (sub_in _ _ _ _ a.exact_in b.exact_in t) (sub_in _ _ _ _ a.run_in b.run_in t)
        (sub_rounds binary64 x.value y.value a.run_finite b.run_finite);
  }

  pub contains_mul : Contains (mul_e x y) (mul_x u v)
  unfolding mul_x mul_e
  contains_mul = record {
    same = ap₂ (Ieee.mul binary64) h.same k.same;
    holds = λ t.
        let g = mul_sound x.ends y.ends t in
        let a = first g in
        let b = second g in
        made (mul_e x y) _ (mul_f a.exact b.exact) (mul_f (val_f x.value) (val_f y.value))
        (both_is (λ p q. some (mul_f p q)) _ _ a.exact b.exact _ a.is b.is refl)
        (mul_in _ _ _ _ a.exact_in b.exact_in t) (mul_in _ _ _ _ a.run_in b.run_in t)
        (mul_rounds binary64 x.value y.value a.run_finite b.run_finite);
  }

  pub contains_div : Contains (div_e x y) (div_x u v)
  unfolding div_x div_e
  contains_div = record {
    same = ap₂ (Ieee.div binary64) h.same k.same;
    holds = λ t.
        let g = div_sound x.ends y.ends t in
        let a = first g in
        let b = second g in
        let some_one = not_zero b.exact (div_sign x.ends y.ends t b.exact b.exact_in) in
        made (div_e x y) _ (div_f a.exact b.exact) (div_f (val_f x.value) (val_f y.value))
        (both_is quotient_x _ _ a.exact b.exact _ a.is b.is (cond_no (is_zero b.exact) none (some (div_f a.exact b.exact)) some_one))
        (div_in x.ends y.ends t _ _ a.exact_in b.exact_in) (div_in x.ends y.ends t _ _ a.run_in b.run_in)
        (div_rounds binary64 x.value y.value a.run_finite (sign_nonzero y.value b.run_finite (div_sign x.ends y.ends t (val_f y.value) b.run_in)));
  }

  pub contains_after : Contains (after_e x y) (after_x u v)
  unfolding after_x after_e after_i
  contains_after = record {
    same = k.same;
    holds = λ t.
        let a = first t in
        let b = second t in
        let i = b.exact_in in
        let j = b.run_in in
        record {
          exact = b.exact;
          is = both_is (λ p q. some q) _ _ a.exact b.exact _ a.is b.is refl;
          exact_in = record { lower_finite = i.lower_finite; upper_finite = i.upper_finite; lower_fits = i.lower_fits; upper_fits = i.upper_fits; den = i.den; from = i.from; to = i.to };
          run_finite = b.run_finite;
          run_in = record { lower_finite = j.lower_finite; upper_finite = j.upper_finite; lower_fits = j.lower_fits; upper_fits = j.upper_fits; den = j.den; from = j.from; to = j.to };
        };
  }

pub contains_neg : (x : Enclosure) (u : Exact) → Contains x u → Contains (neg_e x) (neg_x u)
unfolding neg_x neg_e
contains_neg x u h = record {
  same = ap Ieee.neg h.same;
  holds = λ t.
      let a = h.holds (unfold neg_i in t) in
      record {
        exact = neg_f a.exact;
        is = ap (alone neg_f) a.is;
        exact_in = neg_in x.ends a.exact a.exact_in;
        run_finite = neg_finite x.value a.run_finite;
        run_in = subst (λ (z : Frac). In (neg_i x.ends) z) (sym (neg_val x.value)) (neg_in x.ends (val_f x.value) a.run_in);
      };
}

-- ---- whole powers: the value's and the ends' are worked apart, but digit by digit they are an enclosure's
made_of : (z : Enclosure) (v : Float) (i : Interval) → z.value ≡ v → z.ends ≡ i → record { value = v; ends = i } ≡ z
made_of z v i p q = rw (← p, ← q)

ends_mul : (x y : Enclosure) (u v : Interval) → x.ends ≡ u → y.ends ≡ v → (mul_e x y).ends ≡ mul_i u v
unfolding mul_e
ends_mul x y u v p q = ap₂ mul_i p q

ends_point : (x : Float) → (point x).ends ≡ Outward.point x
unfolding point
ends_point x = refl

power_is : (n : ℕ) (x : Enclosure) → pow_e x n ≡ pow_up mul_e (point one64) x n
unfolding pow_e pow_i
power_is n x =
    made_of (pow_up mul_e (point one64) x n) _ _
    (pow_up_rel Value mul_e (Ieee.mul binary64) value_mul (point one64) one64 (value_point one64) n x x.value refl)
    (pow_up_rel (λ (z : Enclosure) (i : Interval). z.ends ≡ i) mul_e mul_i ends_mul (point one64) (Outward.point one64) (ends_point one64) n x x.ends refl)

down_is : (n : ℕ) (x : Enclosure) → down_e x n ≡ div_e (point one64) (pow_e x n)
unfolding down_e div_e pow_e point down_i
down_is n x = refl

pub contains_pow : (n : ℕ) (x : Enclosure) (u : Exact) → Contains x u → Contains (pow_e x n) (pow_x u n)
unfolding pow_x
contains_pow n x u p =
    subst (λ (z : Enclosure). Contains z (pow_up mul_x (exactly one64) u n)) (sym (power_is n x))
    (pow_up_rel Contains mul_e mul_x contains_mul (point one64) (exactly one64) (contains_point one64) n x u p)

pub contains_down : (n : ℕ) (x : Enclosure) (u : Exact) → Contains x u → Contains (down_e x n) (down_x u n)
unfolding down_x
contains_down n x u p = subst (λ (z : Enclosure). Contains z (div_x (exactly one64) (pow_x u n))) (sym (down_is n x)) (contains_div _ _ _ _ (contains_point one64) (contains_pow n x u p))

abbrev pub contains : (q : Choice) → Fair q → Rel enclosures (exacts q)
contains q fair =
    record {
      R = Contains;
      r_add = λ p q. contains_add _ _ _ _ p q;
      r_sub = λ p q. contains_sub _ _ _ _ p q;
      r_mul = λ p q. contains_mul _ _ _ _ p q;
      r_div = λ p q. contains_div _ _ _ _ p q;
      r_neg = λ p. contains_neg _ _ p;
      r_pow = λ n p. contains_pow n _ _ p;
      r_down = λ n p. contains_down n _ _ p;
      r_lit = contains_point;
      r_constant = contains_constant q fair;
      r_val = λ p. p.same;
      r_after = λ p q. contains_after _ _ _ _ p q;
    }
