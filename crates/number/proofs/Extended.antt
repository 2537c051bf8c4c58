-- Rounding keeps order beyond the finite values too: what is rounded from no more than a fraction that does not round to plus infinity does not either. Assumes nothing.
use Rattle.std.proofs.Common.{ℕ, zero, suc, ◌+◌, ◌*◌, ◌^◌, Bool, true, false, cond, T, ltb, sym, refl, subst, lt_of_le_of_lt, arith}
use lib.Ieee.{Float, inf, Format, prec, emax, low, round, units, odd}
use lib.Ieee.Fits.{round_is, round-fits}
use lib.Ieee.Order.{drop, kept}
use lib.Ieee.Scale.{grid, finite}
use Rattle.number.specs.Frac.{Frac, Pos, le_f, sgn, val_f}
use Rattle.number.proofs.Frac.{le_trans_f}
use Rattle.number.proofs.Round.{Rounds, has_ge, has_le, worth, signed_mono, grid_pos, zero_rounds}
use Rattle.number.proofs.Finite.{B-pos, upper, lower, round_finite}
use Rattle.number.proofs.Order.{over, under, both, finite_over, finite_under}

odd_finite : (d : ℕ) (s : Bool) (q k l : ℕ) → T (finite (odd d s q k l))
unfolding odd
odd_finite d s zero k l = tt
odd_finite d s (suc q) k l = tt

module _ (f : Format) where
  by_units : (P : Float → Type 0) (s : Bool) (a c : ℕ) → ((x : Float) → T (finite x) → P x) → P (inf s) → P (round f s a c)
  unfolding units
  by_units P s a c p q = subst P (sym (round_is f s a c)) (go (ltb (kept (prec f) (a * 2 ^ low f) c * 2 ^ drop (prec f) (a * 2 ^ low f) c) (2 ^ (low f + suc (emax f)))))
    where
      go : (b : Bool) → P (cond b (odd (suc (prec f)) s (kept (prec f) (a * 2 ^ low f) c) (drop (prec f) (a * 2 ^ low f) c) (low f)) (inf s))
      go true =
          let q' = kept (prec f) (a * 2 ^ low f) c in
          let k = drop (prec f) (a * 2 ^ low f) c in
          p (odd (suc (prec f)) s q' k (low f)) (odd_finite (suc (prec f)) s q' k (low f))
      go false = q

  under_minus : (a c : ℕ) → T (under (round f true a c))
  under_minus a c = by_units (λ (x : Float). T (under x)) true a c finite_under tt

  over_plus : (a c : ℕ) → T (over (round f false a c))
  over_plus a c = by_units (λ (x : Float). T (over x)) false a c finite_over tt

  -- r from q and r' from q', q no more than q'
  module _ (r r' : Float) (q q' : Frac) (x : Rounds f r q) (x' : Rounds f r' q') (Q : Pos q) (Q' : Pos q') (h : le_f q q') where
    exact : le_f (sgn x.sign x.top x.bottom) (sgn x'.sign x'.top x'.bottom)
    exact =
        let z = sgn x.sign x.top x.bottom in
        let z' = sgn x'.sign x'.top x'.bottom in
        le_trans_f z q z' Q x.le (le_trans_f q q' z' Q' h x'.ge)

    pub stays_under : T (under r') → T (under r)
    stays_under t = subst (λ (z : Float). T (under z)) (sym x.is) (go x.sign x'.sign exact (subst (λ (z : Float). T (under z)) x'.is t))
      where
        a : ℕ
        a = x.top

        c : ℕ
        c = x.bottom

        b : ℕ
        b = x'.top

        d : ℕ
        d = x'.bottom

        go : (s s' : Bool) → le_f (sgn s a c) (sgn s' b d) → T (under (round f s' b d)) → T (under (round f s a c))
        go true s' k u = under_minus a c
        go false true k u = finite_under (round f false a c) (round_finite f false a c (lt_of_le_of_lt (zero_rounds f a c d (b * c) x.above x'.above (omega arith)) (B-pos f)))
        go false false k u =
            let w = both (round f false b d) (over_plus b d) u in
            finite_under (round f false a c) (round_finite f false a c (upper f (grid f a c) (round f false b d) (round-fits f false b d) w
            (le_trans_f (sgn false (grid f a c) (2 ^ low f)) (sgn false (grid f b d) (2 ^ low f)) (val_f (round f false b d)) (grid_pos f false b d) (signed_mono f false false a c b d x.above x'.above k)
            (has_ge (round f false b d) false (grid f b d) (2 ^ low f) (worth f (round f false b d) false b d refl w)))))

    pub stays_over : T (over r) → T (over r')
    stays_over t = subst (λ (z : Float). T (over z)) (sym x'.is) (go x.sign x'.sign exact (subst (λ (z : Float). T (over z)) x.is t))
      where
        a : ℕ
        a = x.top

        c : ℕ
        c = x.bottom

        b : ℕ
        b = x'.top

        d : ℕ
        d = x'.bottom

        go : (s s' : Bool) → le_f (sgn s a c) (sgn s' b d) → T (over (round f s a c)) → T (over (round f s' b d))
        go s false k u = over_plus b d
        go false true k u = finite_over (round f true b d) (round_finite f true b d (lt_of_le_of_lt (zero_rounds f b d c (a * d) x'.above x.above (omega arith)) (B-pos f)))
        go true true k u =
            let w = both (round f true a c) u (under_minus a c) in
            finite_over (round f true b d) (round_finite f true b d (lower f (grid f b d) (round f true a c) (round-fits f true a c) w
            (le_trans_f (val_f (round f true a c)) (sgn true (grid f a c) (2 ^ low f)) (sgn true (grid f b d) (2 ^ low f)) (grid_pos f true a c)
            (has_le (round f true a c) true (grid f a c) (2 ^ low f) (worth f (round f true a c) true a c refl w))
            (signed_mono f true true a c b d x.above x'.above k))))
