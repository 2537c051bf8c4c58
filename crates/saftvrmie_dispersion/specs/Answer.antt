-- The code's structs as the formulas' records, and the number or values of each case of the answers.
use Rattle.std.specs.Prelude.{Float, Result}
use Rattle.number.specs.Answer.{answer_by}
use Rattle.number.specs.declared.refusal.Refusal.{Refusal}
use Rattle.number.specs.Ans.{Ans}
use Rattle.saftvrmie_parameters.specs.declared.PairParameters.{PairParameters}
use Rattle.saftvrmie_dispersion.specs.Sutherland.{FluidIn}
use Rattle.saftvrmie_dispersion.specs.Terms.{PairIn, BarIn, FiveIn, OrdersIn, TermsIn, SumsIn}
use Rattle.saftvrmie_dispersion.specs.Chain.{KIn, LinkIn}
use Rattle.saftvrmie_dispersion.specs.declared.Fluid.{Fluid}
use Rattle.saftvrmie_dispersion.specs.declared.Bar.{Bar}
use Rattle.saftvrmie_dispersion.specs.declared.Five.{Five}
use Rattle.saftvrmie_dispersion.specs.declared.OrdersDual.{OrdersDual}
use Rattle.saftvrmie_dispersion.specs.declared.Terms.{Terms}
use Rattle.saftvrmie_dispersion.specs.declared.Sums.{Sums}
use Rattle.saftvrmie_dispersion.specs.declared.KValues.{KValues}
use Rattle.saftvrmie_dispersion.specs.declared.Link.{Link}

-- the parameters of a pair, each number entered by lit
abbrev pub pair_in : {N : Type 0} → (Float → N) → PairParameters → PairIn N
pair_in lit p = record { sigma = lit p.sigma; epsilon_k = lit p.epsilon_k; lr = lit p.lr; la = lit p.la; c = lit p.c; alpha = lit p.alpha }

abbrev pub pair_of : PairParameters → PairIn Float
pair_of p = pair_in (λ x. x) p

-- numbers read by `of`, or as they are
abbrev pub fluid_by : {S N : Type 0} → (S → N) → Fluid S → FluidIn N
fluid_by of w =
    record { segment_density = of w.segment_density; zeta_x = of w.zeta_x; k_hs = of w.k_hs; b1 = of w.b1; b2 = of w.b2; b3 = of w.b3 }

abbrev pub fluid_in : {N : Type 0} → Fluid N → FluidIn N
fluid_in w = fluid_by (λ x. x) w

abbrev pub bar_by : {S N : Type 0} → (S → N) → Bar S → BarIn N
bar_by of b = record { zeta_x_bar = of b.zeta_x_bar; zx5 = of b.zx5; zx8 = of b.zx8 }

abbrev pub bar_in : {N : Type 0} → Bar N → BarIn N
bar_in b = bar_by (λ x. x) b

abbrev pub five_by : {S N : Type 0} → (S → N) → Five S → FiveIn N
five_by of s = record { at_la = of s.at_la; at_lr = of s.at_lr; at_2la = of s.at_2la; at_lalr = of s.at_lalr; at_2lr = of s.at_2lr }

abbrev pub orders_by : {S N : Type 0} → (S → N) → OrdersDual S → OrdersIn N
orders_by of o = record { five = five_by of o.five; a1 = of o.a1; a2 = of o.a2 }

abbrev pub terms_by : {S N : Type 0} → (S → N) → Terms S → TermsIn N
terms_by of t = record { a1 = of t.a1; a2 = of t.a2; a3 = of t.a3; xi = of t.xi }

abbrev pub terms_in : {N : Type 0} → Terms N → TermsIn N
terms_in t = terms_by (λ x. x) t

abbrev pub sums_by : {S N : Type 0} → (S → N) → Sums S → SumsIn N
sums_by of s = record { a1 = of s.a1; a2 = of s.a2; a3 = of s.a3; a_chain = of s.a_chain }

abbrev pub sums_in : {N : Type 0} → Sums N → SumsIn N
sums_in s = sums_by (λ x. x) s

abbrev pub k_by : {S N : Type 0} → (S → N) → KValues S → KIn N
k_by of k = record { k0 = of k.k0; k1 = of k.k1; k2 = of k.k2; k3 = of k.k3 }

abbrev pub k_in : {N : Type 0} → KValues N → KIn N
k_in k = k_by (λ x. x) k

abbrev pub link_by : {S N : Type 0} → (S → N) → Link S → LinkIn N
link_by of l = record { m = of l.m; fraction = of l.fraction; t_inv = of l.t_inv }

abbrev pub terms_answer : {N : Type 0} → Result (Terms N) Refusal → Ans (TermsIn N)
terms_answer = answer_by terms_in

abbrev pub sums_answer : {N : Type 0} → Result (Sums N) Refusal → Ans (SumsIn N)
sums_answer = answer_by sums_in
