-- `inverse` meets its contract: the table's entry and two steps of Newton's. Assumes nothing.
use borrow.Author.Rules.{rules}
use mathlib.Core.Path.{◌≡◌, ap, ◌∙◌}
use Prim.Native.Nat.{ℕ, ◌/◌, ◌^◌, ◌<◌}
use Rattle.root.proofs.Start.{chosen, scaled, start_few, start_over, start_near, scaled_size}
use Rattle.root.proofs.TwoSteps.{stepped, mid_few, mid_fits, inverse_is}
use Rattle.root.proofs.inverse.Goals as goal
use Rattle.root.proofs.inverse.Goals.{After-refined, After-refined-y, Start}

fits : (c : Start) → c.args.a < 2 ^ 64
fits c = search rules

once : (c : After-refined-y) → c.refined-y.result ≡ stepped (chosen c.args.a) (scaled c.args.a)
once c = c.refined-y.ensures ∙ ap (λ (y : ℕ). stepped y (scaled c.args.a)) c.reciprocal.ensures

twice : (c : After-refined) →
    let a = c.args.a in
    c.refined.result ≡ stepped (stepped (chosen a) (scaled a) / 35184372088832) (scaled a)
twice c = c.refined.ensures ∙ ap (λ (r : ℕ). stepped (r / 35184372088832) (scaled c.args.a)) (once c.before)

pub refined-y-requires : goal.refined-y-requires
refined-y-requires c = rw c.reciprocal.ensures (start_few c.args.a c.requires (fits c.before), start_over c.args.a c.requires (fits c.before))

pub refined-requires : goal.refined-requires
refined-requires c =
    let s = c.before.before in
    let a = s.args.a in
    rw (once c) (
      mid_few a (chosen a) (scaled a) (start_few a s.requires (fits s)) (scaled_size a s.requires (fits s)) (start_over a s.requires (fits s)) (start_near a s.requires (fits s)),
      mid_fits a (chosen a) (scaled a) (start_few a s.requires (fits s)) (scaled_size a s.requires (fits s)) (start_over a s.requires (fits s)) (start_near a s.requires (fits s)),
    )

pub returns : goal.returns
returns c =
    let s = c.before.before.before in
    let a = s.args.a in
    rw (twice c) (inverse_is a (chosen a) (scaled a) (start_few a s.requires (fits s)) (scaled_size a s.requires (fits s)) (start_over a s.requires (fits s)) (start_near a s.requires (fits s)))
