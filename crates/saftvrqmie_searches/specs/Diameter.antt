-- `hs_diameter_ij` of saftvrqmie/eos/hard_sphere.rs: the 21-node rule of QUADPACK from r0 to sigma_eff, over any arithmetic.
use Rattle.std.specs.Prelude.{ℕ, true, false, List, [], ◌∷◌}
use Rattle.number.specs.Ans.{Ans, held, ◌>>=◌}
use Rattle.number.specs.Arith.{Arith, decimal}
use Rattle.number.specs.Functions.{Functions, Decimal, dec, entry}
use Rattle.number.specs.Walk.{walk}
use Rattle.saftvrqmie_potential.specs.Potential.{PairIn, PotentialIn, potential}

-- a decimal below 1 with 33 places, below and above 0
abbrev pub below : ℕ → Decimal
below n = dec true n 33

abbrev pub above : ℕ → Decimal
above n = dec false n 33

-- X_K21
abbrev pub abscissas : List Decimal
abscissas =
    below 995657163025808080735527280689003 ∷
    below 973906528517171720077964012084452 ∷
    below 930157491355708226001207180059508 ∷
    below 865063366688984510732096688423493 ∷
    below 780817726586416897063717578345042 ∷
    below 679409568299024406234327365114874 ∷
    below 562757134668604683339000099272694 ∷
    below 433395394129247190799265943165784 ∷
    below 294392862701460198131126603103866 ∷
    below 148874338981631210884826001129720 ∷
    above 0 ∷
    above 148874338981631210884826001129720 ∷
    above 294392862701460198131126603103866 ∷
    above 433395394129247190799265943165784 ∷
    above 562757134668604683339000099272694 ∷
    above 679409568299024406234327365114874 ∷
    above 780817726586416897063717578345042 ∷
    above 865063366688984510732096688423493 ∷
    above 930157491355708226001207180059508 ∷
    above 973906528517171720077964012084452 ∷
    above 995657163025808080735527280689003 ∷ []

-- W_K21
abbrev pub weights : List Decimal
weights =
    above 11694638867371874278064396062192 ∷
    above 32558162307964727478818972459390 ∷
    above 54755896574351996031381300244580 ∷
    above 75039674810919952767043140916190 ∷
    above 93125454583697605535065465083366 ∷
    above 109387158802297641899210590325805 ∷
    above 123491976262065851077958109831074 ∷
    above 134709217311473325928054001771707 ∷
    above 142775938577060080797094273138717 ∷
    above 147739104901338491374841515972068 ∷
    above 149445554002916905664936468389821 ∷
    above 147739104901338491374841515972068 ∷
    above 142775938577060080797094273138717 ∷
    above 134709217311473325928054001771707 ∷
    above 123491976262065851077958109831074 ∷
    above 109387158802297641899210590325805 ∷
    above 93125454583697605535065465083366 ∷
    above 75039674810919952767043140916190 ∷
    above 54755896574351996031381300244580 ∷
    above 32558162307964727478818972459390 ∷
    above 11694638867371874278064396062192 ∷ []

module _ (A : Arith) where
  open A use {Num, add as ◌⊕◌, sub as ◌⊖◌, mul as ◌⊗◌, div as ◌⊘◌, neg as ⊖◌, lit, after}

  infixl 60 ◌⊕◌
  infixl 60 ◌⊖◌
  infixl 70 ◌⊗◌
  infixl 70 ◌⊘◌
  infix 80 ⊖◌
  -- half of what the rule goes over, from sigma_eff and r0
  abbrev pub width_from : Num → Num → Num
  width_from sigma_eff r0 = (sigma_eff ⊖ r0) ⊗ lit (decimal false 5 1)

  module _ (F : Functions Num) (U : Num → Ans (PotentialIn Num)) (temperature sigma_eff r0 : Num) where
    -- one node: both derivatives are worked on the way
    unfoldable pub node_turn : ℕ → Num → Ans Num
    node_turn k d-hs =
        let width = width_from sigma_eff r0 in
        let r = width ⊗ entry F abscissas k ⊕ width ⊕ r0 in
        U r >>= λ v.
        F.exp (⊖ v.u ⊘ temperature) >>= λ e.
        let f-u = ⊖ e ⊕ lit (decimal false 1 0) in
        held (after v.u_r (after v.u_rr (d-hs ⊕ width ⊗ f-u ⊗ entry F weights k)))

    -- by the potential U: the sum starts at r0
    unfoldable pub diameter_by : Ans Num
    diameter_by = walk 21 node_turn r0

  -- `hs_diameter_ij` from the searched radii sigma_eff and r0
  unfoldable pub diameter : Functions Num → PairIn Num → Num → Num → Ans Num
  diameter F p sigma_eff r0 = diameter_by F (potential A F p) p.temperature sigma_eff r0
