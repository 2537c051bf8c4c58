-- What a card that reads well has: a known kind and count. Assumes nothing.
use Prim.Native.Nat.{ℕ, ◌-◌, ◌≤◌}
use native.Mathlib.Omega.{arith}
use lib.ListN.{get_or}
use mathlib.Core.Path.{◌≡◌, refl, subst}
use mathlib.Core.Bool.{Bool, true, false}
use mathlib.Core.List.{List}
use Rattle.number.specs.Ans.{held, demand}
use Rattle.number.proofs.Walk.{demanded, then_held, held_inj}
use Rattle.bit_fields.specs.Bits.{bits_of}
use Rattle.card.specs.Fields.{Numbers, read_fields}
use Rattle.card.specs.Card.{Card, Form, heading, layout, known, filling, read_card}
use Rattle.card.proofs.Whole.{knows}

-- a card that reads well, taken apart
pub record Taken (f : Form) (l : List ℕ) (c : Card) : Type 0 where
  pub head : Numbers
  pub body : Numbers
  pub head_read : read_fields heading (bits_of l) ≡ held head
  pub head_known : known f (get_or head.values 0 0) (get_or head.values 1 0) ≡ true
  pub body_read : read_fields (layout f (get_or head.values 0 0 - f.first) (get_or head.values 1 0)) head.rest ≡ held body
  pub body_filled : filling body.rest ≡ true
  pub card_is : record { kind = get_or head.values 0 0 - f.first; count = get_or head.values 1 0; values = body.values } ≡ c

pub taken : (f : Form) (l : List ℕ) (c : Card) → read_card f l ≡ held c → Taken f l c
unfolding read_card
taken f l c p =
    let a = then_held (read_fields heading (bits_of l)) _ c p in
    let h = a.0 in
    let model = get_or h.values 0 0 in
    let count = get_or h.values 1 0 in
    let b = then_held (demand 10 (known f model count)) _ c a.2 in
    let d = then_held (read_fields (layout f (model - f.first) count) h.rest) _ c b.2 in
    let e = then_held (demand 11 (filling d.0.rest)) _ c d.2 in
    record {
      head = h;
      body = d.0;
      head_read = a.1;
      head_known = demanded 10 (known f model count) b.0 b.1;
      body_read = d.1;
      body_filled = demanded 11 (filling d.0.rest) e.0 e.1;
      card_is = held_inj _ _ e.2;
    }

pub record Counted (f : Form) (c : Card) : Type 0 where
  pub kind_low : c.kind ≤ 1
  pub some : 1 ≤ c.count
  pub most : c.count ≤ f.most

pub counted : (f : Form) (l : List ℕ) (c : Card) → read_card f l ≡ held c → Counted f c
counted f l c p =
    let t = taken f l c p in
    let k = knows f (get_or t.head.values 0 0) (get_or t.head.values 1 0) t.head_known in
    subst (Counted f) t.card_is (record { kind_low = omega (arith, k.first, k.last); some = k.some; most = k.most })
