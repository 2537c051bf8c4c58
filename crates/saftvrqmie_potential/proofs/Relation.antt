-- The potential keeps any relation that the operations and the elementary functions keep. Assumes nothing.
use mathlib.Core.Path.{◌≡◌, ap}
use Rattle.number.specs.Arith.{Arith}
use Rattle.number.specs.Functions.{Functions}
use Rattle.number.proofs.Rel.{Rel, FunRel, Both, both_held, then_both, cond_rel}
use Rattle.saftvrqmie_potential.specs.Potential.{PairIn, PotentialIn, first_order, second_order, prefactor, quantum_d, q1, q2, scaled, line, mie, add_first, add_second, after_shared, potential}

-- two pairs, or two potentials, part by part; the order is one
pub record PairR {S T : Type 0} (R : S → T → Type 0) (p : PairIn S) (q : PairIn T) : Type 0 where
  pub sigma : R p.sigma q.sigma
  pub epsilon_k : R p.epsilon_k q.epsilon_k
  pub c : R p.c q.c
  pub lr : R p.lr q.lr
  pub la : R p.la q.la
  pub mass : R p.mass q.mass
  pub order : p.order ≡ q.order
  pub temperature : R p.temperature q.temperature

pub record PotentialR {S T : Type 0} (R : S → T → Type 0) (v : PotentialIn S) (w : PotentialIn T) : Type 0 where
  pub u : R v.u w.u
  pub u_r : R v.u_r w.u_r
  pub u_rr : R v.u_rr w.u_rr

pub potential_r : {S T : Type 0} (R : S → T → Type 0) {v : PotentialIn S} {w : PotentialIn T} → R v.u w.u → R v.u_r w.u_r → R v.u_rr w.u_rr → PotentialR R v w
potential_r R x y z = record { u = x; u_r = y; u_rr = z }

module _ (A B : Arith) (K : Rel A B) (F : Functions A.Num) (G : Functions B.Num) (H : FunRel K.R F G) where
  open K use {R, r_add, r_sub, r_mul, r_div, r_neg, r_pow, r_lit, r_after}
  open H use {r_powf, r_tau}

  prefactor_rel : R (prefactor A F) (prefactor B G)
  unfolding prefactor
  prefactor_rel = search (r_mul, r_div, r_lit, r_tau) depth 12

  pub quantum_d_rel : {m t : A.Num} {m' t' : B.Num} → R m m' → R t t' → R (quantum_d A F m t) (quantum_d B G m' t')
  unfolding quantum_d
  quantum_d_rel p q = search (r_mul, r_div, r_lit, prefactor_rel) depth 8

  q1_rel : {l : A.Num} {l' : B.Num} → R l l' → R (q1 A l) (q1 B l')
  unfolding q1
  q1_rel p = search (r_mul, r_sub, r_lit) depth 6

  q2_rel : {l : A.Num} {l' : B.Num} → R l l' → R (q2 A l) (q2 B l')
  unfolding q2
  q2_rel p = search (r_mul, r_add, r_sub, r_lit) depth 10

  module _ {p : PairIn A.Num} {q : PairIn B.Num} (P : PairR R p q) {r : A.Num} {r' : B.Num} (pr : R r r') where
    line_rel : {er ea : A.Num} {er' ea' : B.Num} (f : A.Num → A.Num → A.Num → A.Num → A.Num) (g : B.Num → B.Num → B.Num → B.Num → B.Num) → R er er' → R ea ea'
        → ((a b c d : A.Num) (a' b' c' d' : B.Num) → R a a' → R b b' → R c c' → R d d' → R (f a b c d) (g a' b' c' d'))
        → Both R (line A F p r er ea f) (line B G q r' er' ea' g)
    unfolding line
    line_rel f g e a h =
        then_both (r_powf pr e) (λ _ _ x.
        then_both (r_powf P.sigma P.lr) (λ _ _ y.
        then_both (r_powf pr a) (λ _ _ z.
        then_both (r_powf P.sigma P.la) (λ _ _ t. both_held (h _ _ _ _ _ _ _ _ x y z t)))))

    plus_rel : {l : A.Num} {l' : B.Num} (n : lib.Ieee.Float) → R l l' → R (A.add l (A.lit n)) (B.add l' (B.lit n))
    plus_rel n h = r_add h (r_lit n)

    mie_rel : Both (PotentialR R) (mie A F p r) (mie B G q r')
    unfolding mie
    mie_rel =
        let lr = P.lr in
        let la = P.la in
        then_both (line_rel _ _ lr la (λ _ _ _ _ _ _ _ _ x y z t. search (r_sub, r_mul, r_div, r_lit) depth 10)) (λ _ _ u.
        then_both (line_rel _ _ (plus_rel _ lr) (plus_rel _ la) (λ _ _ _ _ _ _ _ _ x y z t. search (r_add, r_mul, r_div, r_neg, r_lit) depth 12)) (λ _ _ v.
        then_both (line_rel _ _ (plus_rel _ lr) (plus_rel _ la) (λ _ _ _ _ _ _ _ _ x y z t. search (r_add, r_sub, r_mul, r_div, r_lit) depth 12)) (λ _ _ w. both_held (potential_r R u v w))))

    add_first_rel : {v : PotentialIn A.Num} {w : PotentialIn B.Num} → PotentialR R v w → Both (PotentialR R) (add_first A F p r v) (add_first B G q r' w)
    unfolding add_first
    add_first_rel old =
        let lr = P.lr in
        let la = P.la in
        let qr = q1_rel P.lr in
        let qa = q1_rel P.la in
        let d = quantum_d_rel P.mass P.temperature in
        then_both (line_rel _ _ (plus_rel _ lr) (plus_rel _ la) (λ _ _ _ _ _ _ _ _ x y z t. search (r_sub, r_mul, r_div, r_lit) depth 12)) (λ _ _ u.
        then_both (line_rel _ _ (plus_rel _ lr) (plus_rel _ la) (λ _ _ _ _ _ _ _ _ x y z t. search (r_add, r_mul, r_div, r_neg, r_lit) depth 14)) (λ _ _ v.
        then_both (line_rel _ _ (plus_rel _ lr) (plus_rel _ la) (λ _ _ _ _ _ _ _ _ x y z t. search (r_add, r_sub, r_mul, r_div, r_lit) depth 14)) (λ _ _ w.
        both_held (potential_r R (r_add old.u (r_mul d u)) (r_add old.u_r (r_mul d v)) (r_add old.u_rr (r_mul d w))))))

    add_second_rel : {v : PotentialIn A.Num} {w : PotentialIn B.Num} → PotentialR R v w → Both (PotentialR R) (add_second A F p r v) (add_second B G q r' w)
    unfolding add_second
    add_second_rel old =
        let lr = P.lr in
        let la = P.la in
        let qr = q2_rel P.lr in
        let qa = q2_rel P.la in
        let d = r_pow 2 (quantum_d_rel P.mass P.temperature) in
        then_both (line_rel _ _ (plus_rel _ lr) (plus_rel _ la) (λ _ _ _ _ _ _ _ _ x y z t. search (r_sub, r_mul, r_div, r_lit) depth 12)) (λ _ _ u.
        then_both (line_rel _ _ (plus_rel _ lr) (plus_rel _ la) (λ _ _ _ _ _ _ _ _ x y z t. search (r_add, r_mul, r_div, r_neg, r_lit) depth 14)) (λ _ _ v.
        then_both (line_rel _ _ (plus_rel _ lr) (plus_rel _ la) (λ _ _ _ _ _ _ _ _ x y z t. search (r_add, r_sub, r_mul, r_div, r_lit) depth 14)) (λ _ _ w.
        both_held (potential_r R (r_add old.u (r_mul d u)) (r_add old.u_r (r_mul d v)) (r_add old.u_rr (r_mul d w))))))

    pub potential_rel : Both (PotentialR R) (potential A F p r) (potential B G q r')
    unfolding potential scaled after_shared
    potential_rel =
        let ce = r_mul P.c P.epsilon_k in
        then_both mie_rel (λ _ _ v.
        then_both (cond_rel (Both (PotentialR R)) _ _ (ap first_order P.order) (add_first_rel v) (both_held v)) (λ _ _ v₁.
        then_both (cond_rel (Both (PotentialR R)) _ _ (ap second_order P.order) (add_second_rel v₁) (both_held v₁)) (λ _ _ v₂.
        both_held
        (potential_r R
        (r_after (q1_rel P.lr) (r_after (q1_rel P.la) (r_after (q2_rel P.lr) (r_after (q2_rel P.la) (r_after (quantum_d_rel P.mass P.temperature) (r_mul v₂.u ce))))))
        (r_mul v₂.u_r ce)
        (r_mul v₂.u_rr ce)))))
